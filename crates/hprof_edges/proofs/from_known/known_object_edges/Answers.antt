use Rattle.std.proofs.Common.{◌≡◌}
use Rattle.hprof_heap.specs.HeapFacts.{facts_of, size_of}
use Rattle.hprof_edges.specs.declared.edge.Edge.{Edge}
use Rattle.hprof_edges.specs.DumpEdges.{GivenByObject}
use Rattle.hprof_edges.specs.LeftOut.{IsKept, fields_in}
use Rattle.hprof_edges.proofs.LeftOutEdges.{kept_from_object}
use Rattle.hprof_edges.proofs.PutTogether.{put_same}
use Rattle.hprof_edges.proofs.from_known.known_object_edges.Goals as goal

pub returns-clause-holds : goal.returns-clause-holds
returns-clause-holds g c = λ edges knows held.
    let size = size_of c.args.heap.now in
    let facts = facts_of c.args.heap.now in
    let fields = fields_in c.args.left_out.now in
    put_same edges (g.C.Collect.holds c.put_of_known_object.new.into)
    (λ (edge : Edge). (edge.from ≡ c.args.id) × GivenByObject size facts edge × IsKept fields facts edge) _
    (c.in_ok-put_of_known_object.ensures.holds edges knows held) (kept_from_object size facts fields c.args.id c.requires)
