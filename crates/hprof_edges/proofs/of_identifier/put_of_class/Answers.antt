use Rattle.hprof_heap.specs.ClassDump.{class_value}
use Rattle.hprof_heap.specs.HeapFacts.{facts_of}
use Rattle.hprof_edges.specs.DumpEdges.{IsClassEdge}
use Rattle.hprof_edges.proofs.OnlyDumps.{by_class}
use Rattle.hprof_edges.proofs.PutTogether.{put_same}
use Rattle.hprof_edges.proofs.of_identifier.put_of_class.Goals as goal

pub returns-clause-holds : goal.returns-clause-holds
returns-clause-holds g c = λ edges held.
    let found = c.in-Some.ensures in
    let dump = class_value c.in-Some.dump in
    put_same edges (g.C.Collect.holds c.class_edges.new.into) (IsClassEdge dump) _ (c.in_ok-class_edges.ensures.holds edges held)
    (by_class (facts_of c.args.heap.now) c.args.id dump found.found found.id found.only)
