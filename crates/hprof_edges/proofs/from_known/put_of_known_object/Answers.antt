use Rattle.std.proofs.Common.{refl, sym, subst}
use Rattle.hprof_values.specs.declared.ids.IdSize.{IdSize}
use Rattle.hprof_heap.specs.HeapFacts.{facts_of, size_of}
use Rattle.hprof_heap.specs.ObjectDump.{fact_of_object}
use Rattle.hprof_heap.proofs.ObjectFacts.{IsOnlyObject}
use Rattle.hprof_layouts.specs.Known.{Knows}
use Rattle.hprof_edges.specs.declared.edge.Edge.{Edge}
use Rattle.hprof_edges.specs.Collecting.{PutBehind}
use Rattle.hprof_edges.specs.DumpEdges.{IsObjectEdge}
use Rattle.hprof_edges.specs.LeftOut.{IsLeftOutOf, fields_in}
use Rattle.hprof_edges.proofs.LeftOutEdges.{kept_of_only}
use Rattle.hprof_edges.proofs.OnlyDumps.{by_no_object}
use Rattle.hprof_edges.proofs.PutTogether.{put_nothing, put_same}
use Rattle.hprof_edges.proofs.from_known.put_of_known_object.Goals as goal

pub returns-in_default : goal.returns-in_default
returns-in_default g c = record {
  holds = λ edges knows held.
      put_nothing edges (g.C.Collect.holds c.args.into.now) _ held (λ edge given.
      by_no_object (size_of c.args.heap.now) (facts_of c.args.heap.now) c.args.id c.in_default.ensures.none edge (given.0, given.1));
  keeps = refl;
}

pub returns-clause-holds : goal.returns-clause-holds
returns-clause-holds g c = λ edges knows held.
    let size = size_of c.args.heap.now in
    let facts = facts_of c.args.heap.now in
    let fields = fields_in c.args.left_out.now in
    let fact = fact_of_object c.in-Some.dump in
    let found = c.in-Some.ensures in
    let only : IsOnlyObject facts c.args.id fact = record { has = found.found; id = found.id; only = found.only } in
    let after = g.C.Collect.holds c.kept_object_edges.new.into in
    let same = c.id_size.ensures.value in
    put_same edges after (λ (edge : Edge). IsObjectEdge size facts fact edge × ¬ IsLeftOutOf fields fact edge) _
    (subst (λ (i : IdSize). PutBehind after edges (λ (edge : Edge). IsObjectEdge i facts fact edge × ¬ IsLeftOutOf fields fact edge)) same
    (c.in_ok-kept_object_edges.ensures.holds facts edges (subst (λ (i : IdSize). Knows i facts c.args.known.now) (sym same) knows) held))
    (kept_of_only size facts fields c.args.id fact only)
