use Rattle.std.specs.Prelude.{◌↔◌, Contains}
use Rattle.std.proofs.Common.{◌⊎◌, ℕ, List, sym, subst}
use Rattle.hprof_rows.proofs.Order.{order_agrees}
use Rattle.hprof_edges.specs.LeftOut.{fields_in}
use Rattle.hprof_heap.specs.HeapFacts.{facts_of, size_of}
use Rattle.hprof_numbers.specs.Numbered.{nodes_in}
use Rattle.hprof_retained.proofs.Crossing.{weakly_is}
use Rattle.hprof_retained.proofs.weakly_over.weak_nodes_over.Goals as goal

pub returns-in-Ok-reached_outside-clause-held : goal.returns-in-Ok-reached_outside-clause-held
returns-in-Ok-reached_outside-clause-held g c = (
  c.in-Ok.ensures.around.0,
  λ all make node.
      let ids = size_of c.args.heap.now in
      let whole = g.met.O.Objects.whole c.args.objects.now ids (facts_of c.args.heap.now) all make in
      let others = c.in-Ok.border.others.items in
      let sources = c.in-Ok.border.sources.items in
      let none = fields_in c.none-none.result in
      let nodes = nodes_in c.in-Ok-edges_over.made.0 in
      let edges = c.in-Ok-edges_over.ensures.exact.1 all make in
      let joined : (one : ℕ) → Contains nodes one ↔ (Contains others one ⊎ Contains sources one) =
      subst (λ (l : List ℕ). (one : ℕ) → Contains l one ↔ (Contains others one ⊎ Contains sources one)) (sym edges.0)
      c.in-Ok-numbered_around.ensures in
      let found = c.in-Ok-reached_outside.ensures.exact ids all none edges.1 node in
      let is = weakly_is ids all (order_agrees all whole.ordered) (fields_in c.args.weak.now) c.args.retained.now
      (c.requires.weak all make) (c.requires.tree all make) others sources nodes (c.in-Ok.ensures.around.1 all make) joined none
      c.none-none.ensures node in
      (λ has. is.0 (found.0 has), λ weakly. found.1 (is.1 weakly)),
)
