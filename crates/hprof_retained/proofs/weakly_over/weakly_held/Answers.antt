use Rattle.std.specs.Prelude.{◌↔◌}
use Rattle.std.proofs.Common.{List, refl, sym, subst}
use Rattle.hprof_items.specs.FactValue.{FactValue}
use Rattle.hprof_edges.specs.Edges.{IsEdge}
use Rattle.hprof_edges.specs.LeftOut.{IsLeftOut, fields_in}
use Rattle.hprof_edges.specs.declared.edge.Edge.{Edge}
use Rattle.hprof_heap.specs.HeapFacts.{facts_of, size_of}
use Rattle.hprof_weak.specs.Weak.{IsWeak}
use Rattle.hprof_retained.specs.Tree.{IsTreeOf}
use Rattle.hprof_retained.proofs.weakly_over.weakly_held.Goals as goal

pub weakly_held_over-requires : goal.weakly_held_over-requires
weakly_held_over-requires c = record {
  weak = λ all is. subst (λ (facts : List FactValue). (edge : Edge) → IsEdge (size_of c.args.heap.now) facts edge
      → IsLeftOut (fields_in c.args.weak.now) facts edge ↔ IsWeak facts edge) (sym is.same) c.requires.weak;
  tree = λ all is. subst (λ (facts : List FactValue). IsTreeOf (size_of c.args.heap.now) facts c.args.retained.now) (sym is.same)
      c.requires.retained;
}

pub returns-in-Ok : goal.returns-in-Ok
returns-in-Ok c =
    c.in-Ok.ensures.held.1 (facts_of c.args.heap.now)
    (record { same = refl; fit = c.holds_of_heap.ensures.fit; ordered = c.holds_of_heap.ensures.ordered })
