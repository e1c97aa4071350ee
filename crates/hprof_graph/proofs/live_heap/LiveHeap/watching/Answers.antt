use Rattle.std.proofs.Common.{Bool, ap, sym, ◌∙◌}
use Rattle.std.proofs.lemmas.Bool.{eq-eqb, eqb-true}
use Rattle.hprof_edges.specs.declared.edge.Edge.{Edge}
use Rattle.hprof_graph.proofs.live_heap.LiveHeap.watching.Goals as goal

pub returns-clause-watches : goal.returns-clause-watches
returns-clause-watches c = record {
  current = c.wanting.ensures.current;
  keeps = λ edge to. ap (λ (keeps : Edge → Bool). keeps edge) c.wanting.ensures.keeps ∙ eq-eqb edge.to c.args.id to;
}

pub returns-clause-only : goal.returns-clause-only
returns-clause-only c = λ edge kept.
    eqb-true edge.to c.args.id (sym (ap (λ (keeps : Edge → Bool). keeps edge) c.wanting.ensures.keeps) ∙ kept)
