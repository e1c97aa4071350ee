use Rattle.std.proofs.Common.{Result, refl, ap, sym, subst, ◌∙◌}
use Rattle.hprof_rows.specs.HeapValue.{HeapValue}
use Rattle.hprof_heap.specs.declared.standing.Refusal.{Refusal}
use Rattle.hprof_heap.specs.Gathering.{answer_of}
use Rattle.hprof_graph.specs.LiveHeap.{IsDerivedOf}
use Rattle.hprof_graph.proofs.Outcomes.{sound_outcome}
use Rattle.hprof_graph.proofs.live_heap.LiveHeap.wanting.Goals as goal

pub returns-clause-current : goal.returns-clause-current
returns-clause-current c = record {
  derived = subst (λ (o : Result HeapValue Refusal). IsDerivedOf o c.new-2.result)
      (sym (sound_outcome (record { gatherer = c.new.result; derived = c.new-2.result; failed = _ }) refl ∙ ap answer_of c.new.ensures))
      c.new-2.ensures.derived;
}

pub returns-clause-keeps : goal.returns-clause-keeps
returns-clause-keeps c = c.new-2.ensures.keeps
