-- What is made of parts is made of what they come to.
use Rattle.std.proofs.Common.{◌≡◌, ℕ, List, ap, subst, ◌∙◌}
use Rattle.hprof_values.specs.declared.ids.IdSize.{IdSize}
use Rattle.hprof_items.specs.FactValue.{FactValue}
use Rattle.hprof_stream.specs.declared.summary.PartSummary.{PartSummary}
use Rattle.hprof_rows.specs.HeapValue.{HeapValue}
use Rattle.hprof_rows.specs.Conflict.{IsConsistent}
use Rattle.hprof_rows.proofs.Order.{one_order}
use Rattle.hprof_engine.specs.Joining.{Agree}
use Rattle.hprof_engine.specs.Makes.{IsMadeOf}
use Rattle.hprof_engine.specs.Outcome.{Outcome, OneHeap, ComesTo}
use Rattle.hprof_engine.specs.Summaries.{AreSummaries}
use Rattle.hprof_engine.proofs.OneSummary.{one_summary_each, some_summary_each}
use Rattle.hprof_engine.proofs.Outcomes.{one_state}

-- parts that agree state one heap
one_heap : (parts : List (List ℕ)) (heap other : HeapValue) → Agree parts heap.ids heap.millis heap.facts
    → Agree parts other.ids other.millis other.facts → heap ≡ other
one_heap parts heap other one two =
    let once = one_state parts heap.ids other.ids heap.millis other.millis heap.facts other.facts one.state two.state in
    ap (λ (i : IdSize). record { ids = i; millis = heap.millis; facts = heap.facts }) once.0
    ∙ ap (λ (m : ℕ). record { ids = other.ids; millis = m; facts = heap.facts }) once.1
    ∙ ap (λ (f : List FactValue). record { ids = other.ids; millis = other.millis; facts = f })
    (one_order heap.facts other.facts one.ordered two.ordered once.2)

module _ (IsText : List PartSummary → HeapValue → List ℕ → Type 0) where
  -- what has one text for each heap and its summaries has one for parts
  pub made_once : ((summaries : List PartSummary) (heap : HeapValue) (one other : List ℕ) → IsText summaries heap one
      → IsText summaries heap other → one ≡ other)
      → (parts : List (List ℕ)) (one other : List ℕ) → IsMadeOf IsText parts one → IsMadeOf IsText parts other → one ≡ other
  made_once one_text parts one other is is_too =
      let summaries = one_summary_each parts is_too.summaries is.summaries is_too.of_parts is.of_parts in
      let heap = one_heap parts is_too.heap is.heap is_too.agree is.agree in
      let of_heap = subst (λ (h : HeapValue). IsText is_too.summaries h other) heap is_too.is in
      one_text is.summaries is.heap one other is.is (subst (λ (s : List PartSummary). IsText s is.heap other) summaries of_heap)

  -- what is made of the heap alone is made of other parts that come to it
  pub made_again : ((summaries others : List PartSummary) (heap : HeapValue) (text : List ℕ) → IsText summaries heap text
      → IsText others heap text)
      → (parts others : List (List ℕ)) (text : List ℕ) → ((outcome : Outcome) → ComesTo parts outcome → ComesTo others outcome)
      → IsMadeOf IsText parts text → IsMadeOf IsText others text
  made_again alone parts others text comes is =
      let agree = comes (OneHeap is.heap.ids is.heap.millis is.heap.facts) is.agree in
      let summaries = some_summary_each agree.state.states agree.state.each in
      record {
        heap = is.heap;
        agree = agree;
        summaries = summaries.0;
        of_parts = subst (λ (l : List (List ℕ)). AreSummaries l summaries.0) agree.state.of_parts summaries.1;
        is = alone is.summaries summaries.0 is.heap text is.is;
      }

  -- and there is one where parts agree, if each heap whose facts agree has one
  pub made_some : ((summaries : List PartSummary) (heap : HeapValue) → IsConsistent heap.facts → (text : List ℕ)
      × IsText summaries heap text)
      → (parts : List (List ℕ)) (heap : HeapValue) → Agree parts heap.ids heap.millis heap.facts → (text : List ℕ)
      × IsMadeOf IsText parts text
  made_some some_text parts heap agree =
      let summaries = some_summary_each agree.state.states agree.state.each in
      let text = some_text summaries.0 heap agree.consistent in (
        text.0,
        record {
          heap = heap;
          agree = agree;
          summaries = summaries.0;
          of_parts = subst (λ (l : List (List ℕ)). AreSummaries l summaries.0) agree.state.of_parts summaries.1;
          is = text.1;
        },
      )
