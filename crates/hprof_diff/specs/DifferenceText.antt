-- The report `diff`: what grew from one heap to another, label by label.
use Rattle.std.specs.Prelude.{◌≡◌, ℕ, ◌-◌, List, [], ◌∷◌, ◌++◌, map, cond, codes, nat_lt, ⊤}
use Rattle.std.specs.Fmt.{decimal}
use Rattle.hprof_values.specs.declared.ids.IdSize.{IdSize}
use Rattle.hprof_items.specs.FactValue.{FactValue}
use Rattle.hprof_stream.specs.declared.summary.PartSummary.{PartSummary}
use Rattle.hprof_rows.specs.HeapValue.{HeapValue}
use Rattle.hprof_rows.specs.Conflict.{IsConsistent}
use Rattle.hprof_diff.specs.Counts.{AreTotals, Totals}
use Rattle.hprof_diff.specs.Difference.{ChangeValue, IsDifference, StepValue}
use Rattle.hprof_engine.specs.Joining.{Agree}
use Rattle.hprof_engine.specs.Makes.{Making, making_of}
use Rattle.hprof_lines.specs.Line.{line_of, text_of_lines}

-- the newer number less the older one, with its sign; 0 has none
abbrev pub step_text : StepValue → List ℕ
step_text step = cond (nat_lt step.old step.new) (codes "+" ++ decimal (step.new - step.old))
    (cond (nat_lt step.new step.old) (codes "-" ++ decimal (step.old - step.new)) (codes "0"))

-- the bytes, the number and the label of objects that changed
abbrev pub change_line : ChangeValue → List ℕ
change_line change = line_of (step_text change.bytes ∷ step_text change.count ∷ change.label ∷ [])

abbrev pub changes_text : List ChangeValue → List ℕ
changes_text changes = text_of_lines (map change_line changes)

-- the text is the report of two heaps with these totals
pub record IsDifferenceText (old new : Totals) (text : List ℕ) : Type 0 where
  pub changes : List ChangeValue
  pub is_difference : IsDifference old new changes
  pub is : text ≡ changes_text changes

-- the text is the report of a heap with these totals and of these facts, which agree
pub record IsGrowthText (old : Totals) (ids : IdSize) (facts : List FactValue) (text : List ℕ) : Type 0 where
  pub agree : IsConsistent facts
  pub new : Totals
  pub are_totals : AreTotals ids facts new
  pub is : IsDifferenceText old new text

-- the text is the report of a heap with these totals and of that heap
abbrev pub IsGrowthReport : Totals → List PartSummary → HeapValue → List ℕ → Type 0
IsGrowthReport old summaries heap text = IsGrowthText old heap.ids heap.facts text

-- that report, which takes memory while it is made
abbrev pub growth_making : Totals → Making
growth_making old = making_of (IsGrowthReport old) (λ refusal heap. ⊥) (λ parts. ⊥) ⊤

-- the parts agree, and these are the totals of the heap that they state
pub record AreTotalsOf (parts : List (List ℕ)) (totals : Totals) : Type 0 where
  pub heap : HeapValue
  pub agree : Agree parts heap.ids heap.millis heap.facts
  pub are_totals : AreTotals heap.ids heap.facts totals

-- the text is the report of the heap that the older parts state and of the heap that the newer ones state
pub record IsDifferenceOf (olds news : List (List ℕ)) (text : List ℕ) : Type 0 where
  pub old : Totals
  pub are_old : AreTotalsOf olds old
  pub new : Totals
  pub are_new : AreTotalsOf news new
  pub is : IsDifferenceText old new text
