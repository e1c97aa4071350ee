-- Reports that were written of a small heap.
use Rattle.std.proofs.Common.{◌||◌, ℕ, Bool, false, List, [], ◌∷◌, refl, ap, subst}
use Rattle.std.specs.Prelude.{IsTrue}
use Rattle.std.proofs.lemmas.Bool.{eq-eqb}
use Rattle.hprof_values.specs.declared.ids.IdSize.{IdSize}
use Rattle.hprof_items.specs.FactValue.{FactValue}
use Rattle.hprof_rows.proofs.Order.{order_agrees}
use Rattle.hprof_heap.specs.declared.heap.Heap.{Heap}
use Rattle.hprof_heap.specs.HeapFacts.{facts_of, size_of}
use Rattle.hprof_histogram.specs.Chosen.{is_among}
use Rattle.hprof_passes.specs.Passing.{IsWhole}
use Rattle.hprof_reports.specs.ObjectText.{IsObjectText}
use Rattle.hprof_reports.specs.TextObjects.{IsTextHeap}
use Rattle.hprof_reports.specs.TextReport.{IsTextLine}
use Rattle.hprof_small.specs.Small.{IsSmallHeap}
use Rattle.hprof_reports.proofs.SmallReports.{object_text_in_all, text_line_in_all}

-- an identifier alone is among those that are wanted
pub alone : (id : ℕ) → IsTrue (is_among (id ∷ []) id)
alone id = ap (λ (b : Bool). b || false) (eq-eqb id id refl)

module _ (ids : IdSize) (facts all : List FactValue) (whole : IsWhole ids facts all) (small : Heap) (id : ℕ) (P : List ℕ → Type 0) where
  -- a text that is that of the small heap is that of the whole
  pub object_over : (millis : ℕ) → IsSmallHeap millis ids (id ∷ []) all small
      → (text : List ℕ) × IsObjectText (size_of small) (facts_of small) id text × P text
      → (text : List ℕ) × IsObjectText ids all id text × P text
  object_over millis is written = (
    written.0,
    object_text_in_all ids (id ∷ []) all (facts_of small) id written.0 (order_agrees all whole.ordered) is.facts (alone id)
        (subst (λ (i : IdSize). IsObjectText i (facts_of small) id written.0) is.size written.1),
    written.2,
  )

  -- and so is a line
  pub text_over : IsTextHeap ids id all small → (line : List ℕ) × IsTextLine (size_of small) (facts_of small) id line × P line
      → (line : List ℕ) × IsTextLine ids all id line × P line
  text_over is written = (
    written.0,
    text_line_in_all ids is.wanted all (facts_of small) id written.0 (order_agrees all whole.ordered) is.facts is.has_object is.has_array
        (subst (λ (i : IdSize). IsTextLine i (facts_of small) id written.0) is.size written.1),
    written.2,
  )
