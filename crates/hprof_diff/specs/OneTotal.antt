-- Facts that agree have one total for each label.
use Rattle.std.proofs.Common.{◌≡◌, ◌⊎◌, inl, inr, ℕ, Bool, true, false, cond, List, [], ◌∷◌, map, refl, sym, ap, ◌∙◌}
use Rattle.std.specs.Prelude.{bytes_eq}
use Rattle.std.proofs.lemmas.Slice.Eq.{bytes_eq-Decides}
use Rattle.hprof_values.specs.declared.ids.IdSize.{IdSize}
use Rattle.hprof_items.specs.FactValue.{FactValue}
use Rattle.hprof_rows.specs.Conflict.{IsConsistent}
use Rattle.hprof_histogram.specs.declared.row.Row.{Row}
use Rattle.hprof_histogram.proofs.Members.{IsIn}
use Rattle.hprof_histogram.proofs.OneHistogram.{at_most_one}
use Rattle.hprof_histogram.proofs.SomeHistogram.{at_least_one}
use Rattle.hprof_diff.specs.Labels.{bytes_of_rows, count_of_rows, kind_label, labelled}
use Rattle.hprof_diff.specs.Counts.{AreTotals, Totals}
use Rattle.hprof_meaning.proofs.LabelTexts.{labels_exist, one_bare_label}

pub totals_exist : (ids : IdSize) (facts : List FactValue) → (totals : Totals) × AreTotals ids facts totals
totals_exist ids facts =
    let rows = at_least_one ids facts in
    let label = labels_exist facts in (
      record {
        count = λ text. count_of_rows (labelled label.0 text rows.0);
        bytes = λ text. bytes_of_rows (labelled label.0 text rows.0);
      },
      record {
        rows = rows.0;
        are_rows = rows.1;
        label = label.0;
        are_labels = label.1;
        counts = λ text. refl;
        bytes = λ text. refl;
      },
    )

pub one_total : (ids : IdSize) (facts : List FactValue) (one other : Totals) → IsConsistent facts → AreTotals ids facts one
    → AreTotals ids facts other → one ≡ other
one_total ids facts one other agree is is_too =
    let rows = at_most_one ids facts is.rows is_too.rows is.are_rows is_too.are_rows in
    let each = λ (class : ℕ). one_bare_label facts agree class (is.label class) (is_too.label class) (is.are_labels class)
    (is_too.are_labels class) in
    let label : is.label ≡ is_too.label = λ i class. each class i in
    let count = λ (text : List ℕ). is.counts text ∙ (λ i. count_of_rows (labelled (label i) text (rows i))) ∙ sym (is_too.counts text) in
    let bytes = λ (text : List ℕ). is.bytes text ∙ (λ i. bytes_of_rows (labelled (label i) text (rows i))) ∙ sym (is_too.bytes text) in
    λ i. record { count = λ text. count text i; bytes = λ text. bytes text i }

-- ---- the labels that have objects

-- the labels of rows
abbrev pub labels_of : (ℕ → List ℕ) → List Row → List (List ℕ)
labels_of label rows = map (λ row. kind_label label row.kind) rows

in_or_none : (label : ℕ → List ℕ) (text : List ℕ) (rows : List Row) → IsIn text (labels_of label rows) ⊎ (labelled label text rows ≡ [])
in_or_none label text [] = inr refl
in_or_none label text (row ∷ rows) = by_test (in_or_none label text rows) (bytes_eq (kind_label label row.kind) text) refl where
  by_test : IsIn text (labels_of label rows) ⊎ (labelled label text rows ≡ []) → (b : Bool) → bytes_eq (kind_label label row.kind) text ≡ b
      → IsIn text (labels_of label (row ∷ rows)) ⊎ (cond b (row ∷ labelled label text rows) (labelled label text rows) ≡ [])
  by_test others true e = inl (inl (sym ((bytes_eq-Decides (kind_label label row.kind) text).0 e)))
  by_test (inl has) false e = inl (inr has)
  by_test (inr none) false e = inr none

-- a label has no objects
abbrev pub HasNone : Totals → List ℕ → Type 0
HasNone totals text = (totals.count text ≡ 0) × (totals.bytes text ≡ 0)

-- what has objects is one of these labels
pub counted_or_none : (ids : IdSize) (facts : List FactValue) (totals : Totals) (is : AreTotals ids facts totals) (text : List ℕ)
    → IsIn text (labels_of is.label is.rows) ⊎ HasNone totals text
counted_or_none ids facts totals is text = elim (in_or_none is.label text is.rows) [
  | inl has ↦ inl has
  | inr none ↦ inr (is.counts text ∙ ap count_of_rows none, is.bytes text ∙ ap bytes_of_rows none)
]
