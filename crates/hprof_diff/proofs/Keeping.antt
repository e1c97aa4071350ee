-- Parts that are kept under their labels, one after the other.
use Rattle.std.proofs.Common.{◌≡◌, ℕ, Bool, true, false, cond, List, [], ◌∷◌, ◌++◌, sym, ap, subst, ◌∙◌}
use Rattle.std.specs.Prelude.{bytes_eq}
use Rattle.hprof_items.specs.FactValue.{FactValue}
use Rattle.hprof_rows.specs.Conflict.{IsConsistent}
use Rattle.hprof_histogram.specs.declared.row.Row.{Row}
use Rattle.hprof_diff.specs.declared.counted.Counted.{Counted}
use Rattle.hprof_diff.specs.declared.label_count.LabelCount.{LabelCount}
use Rattle.hprof_diff.specs.declared.label_count.LabelSource.{LabelSource}
use Rattle.hprof_diff.specs.declared.label_counts.LabelCounts.{LabelCounts}
use Rattle.hprof_meaning.specs.BareLabels.{AreBareLabels}
use Rattle.hprof_diff.specs.Labels.{kind_label}
use Rattle.hprof_diff.specs.Sources.{AreSourceLabels, IsPart, IsSourceLabel, both, counted_of_row, nothing, parts_under, rows_under}
use Rattle.hprof_diff.specs.Kept.{AreKept, kept_in}
use Rattle.hprof_diff.proofs.Sums.{both_assoc, both_nothing, has_it, has_not, if_has, moved_more, nothing_both, under_cons}
use Rattle.hprof_diff.specs.LabelTexts.{label_of_kind, one_source_label}

-- ---- rows that become parts

-- the parts so far, and then the rows that are left, have what all rows have
abbrev pub ArePartsTo : List FactValue → List Row → List LabelCount → List Row → Type 0
ArePartsTo facts all parts left = (label : LabelSource → List ℕ) (class_label : ℕ → List ℕ) → AreSourceLabels facts label
    → AreBareLabels facts class_label → (text : List ℕ)
    → both (parts_under label text parts) (rows_under class_label text left) ≡ rows_under class_label text all

pub parts_begin : (facts : List FactValue) (rows left : List Row) (parts : List LabelCount) → parts ≡ [] → left ≡ rows
    → ArePartsTo facts rows parts left
parts_begin facts rows left parts none e = subst (λ (p : List LabelCount). ArePartsTo facts rows p left) (sym none)
    (λ label class_label are are_too text. nothing_both (rows_under class_label text left) ∙ ap (rows_under class_label text) e)

pub parts_more : (facts : List FactValue) → IsConsistent facts
    → (all left rest : List Row) (parts after : List LabelCount) (row : Row) (part : LabelCount)
    → IsPart facts row part → left ≡ row ∷ rest → after ≡ parts ++ part ∷ [] → ArePartsTo facts all parts left
    → ArePartsTo facts all after rest
parts_more facts agree all left rest parts after row part is taken pushed to =
    subst (λ (p : List LabelCount). ArePartsTo facts all p rest) (sym pushed) (λ label class_label are are_too text.
    moved_more (λ (p : LabelCount). label p.source) (λ (p : LabelCount). p.counted) (λ (r : Row). kind_label class_label r.kind)
    counted_of_row text
    parts part row rest (label_of_kind facts agree label class_label are are_too row.kind part.source is.source) is.counted
    ∙ ap (λ (l : List Row). both (parts_under label text parts) (rows_under class_label text l)) (sym taken)
    ∙ to label class_label are are_too text)

pub parts_end : (facts : List FactValue) (all left : List Row) (parts : List LabelCount) → left ≡ [] → ArePartsTo facts all parts left
    → ArePartsTo facts all parts []
parts_end facts all left parts none to = subst (ArePartsTo facts all parts) none to

pub parts_labelled : (facts : List FactValue) (all : List Row) (parts : List LabelCount) → ArePartsTo facts all parts []
    → (label : LabelSource → List ℕ) (class_label : ℕ → List ℕ) → AreSourceLabels facts label → AreBareLabels facts class_label
    → (text : List ℕ) → parts_under label text parts ≡ rows_under class_label text all
parts_labelled facts all parts to label class_label are are_too text =
    sym (both_nothing (parts_under label text parts)) ∙ to label class_label are are_too text

-- ---- a run of parts of one source

-- the sum and what is left count under each label as all did
abbrev pub IsRunTo : List LabelCount → LabelCount → List LabelCount → Type 0
IsRunTo all sum left = (label : LabelSource → List ℕ) (text : List ℕ) → parts_under label text (sum ∷ left) ≡ parts_under label text all

-- a run of the parts that are left
pub run_taken : (left after behind : List LabelCount) (first sum : LabelCount) → left ≡ first ∷ after → IsRunTo (first ∷ after) sum behind
    → IsRunTo left sum behind
run_taken left after behind first sum taken run = subst (λ (l : List LabelCount). IsRunTo l sum behind) (sym taken) run

-- two that have a label, or have not
both_if : (b : Bool) (these those : Counted) → if_has b (both these those) ≡ both (if_has b these) (if_has b those)
both_if true these those =
    has_it (both these those) ∙ ap (λ (c : Counted). both c those) (sym (has_it these)) ∙ ap (both (if_has true these)) (sym (has_it those))
both_if false these those =
    has_not (both these those) ∙ ap (λ (c : Counted). both c nothing) (sym (has_not these))
    ∙ ap (both (if_has false these)) (sym (has_not those))

pub run_more : (all left rest : List LabelCount) (sum part after : LabelCount) → left ≡ part ∷ rest → part.source ≡ sum.source
    → after ≡ record { source = sum.source; counted = both sum.counted part.counted } → IsRunTo all sum left → IsRunTo all after rest
run_more all left rest sum part after taken same is to label text =
    let counted = λ (p : LabelCount). p.counted in
    let by = λ (p : LabelCount). label p.source in
    let b = bytes_eq (label sum.source) text in
    let under = parts_under label text rest in
    ap (λ (p : LabelCount). parts_under label text (p ∷ rest)) is
    ∙ under_cons by counted text (record { source = sum.source; counted = both sum.counted part.counted }) rest
    ∙ ap (λ (c : Counted). both c under) (both_if b sum.counted part.counted)
    ∙ both_assoc (if_has b sum.counted) (if_has b part.counted) under
    ∙ ap (λ (s : LabelSource). both (if_has b sum.counted) (both (if_has (bytes_eq (label s) text) part.counted) under)) (sym same)
    ∙ ap (both (if_has b sum.counted)) (sym (under_cons by counted text part rest))
    ∙ ap (λ (l : List LabelCount). both (if_has b sum.counted) (parts_under label text l)) (sym taken)
    ∙ sym (under_cons by counted text sum left)
    ∙ to label text

-- ---- parts that are kept

-- what is kept, and then the parts that are left, is what all parts have
abbrev pub AreKeptTo : List FactValue → List LabelCount → LabelCounts → List LabelCount → Type 0
AreKeptTo facts all counts left = (label : LabelSource → List ℕ) → AreSourceLabels facts label → (text : List ℕ)
    → both (kept_in counts text) (parts_under label text left) ≡ parts_under label text all

pub kept_begins : (facts : List FactValue) (all left : List LabelCount) (counts : LabelCounts)
    → ((text : List ℕ) → kept_in counts text ≡ nothing)
    → left ≡ all → AreKeptTo facts all counts left
kept_begins facts all left counts none e label are text =
    ap (λ (c : Counted). both c (parts_under label text left)) (none text) ∙ nothing_both (parts_under label text left)
    ∙ ap (parts_under label text) e

pub kept_ends : (facts : List FactValue) (all left : List LabelCount) (counts : LabelCounts) → left ≡ [] → AreKeptTo facts all counts left
    → AreKept facts all counts
kept_ends facts all left counts none to label are text =
    sym (both_nothing (kept_in counts text)) ∙ ap (λ (l : List LabelCount). both (kept_in counts text) (parts_under label text l))
    (sym none)
    ∙ to label are text

module _ (facts : List FactValue) (agree : IsConsistent facts) (all left behind : List LabelCount) (part : LabelCount)
    (run : IsRunTo left part behind)
    (text : List ℕ) (is : IsSourceLabel facts part.source text) (old : LabelCounts) (to : AreKeptTo facts all old left) where
  -- the part is taken from what is left
  taken_from : (label : LabelSource → List ℕ) → AreSourceLabels facts label → (t : List ℕ)
      → both (kept_in old t) (both (if_has (bytes_eq text t) part.counted) (parts_under label t behind)) ≡ parts_under label t all
  taken_from label are t =
      ap (λ (s : List ℕ). both (kept_in old t) (both (if_has (bytes_eq s t) part.counted) (parts_under label t behind)))
      (one_source_label facts agree part.source text (label part.source) is (are part.source))
      ∙ ap (both (kept_in old t))
      (sym (under_cons (λ (p : LabelCount). label p.source) (λ (p : LabelCount). p.counted) t part behind) ∙ run label t)
      ∙ to label are t

  -- what is added is kept
  pub kept_more : (new : LabelCounts) → ((t : List ℕ) → kept_in new t
      ≡ cond (bytes_eq text t) (both (kept_in old t) part.counted) (kept_in old t)) → AreKeptTo facts all new behind
  kept_more new adds label are t = by_test (bytes_eq text t) (adds t) (taken_from label are t) where
    by_test : (b : Bool) → kept_in new t ≡ cond b (both (kept_in old t) part.counted) (kept_in old t)
        → both (kept_in old t) (both (if_has b part.counted) (parts_under label t behind)) ≡ parts_under label t all
        → both (kept_in new t) (parts_under label t behind) ≡ parts_under label t all
    by_test true now before =
        ap (λ (c : Counted). both c (parts_under label t behind)) now
        ∙ both_assoc (kept_in old t) part.counted (parts_under label t behind)
        ∙ ap (λ (c : Counted). both (kept_in old t) (both c (parts_under label t behind))) (sym (has_it part.counted)) ∙ before
    by_test false now before =
        ap (λ (c : Counted). both c (parts_under label t behind)) now
        ∙ ap (both (kept_in old t)) (sym (nothing_both (parts_under label t behind)))
        ∙ ap (λ (c : Counted). both (kept_in old t) (both c (parts_under label t behind))) (sym (has_not part.counted)) ∙ before
