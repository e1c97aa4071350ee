-- Labels are there, and each is the only one.
use Rattle.std.proofs.Common.{◌≡◌, ℕ, List, ◌++◌, refl, sym, ap, ◌∙◌, codes}
use Rattle.hprof_values.specs.declared.basic.Basic.{Basic}
use Rattle.hprof_items.specs.FactValue.{FactValue}
use Rattle.hprof_rows.specs.Conflict.{IsConsistent}
use Rattle.hprof_histogram.specs.declared.row.Kind.{Kind}
use Rattle.hprof_histogram.specs.declared.row.Kind.TheVariants as kinds
use Rattle.hprof_naming.proofs.FirstLoads.{one_class_name}
use Rattle.hprof_naming.specs.TypeWord.{type_word}
use Rattle.hprof_diff.specs.declared.label_count.LabelSource.{LabelSource}
use Rattle.hprof_diff.specs.declared.label_count.LabelSource.TheVariants.{Class, Prim}
use Rattle.hprof_meaning.proofs.LabelTexts.{bare_of_exists, of_that_name, one_bare_of}
use Rattle.hprof_meaning.specs.BareLabels.{AreBareLabels}
use Rattle.hprof_diff.specs.Labels.{kind_label}
use Rattle.hprof_diff.specs.Sources.{AreSourceLabels, IsSource, IsSourceLabel}

-- ---- there is one

source_exists : (facts : List FactValue) (source : LabelSource) → (text : List ℕ) × IsSourceLabel facts source text
source_exists facts (Class name) = bare_of_exists facts name
source_exists facts (Prim elem) = (type_word elem ++ codes "[]", refl)

pub source_labels_exist : (facts : List FactValue) → (label : LabelSource → List ℕ) × AreSourceLabels facts label
source_labels_exist facts = (λ source. (source_exists facts source).0, λ source. (source_exists facts source).1)

-- ---- and no other

module _ (facts : List FactValue) (agree : IsConsistent facts) where
  pub one_source_label : (source : LabelSource) (one other : List ℕ) → IsSourceLabel facts source one → IsSourceLabel facts source other
      → one ≡ other
  one_source_label (Class name) one other is is_too = one_bare_of facts agree name one other is is_too
  one_source_label (Prim elem) one other is is_too = is ∙ sym is_too

  -- the label from its source is that of the kind
  pub label_of_kind : (label : LabelSource → List ℕ) (class_label : ℕ → List ℕ) → AreSourceLabels facts label
      → AreBareLabels facts class_label
      → (kind : Kind) (source : LabelSource) → IsSource facts kind source → label source ≡ kind_label class_label kind
  label_of_kind label class_label are are_too (kinds.Class class) (Class name) is =
      let has = are_too class in
      of_that_name facts agree name has.0 (label (Class name)) (class_label class) (one_class_name facts class name has.0 agree is has.1)
      (are (Class name)) has.2
  label_of_kind label class_label are are_too (kinds.Class class) (Prim elem) is = absurd is
  label_of_kind label class_label are are_too (kinds.Prim elem) (Class name) is = absurd is
  label_of_kind label class_label are are_too (kinds.Prim elem) (Prim other) is =
      are (Prim other) ∙ ap (λ (e : Basic). type_word e ++ codes "[]") (sym is)
