-- Labels of a whole are those of the facts without objects.
use Rattle.std.proofs.Common.{ℕ, List, Option, Some, None, inl, inr, refl}
use Rattle.hprof_values.specs.declared.ids.IdSize.{IdSize}
use Rattle.hprof_items.specs.FactValue.{FactValue, Name}
use Rattle.hprof_rows.specs.declared.table.Table.TheVariants as tables
use Rattle.hprof_passes.specs.Passing.{IsWhole}
use Rattle.hprof_passes.proofs.Tables.{has_same}
use Rattle.hprof_lines.proofs.WholeNames.{names_class_same}
use Rattle.hprof_meaning.specs.BareLabels.{AreBareLabels, IsBareLabel, IsBareLabelOf}

module _ (ids : IdSize) (facts all : List FactValue) (whole : IsWhole ids facts all) where
  pub bare_label_of_same : (name : Option ℕ) (text : List ℕ) → IsBareLabelOf all name text → IsBareLabelOf facts name text
  bare_label_of_same None text is = is
  bare_label_of_same (Some name) text is = elim is [
    | inl named ↦ inl (named.0, (has_same ids facts all whole tables.Names (λ e. cc) (Name name named.0) refl).0 named.1, named.2)
    | inr none ↦ inr (
      λ bytes has. none.0 bytes ((has_same ids facts all whole tables.Names (λ e. cc) (Name name bytes) refl).1 has),
      none.1,
    )
  ]

  bare_label_same : (class : ℕ) (text : List ℕ) → IsBareLabel all class text → IsBareLabel facts class text
  bare_label_same class text is = (is.0, names_class_same ids facts all whole class is.0 is.1, bare_label_of_same is.0 text is.2)

  pub bare_labels_same : (label : ℕ → List ℕ) → AreBareLabels all label → AreBareLabels facts label
  bare_labels_same label are = λ class. bare_label_same class (label class) (are class)
