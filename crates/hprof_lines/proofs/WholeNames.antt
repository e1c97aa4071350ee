-- Names and loads of a whole are those of the facts without objects.
use Rattle.std.proofs.Common.{ℕ, List, Option, Some, None, inl, inr, refl}
use Rattle.hprof_values.specs.declared.ids.IdSize.{IdSize}
use Rattle.hprof_items.specs.FactValue.{FactValue, Load, Name}
use Rattle.hprof_rows.specs.declared.table.Table.TheVariants as tables
use Rattle.hprof_heap.specs.ClassName.{NamesClass}
use Rattle.hprof_naming.specs.Naming.{IsLabel, IsLabelOf, IsNameText, IsNaming, Naming}
use Rattle.hprof_passes.specs.Passing.{IsWhole}
use Rattle.hprof_passes.proofs.Tables.{has_same}

module _ (ids : IdSize) (facts all : List FactValue) (whole : IsWhole ids facts all) where
  pub name_text_same : (name : ℕ) (text : List ℕ) → IsNameText all name text → IsNameText facts name text
  name_text_same name text is = elim is [
    | inl named ↦ inl (named.0, (has_same ids facts all whole tables.Names (λ e. cc) (Name name named.0) refl).0 named.1, named.2)
    | inr none ↦ inr (
      λ bytes has. none.0 bytes ((has_same ids facts all whole tables.Names (λ e. cc) (Name name bytes) refl).1 has),
      none.1,
    )
  ]

  pub names_class_same : (class : ℕ) (name : Option ℕ) → NamesClass all class name → NamesClass facts class name
  names_class_same class (Some name) is = record {
    serial = is.serial;
    trace = is.trace;
    loaded = (has_same ids facts all whole tables.Loads (λ e. cc) (Load is.serial class is.trace name) refl).0 is.loaded;
    least = λ other trace name_too has.
        is.least other trace name_too ((has_same ids facts all whole tables.Loads (λ e. cc) (Load other class trace name_too) refl).1 has);
  }
  names_class_same class None none = λ serial trace name has.
      none serial trace name ((has_same ids facts all whole tables.Loads (λ e. cc) (Load serial class trace name) refl).1 has)

  label_of_same : (name : Option ℕ) (text : List ℕ) → IsLabelOf all name text → IsLabelOf facts name text
  label_of_same (Some name) text is = name_text_same name text is
  label_of_same None text is = is

  label_same : (class : ℕ) (text : List ℕ) → IsLabel all class text → IsLabel facts class text
  label_same class text is = (is.0, names_class_same class is.0 is.1, label_of_same is.0 text is.2)

  pub naming_same : (naming : Naming) → IsNaming all naming → IsNaming facts naming
  naming_same naming is = record {
    names = λ name. name_text_same name (naming.name_text name) (is.names name);
    labels = λ class. label_same class (naming.label class) (is.labels class);
  }
