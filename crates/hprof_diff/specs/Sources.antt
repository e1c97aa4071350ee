-- Rows by the source of their labels, and what objects are counted together.
use Rattle.std.specs.Prelude.{◌≡◌, ◌+◌, ℕ, List, ◌++◌, Option, None, cond, codes, sum_by, bytes_eq}
use Rattle.hprof_items.specs.FactValue.{FactValue}
use Rattle.hprof_heap.specs.ClassName.{NamesClass}
use Rattle.hprof_histogram.specs.declared.row.Kind.{Kind}
use Rattle.hprof_histogram.specs.declared.row.Kind.TheVariants as kinds
use Rattle.hprof_histogram.specs.declared.row.Row.{Row}
use Rattle.hprof_naming.specs.TypeWord.{type_word}
use Rattle.hprof_diff.specs.declared.counted.Counted.{Counted}
use Rattle.hprof_diff.specs.declared.label_count.LabelCount.{LabelCount}
use Rattle.hprof_diff.specs.declared.label_count.LabelSource.{LabelSource}
use Rattle.hprof_diff.specs.declared.label_count.LabelSource.TheVariants.{Class, Prim}
use Rattle.hprof_meaning.specs.BareLabels.{IsBareLabelOf}
use Rattle.hprof_diff.specs.Labels.{kind_label}

-- no objects
abbrev pub nothing : Counted
nothing = record { count = 0; bytes = 0 }

-- these objects and those
abbrev pub both : Counted → Counted → Counted
both these those = record { count = these.count + those.count; bytes = these.bytes + those.bytes }

-- the objects of a row
abbrev pub counted_of_row : Row → Counted
counted_of_row row = record { count = row.count; bytes = row.bytes }

-- the class has that name, or the type is that
abbrev pub IsSource : List FactValue → Kind → LabelSource → Type 0
IsSource facts (kinds.Class class) (Class name) = NamesClass facts class name
IsSource facts (kinds.Prim elem) (Prim other) = elem ≡ other
IsSource facts kind source = ⊥

-- the part has the objects of the row, and the source of its label
pub record IsPart (facts : List FactValue) (row : Row) (part : LabelCount) : Type 0 where
  pub source : IsSource facts row.kind part.source
  pub counted : part.counted ≡ counted_of_row row

-- the identifier of a class's name, if it is the source
abbrev pub name_of : LabelSource → Option ℕ
name_of (Class name) = name
name_of (Prim elem) = None

-- the label from a source
abbrev pub IsSourceLabel : List FactValue → LabelSource → List ℕ → Type 0
IsSourceLabel facts (Class name) text = IsBareLabelOf facts name text
IsSourceLabel facts (Prim elem) text = text ≡ type_word elem ++ codes "[]"

-- these are the labels from all sources
abbrev pub AreSourceLabels : List FactValue → (LabelSource → List ℕ) → Type 0
AreSourceLabels facts label = (source : LabelSource) → IsSourceLabel facts source (label source)

-- the objects of all that has the label
abbrev pub sum_under : {X : Type 0} → (X → List ℕ) → (X → Counted) → List ℕ → List X → Counted
sum_under label counted text xs = record {
  count = sum_by (λ x. cond (bytes_eq (label x) text) (counted x).count 0) xs;
  bytes = sum_by (λ x. cond (bytes_eq (label x) text) (counted x).bytes 0) xs;
}

-- the objects of the rows with that label
abbrev pub rows_under : (ℕ → List ℕ) → List ℕ → List Row → Counted
rows_under label text rows = sum_under (λ row. kind_label label row.kind) counted_of_row text rows

-- the objects of the parts with that label
abbrev pub parts_under : (LabelSource → List ℕ) → List ℕ → List LabelCount → Counted
parts_under label text parts = sum_under (λ part. label part.source) (λ part. part.counted) text parts
