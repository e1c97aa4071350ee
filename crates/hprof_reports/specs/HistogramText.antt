-- The report `histo`: how many objects of each kind a heap has, and how many bytes they have.
use Rattle.std.specs.Prelude.{◌≡◌, ℕ, List, [], ◌∷◌, ◌++◌, map, codes}
use Rattle.std.specs.Fmt.{decimal}
use Rattle.hprof_text.specs.Identifier.{id_digits}
use Rattle.hprof_values.specs.declared.ids.IdSize.{IdSize}
use Rattle.hprof_values.specs.declared.basic.Basic.{Basic}
use Rattle.hprof_items.specs.FactValue.{FactValue}
use Rattle.hprof_rows.specs.Conflict.{IsConsistent}
use Rattle.hprof_histogram.specs.declared.row.Kind.{Kind}
use Rattle.hprof_histogram.specs.declared.row.Kind.TheVariants.{Class, Prim}
use Rattle.hprof_histogram.specs.declared.row.Row.{Row}
use Rattle.hprof_histogram.specs.Histogram.{IsHistogram}
use Rattle.hprof_naming.specs.Naming.{Naming, IsNaming}
use Rattle.hprof_naming.specs.TypeWord.{type_word}
use Rattle.hprof_lines.specs.Line.{line_of, text_of_lines}

-- the bytes and the number of the objects of a class that has this label
abbrev pub class_row_line : (bytes count class : ℕ) → List ℕ → List ℕ
class_row_line bytes count class label = line_of (decimal bytes ∷ decimal count ∷ id_digits class ∷ label ∷ [])

-- those of arrays of a type
abbrev pub array_row_line : (bytes count : ℕ) → Basic → List ℕ
array_row_line bytes count elem =
    decimal bytes ++ (codes " " ++ (decimal count ++ (codes " - " ++ (type_word elem ++ codes "[]\n"))))

abbrev pub kind_line : Naming → (bytes count : ℕ) → Kind → List ℕ
kind_line naming bytes count (Class class) = class_row_line bytes count class (naming.label class)
kind_line naming bytes count (Prim elem) = array_row_line bytes count elem

abbrev pub row_line : Naming → Row → List ℕ
row_line naming row = kind_line naming row.bytes row.count row.kind

-- a line for each row
abbrev pub rows_text : Naming → List Row → List ℕ
rows_text naming rows = text_of_lines (map (row_line naming) rows)

-- the text is the report of these facts, which agree
pub record IsHistogramText (ids : IdSize) (facts : List FactValue) (text : List ℕ) : Type 0 where
  pub agree : IsConsistent facts
  pub naming : Naming
  pub is_naming : IsNaming facts naming
  pub rows : List Row
  pub are_rows : IsHistogram ids facts rows
  pub is : text ≡ rows_text naming rows
