-- The report `classes`: each class dump, with the objects of the class.
use Rattle.std.specs.Prelude.{◌≡◌, ℕ, List, [], ◌∷◌, ◌++◌, map, codes}
use Rattle.std.specs.Fmt.{decimal}
use Rattle.hprof_text.specs.Identifier.{id_digits}
use Rattle.hprof_values.specs.declared.ids.IdSize.{IdSize}
use Rattle.hprof_items.specs.FactValue.{FactValue}
use Rattle.hprof_rows.specs.Conflict.{IsConsistent}
use Rattle.hprof_heap.specs.Classes.{ClassValue}
use Rattle.hprof_histogram.specs.declared.counted.Counted.{Counted}
use Rattle.hprof_histogram.specs.declared.row.Kind.TheVariants as kinds
use Rattle.hprof_histogram.specs.CountedKinds.{counted_of}
use Rattle.hprof_naming.specs.Naming.{Naming, IsNaming}
use Rattle.hprof_lines.specs.Line.{line_of, text_of_lines}
use Rattle.hprof_reports.specs.ClassDumps.{AreClassDumps}

-- the objects of a class, and its label
abbrev pub class_end : (bytes count : ℕ) → List ℕ → List ℕ
class_end bytes count label = line_of (decimal bytes ∷ codes "objects" ∷ decimal count ∷ label ∷ [])

-- a class, the superclass that its dump states, and that
abbrev pub class_start : (id parent : ℕ) → List ℕ → List ℕ
class_start id parent end = id_digits id ++ (codes " super " ++ (id_digits parent ++ (codes " bytes " ++ end)))

-- the line of a class of which there are such objects
abbrev pub counted_line : Counted → (id parent : ℕ) → List ℕ → List ℕ
counted_line counted id parent label = class_start id parent (class_end counted.bytes counted.count label)

-- the line of a class: its objects are those that the histogram counts in its row, which has none of the subclasses
abbrev pub class_line : Naming → IdSize → List FactValue → ClassValue → List ℕ
class_line naming ids facts dump =
    counted_line (counted_of ids (kinds.Class dump.id) facts) dump.id dump.parent (naming.label dump.id)

abbrev pub classes_text : Naming → IdSize → List FactValue → List ClassValue → List ℕ
classes_text naming ids facts dumps = text_of_lines (map (class_line naming ids facts) dumps)

-- the text is the report of these facts, which agree
pub record IsClassesText (ids : IdSize) (facts : List FactValue) (text : List ℕ) : Type 0 where
  pub agree : IsConsistent facts
  pub naming : Naming
  pub is_naming : IsNaming facts naming
  pub dumps : List ClassValue
  pub are_dumps : AreClassDumps facts dumps
  pub is : text ≡ classes_text naming ids facts dumps
