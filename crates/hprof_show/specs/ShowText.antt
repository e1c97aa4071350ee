-- The report `show`: the contents of a class, an instance or an array, decoded. Its form is this project's own.
use Rattle.std.specs.Prelude.{◌≡◌, ℕ, List, [], ◌++◌, Option, Some, None, codes}
use Rattle.hprof_text.specs.Identifier.{id_digits}
use Rattle.hprof_values.specs.declared.ids.IdSize.{IdSize}
use Rattle.hprof_items.specs.FactValue.{FactValue, Instance, ObjArray, PrimArray}
use Rattle.hprof_rows.specs.Conflict.{IsConsistent}
use Rattle.hprof_heap.specs.Classes.{ClassValue}
use Rattle.hprof_layouts.specs.Fields.{AreFields, FieldsValue}
use Rattle.hprof_lines.specs.Line.{nothing_line}
use Rattle.hprof_describe.specs.Findings.{AreFindings, Findings}
use Rattle.hprof_describe.specs.References.{object_words}
use Rattle.hprof_show.specs.ClassLines.{class_text}
use Rattle.hprof_show.specs.FieldLines.{fields_text}
use Rattle.hprof_show.specs.ElementLines.{elements_text}
use Rattle.hprof_show.specs.NumberLines.{values_text}

-- what an object holds
abbrev pub contents_text : Findings → FieldsValue → FactValue → List ℕ
contents_text found fields (Instance id trace class bytes) = fields_text found class fields
contents_text found fields (ObjArray id trace class elements) = elements_text found elements
contents_text found fields (PrimArray id trace elem bytes) = values_text found elem bytes
contents_text found fields other = []

-- an object in a line
abbrev pub object_line : Findings → ℕ → FactValue → List ℕ
object_line found id fact = id_digits id ++ codes " " ++ object_words found id fact ++ codes "\n"

-- an object in a line, and what it holds
unfoldable pub object_text : Findings → ℕ → FieldsValue → FactValue → List ℕ
object_text found id fields fact = object_line found id fact ++ contents_text found fields fact

-- a class dump, and then an object dump
abbrev pub found_text : Findings → ℕ → FieldsValue → Option ClassValue → Option FactValue → List ℕ
found_text found id fields None None = nothing_line id
found_text found id fields (Some dump) None = class_text found dump
found_text found id fields None (Some fact) = object_text found id fields fact
found_text found id fields (Some dump) (Some fact) = class_text found dump ++ object_text found id fields fact

-- the text is the report of these facts, which agree, on the identifier
pub record IsShowText (ids : IdSize) (facts : List FactValue) (id : ℕ) (text : List ℕ) : Type 0 where
  pub agree : IsConsistent facts
  pub found : Findings
  pub are_found : AreFindings ids facts found
  pub fields : FieldsValue
  pub are_fields : AreFields ids facts id fields
  pub is : text ≡ found_text found id fields (found.class id) (found.object id)
