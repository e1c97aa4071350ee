-- The report `objects`: the objects of a class or a type, the largest first.
use Rattle.std.specs.Prelude.{◌≡◌, ℕ, List, [], ◌∷◌, map}
use Rattle.std.specs.Fmt.{decimal}
use Rattle.hprof_text.specs.Identifier.{id_digits}
use Rattle.hprof_values.specs.declared.ids.IdSize.{IdSize}
use Rattle.hprof_items.specs.FactValue.{FactValue}
use Rattle.hprof_histogram.specs.declared.objects.SizedObject.{SizedObject}
use Rattle.hprof_histogram.specs.declared.row.Kind.{Kind}
use Rattle.hprof_histogram.specs.Objects.{AreObjects}
use Rattle.hprof_lines.specs.Line.{line_of, text_of_lines}

-- an object and its bytes
abbrev pub object_line : SizedObject → List ℕ
object_line object = line_of (decimal object.bytes ∷ id_digits object.id ∷ [])

abbrev pub objects_text : List SizedObject → List ℕ
objects_text objects = text_of_lines (map object_line objects)

-- the text is the report of these facts on the class or the type
pub record IsObjectsText (ids : IdSize) (facts : List FactValue) (kind : Kind) (text : List ℕ) : Type 0 where
  pub objects : List SizedObject
  pub are_objects : AreObjects ids facts kind objects
  pub is : text ≡ objects_text objects
