-- The report `objects` on the classes that a name means.
use Rattle.std.specs.Prelude.{◌≡◌, ℕ, List}
use Rattle.hprof_values.specs.declared.ids.IdSize.{IdSize}
use Rattle.hprof_items.specs.FactValue.{FactValue}
use Rattle.hprof_histogram.specs.declared.objects.SizedObject.{SizedObject}
use Rattle.hprof_lines.specs.ObjectsText.{objects_text}
use Rattle.hprof_meaning.specs.ObjectsOf.{AreObjectsOf}

-- the text is the report of these facts on the classes: a line for each of their objects, as the report on one class has it
pub record IsObjectsOfText (ids : IdSize) (facts : List FactValue) (classes : List ℕ) (text : List ℕ) : Type 0 where
  pub objects : List SizedObject
  pub are_objects : AreObjectsOf ids facts classes objects
  pub is : text ≡ objects_text objects
