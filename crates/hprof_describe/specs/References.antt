-- What a reference leads to, in a line, this project's own.
use Rattle.std.specs.Prelude.{ℕ, ◌==◌, ◌/◌, List, [], ◌++◌, length, Option, Some, None, codes, bytes_eq, if◌then◌else◌}
use Rattle.std.specs.Fmt.{decimal}
use Rattle.hprof_text.specs.Identifier.{id_digits}
use Rattle.hprof_values.specs.Basic.{width_of_basic}
use Rattle.hprof_items.specs.FactValue.{FactValue, Instance, ObjArray, PrimArray}
use Rattle.hprof_heap.specs.Classes.{ClassValue}
use Rattle.hprof_naming.specs.TypeWord.{type_word}
use Rattle.hprof_threads.specs.ThreadNames.{units_in}
use Rattle.hprof_describe.specs.Findings.{Findings}
use Rattle.hprof_describe.specs.Quoted.{behind_label}

-- the text of a String, if it has one; of another instance the name of the thread, if it is the object of one
abbrev pub text_of_instance : Findings → (id class : ℕ) → Option (List ℕ)
text_of_instance found id class =
    if bytes_eq (found.naming.label class) (codes "java/lang/String") then units_in (found.text id) else found.thread_name id

-- an instance by the label of its class, with its text; an array with the number of its elements
abbrev pub object_words : Findings → ℕ → FactValue → List ℕ
object_words found id (Instance same trace class bytes) = found.naming.label class ++ behind_label (text_of_instance found id class)
object_words found id (ObjArray same trace class elements) = found.naming.label class ++ codes " of " ++ decimal (length elements)
object_words found id (PrimArray same trace elem bytes) =
    type_word elem ++ codes "[] of " ++ decimal (length bytes / width_of_basic found.ids elem)
object_words found id other = []

-- a class, also if it has an object dump too; else an object
abbrev pub reference_words : Findings → ℕ → Option ClassValue → Option FactValue → List ℕ
reference_words found id (Some dump) object = codes "class " ++ found.naming.label id
reference_words found id None (Some fact) = object_words found id fact
reference_words found id None None = codes "not in the dump"

-- a reference; 0 refers to nothing
unfoldable pub reference_text : Findings → ℕ → List ℕ
reference_text found id =
    if id == 0 then codes "null" else id_digits id ++ codes " " ++ reference_words found id (found.class id) (found.object id)
