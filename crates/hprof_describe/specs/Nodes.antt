-- A class or an object in a line, this project's own.
use Rattle.std.specs.Prelude.{ℕ, List, [], ◌++◌, Option, Some, None, codes}
use Rattle.hprof_text.specs.Identifier.{id_digits}
use Rattle.hprof_items.specs.FactValue.{FactValue, Instance, ObjArray, PrimArray}
use Rattle.hprof_heap.specs.Classes.{ClassValue}
use Rattle.hprof_naming.specs.Naming.{Naming}
use Rattle.hprof_naming.specs.TypeWord.{type_word}
use Rattle.hprof_describe.specs.Findings.{Findings}
use Rattle.hprof_describe.specs.Quoted.{behind_label}

-- an instance or an array of objects by the label of its class, an array of numbers by its type
abbrev pub kind_of_object : Naming → FactValue → List ℕ
kind_of_object naming (Instance id trace class bytes) = naming.label class
kind_of_object naming (ObjArray id trace class elements) = naming.label class
kind_of_object naming (PrimArray id trace elem bytes) = type_word elem ++ codes "[]"
kind_of_object naming other = []

-- a class, also if it has an object dump too; else an object
abbrev pub kind_of : Naming → ℕ → Option ClassValue → Option FactValue → List ℕ
kind_of naming node (Some dump) object = codes "class " ++ naming.label node
kind_of naming node None (Some fact) = kind_of_object naming fact
kind_of naming node None None = codes "not in the dump"

-- a class has no name of a thread
abbrev pub name_of_node : Option ClassValue → Option (List ℕ) → Option (List ℕ)
name_of_node (Some dump) name = None
name_of_node None name = name

-- what an identifier is, without the identifier
unfoldable pub kind_text : Findings → ℕ → List ℕ
kind_text found node = kind_of found.naming node (found.class node) (found.object node)

-- the identifier, what it is, and the name of the thread if it is the object of one
unfoldable pub node_text : Findings → ℕ → List ℕ
node_text found node =
    id_digits node ++ codes " " ++ kind_text found node ++ behind_label (name_of_node (found.class node) (found.thread_name node))
