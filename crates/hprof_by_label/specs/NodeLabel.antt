-- The label of a class or an object: what it is of, without identifiers, as in a comparison of two dumps. It is this project's own.
use Rattle.std.specs.Prelude.{◌≡◌, ℕ, List, ◌++◌, Option, Some, None, codes}
use Rattle.hprof_items.specs.FactValue.{FactValue, Instance, ObjArray, PrimArray}
use Rattle.hprof_heap.specs.Found.{IsObjectFound}
use Rattle.hprof_naming.specs.TypeWord.{type_word}
use Rattle.hprof_meaning.specs.BareLabels.{IsBareLabel}

-- of an array of numbers its type; of another object the label of its class
abbrev pub IsObjectLabel : List FactValue → FactValue → List ℕ → Type 0
IsObjectLabel facts (PrimArray id trace elem bytes) label = label ≡ type_word elem ++ codes "[]"
IsObjectLabel facts (Instance id trace class bytes) label = IsBareLabel facts class label
IsObjectLabel facts (ObjArray id trace class elements) label = IsBareLabel facts class label
IsObjectLabel facts other label = ⊥

-- of a class dump without an object dump that of the class of all classes
abbrev pub IsFoundLabel : List FactValue → Option FactValue → List ℕ → Type 0
IsFoundLabel facts (Some object) label = IsObjectLabel facts object label
IsFoundLabel facts None label = label ≡ codes "java/lang/Class"

-- the label of a node
abbrev pub IsNodeLabel : List FactValue → ℕ → List ℕ → Type 0
IsNodeLabel facts node label = (object : Option FactValue) × IsObjectFound facts node object × IsFoundLabel facts object label
