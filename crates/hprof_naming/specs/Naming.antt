-- How names and classes are printed, this project's own.
use Rattle.std.specs.Prelude.{◌≡◌, ◌⊎◌, ℕ, List, ◌++◌, Option, Some, None, codes}
use Rattle.hprof_text.specs.Identifier.{id_digits}
use Rattle.hprof_text.specs.Printed.{IsPrinted}
use Rattle.hprof_items.specs.FactValue.{FactValue}
use Rattle.hprof_heap.specs.ClassName.{NamesClass}
use Rattle.hprof_heap.specs.Names.{HasName, HasNoName}

-- the bytes of the name in print; of a name that none of the facts gives, `\?` and its identifier
abbrev pub IsNameText : List FactValue → ℕ → List ℕ → Type 0
IsNameText facts name text =
    ((bytes : List ℕ) × HasName facts name bytes × IsPrinted bytes text) ⊎ (HasNoName facts name × (text ≡ codes "\\?" ++ id_digits name))

-- the label of a class of that name, if it has one
abbrev pub IsLabelOf : List FactValue → Option ℕ → List ℕ → Type 0
IsLabelOf facts (Some name) text = IsNameText facts name text
IsLabelOf facts None text = text ≡ codes "\\?"

-- the label of a class: its name in print; `\?` alone, where none of the facts loads it
abbrev pub IsLabel : List FactValue → ℕ → List ℕ → Type 0
IsLabel facts class text = (name : Option ℕ) × NamesClass facts class name × IsLabelOf facts name text

-- how names and classes are printed
pub record Naming : Type 0 where
  pub name_text : ℕ → List ℕ
  pub label : ℕ → List ℕ

-- so they are among these facts
pub record IsNaming (facts : List FactValue) (naming : Naming) : Type 0 where
  pub names : (name : ℕ) → IsNameText facts name (naming.name_text name)
  pub labels : (class : ℕ) → IsLabel facts class (naming.label class)
