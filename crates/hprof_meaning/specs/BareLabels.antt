-- The labels of classes where identifiers do not matter, as in a comparison of two dumps or where a word names a class. They are this
-- project's own.
use Rattle.std.specs.Prelude.{◌≡◌, ◌⊎◌, ℕ, List, Option, Some, None, codes}
use Rattle.hprof_text.specs.Printed.{IsPrinted}
use Rattle.hprof_items.specs.FactValue.{FactValue}
use Rattle.hprof_heap.specs.ClassName.{NamesClass}
use Rattle.hprof_heap.specs.Names.{HasName, HasNoName}

-- the name in print; `\?` alone where there is none, or none of the facts gives it its bytes
abbrev pub IsBareLabelOf : List FactValue → Option ℕ → List ℕ → Type 0
IsBareLabelOf facts (Some name) text =
    ((bytes : List ℕ) × HasName facts name bytes × IsPrinted bytes text) ⊎ (HasNoName facts name × (text ≡ codes "\\?"))
IsBareLabelOf facts None text = text ≡ codes "\\?"

-- the label of a class
abbrev pub IsBareLabel : List FactValue → ℕ → List ℕ → Type 0
IsBareLabel facts class text = (name : Option ℕ) × NamesClass facts class name × IsBareLabelOf facts name text

-- these are the labels of all classes
abbrev pub AreBareLabels : List FactValue → (ℕ → List ℕ) → Type 0
AreBareLabels facts label = (class : ℕ) → IsBareLabel facts class (label class)
