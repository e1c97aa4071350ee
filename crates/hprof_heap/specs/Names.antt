-- Names among facts.
use Rattle.std.specs.Prelude.{ℕ, List}
use Rattle.hprof_items.specs.FactValue.{FactValue, Name}
use Rattle.hprof_rows.specs.Facts.{Has}

-- one of the facts gives the name these bytes
abbrev pub HasName : List FactValue → ℕ → List ℕ → Type 0
HasName facts name bytes = Has facts (Name name bytes)

-- none of the facts gives it any
abbrev pub HasNoName : List FactValue → ℕ → Type 0
HasNoName facts name = (bytes : List ℕ) → HasName facts name bytes → ⊥
