-- The name of a class.
use Rattle.std.specs.Prelude.{◌≤◌, ℕ, List, Option, Some, None}
use Rattle.hprof_items.specs.FactValue.{FactValue, Load}
use Rattle.hprof_rows.specs.Facts.{Has}

-- of the facts that load the class, the one of least serial gives it this name
pub record IsNamedFirst (facts : List FactValue) (class name : ℕ) : Type 0 where
  pub serial : ℕ
  pub trace : ℕ
  pub loaded : Has facts (Load serial class trace name)
  pub least : (other trace_too name_too : ℕ) → Has facts (Load other class trace_too name_too) → serial ≤ other

-- the name of the class, if one of the facts loads it
abbrev pub NamesClass : List FactValue → ℕ → Option ℕ → Type 0
NamesClass facts class (Some name) = IsNamedFirst facts class name
NamesClass facts class None = (serial trace name : ℕ) → Has facts (Load serial class trace name) → ⊥
