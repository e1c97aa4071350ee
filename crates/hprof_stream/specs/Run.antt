-- A run of a sink: a header begins it, and facts step it on.
use Rattle.std.specs.Prelude.{◌≡◌, ℕ, List, [], ◌∷◌, Option, Some, None}
use Rattle.hprof_items.specs.declared.header.Header.{Header}
use Rattle.hprof_values.specs.declared.ids.IdSize.{IdSize}
use Rattle.hprof_items.specs.declared.fact.Fact.{Fact}
use Rattle.hprof_items.specs.FactValue.{FactValue, ListsHave}
use Rattle.hprof_items.specs.Spelling.{Fits}
use Rattle.hprof_items.specs.SubRecord.{dump_bytes}

module _ {S : Type 0} (begins : S → Header → S → Type 0) (steps : S → FactValue → S → Type 0) where
  -- one fact after the other
  abbrev pub Steps : S → List FactValue → S → Type 0
  Steps old [] new = old ≡ new
  Steps old (fact ∷ facts) new = (mid : S) × steps old fact mid × Steps mid facts new

  -- a header, where there is one, and then facts
  abbrev pub Run : S → Option Header → List FactValue → S → Type 0
  Run old None facts new = Steps old facts new
  Run old (Some header) facts new = (mid : S) × begins old header mid × Steps mid facts new

-- the fact fits the size that was begun last
abbrev pub FitsBegun : Option IdSize → FactValue → Type 0
FitsBegun None fact = ⊥
FitsBegun (Some ids) fact = Fits ids fact

-- its lists have identifiers of that size
abbrev pub ListsHaveBegun : Option IdSize → Fact → Type 0
ListsHaveBegun None fact = ⊥
ListsHaveBegun (Some ids) fact = ListsHave ids fact

-- the bytes are those of the sub-record that states it under that size; none are there for a fact that a record states
abbrev pub SpellsBegun : Option IdSize → FactValue → List ℕ → Type 0
SpellsBegun None fact bytes = ⊥
SpellsBegun (Some ids) fact bytes = bytes ≡ dump_bytes ids fact

-- the header that a run is given, where these were read before it and after it
abbrev pub became : Option Header → Option Header → Option Header
became None after = after
became (Some header) after = None
