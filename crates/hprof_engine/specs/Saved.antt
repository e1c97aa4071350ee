-- What is saved of parts: of each, what stands in it before its first fault.
use Rattle.std.specs.Prelude.{◌≡◌, ℕ, List, [], ◌∷◌, map, Option, Some, None, Result}
use Rattle.std.specs.List.{AllByRecursion}
use Rattle.hprof_items.specs.declared.header.Header.{Header}
use Rattle.hprof_items.specs.FactValue.{FactValue}
use Rattle.hprof_stream.specs.Fault.{StatesSoFar}
use Rattle.hprof_rows.specs.HeapValue.{HeapValue}
use Rattle.hprof_heap.specs.declared.standing.Refusal.{Refusal}
use Rattle.hprof_heap.specs.Gathering.{Given, Tells}

-- some bytes, and what is saved of them
pub record Saved : Type 0 where
  pub bytes : List ℕ
  pub header : Option Header
  pub facts : List FactValue

-- that is the header, if it is whole, and the facts of the whole items before the first fault; of all items where there is no fault
abbrev pub IsSaved : ℕ → Saved → Type 0
IsSaved longest saved = StatesSoFar longest saved.bytes saved.header saved.facts

-- a part with a whole header is given what is saved of it, and nothing is given of another
abbrev pub given_with : Option Header → List FactValue → List Given → List Given
given_with None facts others = others
given_with (Some header) facts others = record { header = header; facts = facts } ∷ others

abbrev pub given_of : List Saved → List Given
given_of [] = []
given_of (saved ∷ others) = given_with saved.header saved.facts (given_of others)

-- this is saved of the parts, of those with a whole header, in order
pub record AreSaved (longest : ℕ) (parts : List (List ℕ)) (given : List Given) : Type 0 where
  pub saved : List Saved
  pub of_parts : map (λ one. one.bytes) saved ≡ parts
  pub each : AllByRecursion (IsSaved longest) saved
  pub has_given : given_of saved ≡ given

-- what is saved of the parts comes to that: a heap of exactly these facts, with the size and the earliest time of the parts with a
-- whole header; or there is no such part; or two have different sizes; or this is the least key with two contents
pub record SavesTo (longest : ℕ) (parts : List (List ℕ)) (answer : Result HeapValue Refusal) : Type 0 where
  pub given : List Given
  pub saved : AreSaved longest parts given
  pub tells : Tells given answer
