-- What a list of parts comes to.
use Rattle.std.specs.Prelude.{ℕ, List}
use Rattle.hprof_values.specs.declared.ids.IdSize.{IdSize}
use Rattle.hprof_items.specs.FactValue.{FactValue}
use Rattle.hprof_stream.specs.Part.{IsPart}
use Rattle.hprof_rows.specs.declared.key.Key.{Key}
use Rattle.hprof_heap.specs.State.{HaveTwoSizes}
use Rattle.hprof_engine.specs.Joining.{Agree, Disagree}

-- one heap: a size, the earliest time and facts that agree; or the least key that has two contents; or two sizes
pub data Outcome : Type 0 where
  OneHeap : IdSize → (millis : ℕ) → (rows : List FactValue) → Outcome
  Conflict : Key → Outcome
  TwoSizes : Outcome

abbrev pub ComesTo : List (List ℕ) → Outcome → Type 0
ComesTo parts (OneHeap ids millis rows) = Agree parts ids millis rows
ComesTo parts (Conflict key) = Disagree parts key
ComesTo parts TwoSizes = HaveTwoSizes parts

-- the bytes are a part, of one size or the other
abbrev pub IsSomePart : List ℕ → Type 0
IsSomePart bytes = (ids : IdSize) × (millis : ℕ) × (facts : List FactValue) × IsPart bytes ids millis facts
