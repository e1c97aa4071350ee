-- What parts state together: the size of their identifiers, the earliest of their times, the set of their facts.
use Rattle.std.specs.Prelude.{◌≡◌, ◌≤◌, ℕ, List, map}
use Rattle.std.specs.List.{AllByRecursion, Contains, flat_map}
use Rattle.hprof_values.specs.declared.ids.IdSize.{IdSize}
use Rattle.hprof_items.specs.FactValue.{FactValue}
use Rattle.hprof_stream.specs.Part.{IsPart}
use Rattle.hprof_rows.specs.Facts.{SameFacts}

-- what one part states
pub record PartState : Type 0 where
  pub bytes : List ℕ
  pub ids : IdSize
  pub millis : ℕ
  pub facts : List FactValue

abbrev pub StatesIt : PartState → Type 0
StatesIt part = IsPart part.bytes part.ids part.millis part.facts

-- the number is one of these, and no greater than any of them
pub record IsLeastOf (numbers : List ℕ) (least : ℕ) : Type 0 where
  pub is_one : Contains numbers least
  pub is_least : AllByRecursion (λ number. least ≤ number) numbers

-- what the parts of the list state; it is not empty, and all have one size
pub record IsState (parts : List (List ℕ)) (ids : IdSize) (millis : ℕ) (facts : List FactValue) : Type 0 where
  pub states : List PartState
  pub of_parts : map (λ part. part.bytes) states ≡ parts
  pub each : AllByRecursion StatesIt states
  pub one_size : AllByRecursion (λ part. part.ids ≡ ids) states
  pub earliest : IsLeastOf (map (λ part. part.millis) states) millis
  pub same : SameFacts facts (flat_map (λ part. part.facts) states)

-- each is a part, and two of them have different sizes
pub record HaveTwoSizes (parts : List (List ℕ)) : Type 0 where
  pub states : List PartState
  pub of_parts : map (λ part. part.bytes) states ≡ parts
  pub each : AllByRecursion StatesIt states
  pub two : (ids : IdSize) → AllByRecursion (λ part. part.ids ≡ ids) states → ⊥
