-- Places of a part that are behind one of its facts.
use Rattle.std.specs.Prelude.{◌≡◌, ℕ, List, ◌++◌, length}
use Rattle.hprof_items.specs.FactValue.{FactValue}
use Rattle.hprof_stream.specs.declared.limits.Limits.{Limits}
use Rattle.hprof_stream.specs.declared.part_place.PartPlace.{PartPlace}
use Rattle.hprof_stream.specs.PartPlaces.{IsPlaceBehind}
use Rattle.hprof_facts.specs.declared.fact_place.FactPlace.{FactPlace}

-- the place at which a reader of the part begins again
abbrev pub begins_at : FactPlace → PartPlace
begins_at place = place.part

-- how many facts behind that are gone past
abbrev pub passed_of : FactPlace → ℕ
passed_of place = place.passed

-- the place is behind these facts of the bytes: a front of the bytes states the first of them, and the others are gone past
pub record IsBehindFacts (limits : Limits) (bytes : List ℕ) (facts : List FactValue) (place : FactPlace) : Type 0 where
  pub front : List ℕ
  pub rest : List ℕ
  pub told : List FactValue
  pub passed : List FactValue
  pub parts : bytes ≡ front ++ rest
  pub has_facts : facts ≡ told ++ passed
  pub behind : IsPlaceBehind limits front told (begins_at place)
  pub count : length passed ≡ passed_of place
