-- The place that a sink was told last, and the facts since.
use Rattle.std.specs.Prelude.{ℕ, List, Option, Some, None, ⊤}
use Rattle.hprof_items.specs.FactValue.{FactValue}
use Rattle.hprof_stream.specs.declared.limits.Limits.{Limits}
use Rattle.hprof_stream.specs.declared.part_place.PartPlace.{PartPlace}
use Rattle.hprof_facts.specs.FactPlaces.{IsBehindFacts}

-- if the sink was told a place of these bytes, it is behind all of these facts but the last, as many as came since
abbrev pub IsLast : Limits → List ℕ → List FactValue → Option PartPlace → (since : ℕ) → Type 0
IsLast limits bytes facts None since = ⊤
IsLast limits bytes facts (Some part) since = IsBehindFacts limits bytes facts (record { part = part; passed = since })
