-- The lengths of the rows at the next places.
use Rattle.std.specs.Prelude.{◌≡◌, ℕ, List, [], ◌∷◌, take, drop, ⊤}
use Rattle.std.proofs.Props.{props}
use Rattle.hprof_runs.specs.declared.ahead.Ahead.{Ahead}
use Rattle.hprof_runs.specs.declared.place.Place.{Place}
use Rattle.hprof_runs.specs.Places.{content_at}

-- the row at the place has this length
abbrev pub IsLengthAt : List ℕ → Place → ℕ → Type 0
IsLengthAt bytes place len = take len (drop 12 (drop place.at bytes)) ≡ content_at bytes place

-- the rows at the first places have these lengths, as far as both go
abbrev pub AreLengths : List ℕ → List Place → List ℕ → Type 0
AreLengths bytes places [] = ⊤
AreLengths bytes [] (len ∷ lengths) = ⊤
AreLengths bytes (place ∷ places) (len ∷ lengths) = IsLengthAt bytes place len × AreLengths bytes places lengths

-- so have those that are not passed yet
abbrev pub AreAhead : List ℕ → List Place → Ahead → Type 0
AreAhead bytes places ahead = AreLengths bytes places (drop ahead.passed ahead.lengths)

AreLengths-prop : (bytes : List ℕ) (places : List Place) (lengths : List ℕ) → IsProp (AreLengths bytes places lengths)
AreLengths-prop bytes places [] = hlevel props
AreLengths-prop bytes [] (len ∷ lengths) = hlevel props
AreLengths-prop bytes (place ∷ places) (len ∷ lengths) = hlevel (props, AreLengths-prop bytes places lengths)

-- it has at most one proof
pub AreAhead-prop : (bytes : List ℕ) (places : List Place) (ahead : Ahead) → IsProp (AreAhead bytes places ahead)
AreAhead-prop bytes places ahead = AreLengths-prop bytes places (drop ahead.passed ahead.lengths)
