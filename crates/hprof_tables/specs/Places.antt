-- Where keys stand.
use Rattle.std.specs.Prelude.{◌≡◌, ℕ, List, Some, slice_get}
use Rattle.std.proofs.Props.{props}
use Rattle.hprof_tables.specs.SortedRows.{row_at}

-- each of the keys is found with the place where it stands
abbrev pub ArePlaces : List ℕ → List (ℕ × ℕ) → Type 0
ArePlaces keys places = (place key : ℕ) → slice_get keys place ≡ Some key → row_at key places ≡ Some place

-- it has at most one proof
pub ArePlaces-prop : (keys : List ℕ) (places : List (ℕ × ℕ)) → IsProp (ArePlaces keys places)
ArePlaces-prop keys places = hlevel props
