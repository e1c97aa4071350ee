-- Suspects by places; no public contract speaks of them.
use Rattle.std.specs.Prelude.{◌≡◌, ◌<◌, ◌≤◌, ◌+◌, ◌*◌, ◌↔◌, ℕ, Bool, List, AllPairs, Contains, slice_index}
use Rattle.std.specs.Ordering.{nat_cmp, ordering_then}
use Rattle.std.specs.declared.cmp.Ordering.{Ordering}
use Rattle.hprof_keeps.specs.Order.{node_of}
use Rattle.hprof_retained.specs.Tree.{count_of, sum_at}
use Rattle.hprof_retained.specs.declared.retained.Retained.{Retained}
use Rattle.hprof_suspects.specs.PartPlaces.{IsMarked}
use Rattle.hprof_suspects.specs.SuspectsText.{Suspect, id_of}
use Rattle.hprof_suspects.specs.declared.suspects.SuspectPlace.{SuspectPlace}

-- the part at the place, with its pieces
abbrev pub suspect_of : Retained → SuspectPlace → Suspect
suspect_of retained suspect = record { part = node_of retained suspect.place; pieces = suspect.pieces }

-- the most bytes first, then by identifier
abbrev pub suspect_place_cmp : SuspectPlace → SuspectPlace → Ordering
suspect_place_cmp suspect other = ordering_then (nat_cmp other.pieces suspect.pieces) (nat_cmp suspect.node other.node)

-- it stands at a place, or is the roots together, and its pieces are not more than all
abbrev pub IsWithin : Retained → SuspectPlace → Type 0
IsWithin retained suspect = (suspect.place < count_of retained) × (suspect.pieces ≤ (sum_at retained 0).bytes)

-- a part at a place before a bound whose pieces are a tenth of all at least
--   sums: of each place what the parts right below it retain
pub record IsSuspectAt (retained : Retained) (parts : List Bool) (sums : List ℕ) (done : ℕ) (suspect : SuspectPlace) : Type 0 where
  pub before : suspect.place < done
  pub part : IsMarked parts suspect.place
  pub pieces : suspect.pieces + slice_index sums suspect.place ≡ (sum_at retained suspect.place).bytes
  pub enough : (sum_at retained 0).bytes ≤ 10 * suspect.pieces
  pub node : suspect.node ≡ id_of (node_of retained suspect.place)

-- these are all, each once
pub record AreSuspectsTo (retained : Retained) (parts : List Bool) (sums : List ℕ) (done : ℕ) (suspects : List SuspectPlace) : Type 0 where
  pub ascend : AllPairs (λ one other. one.place < other.place) suspects
  pub exact : (suspect : SuspectPlace) → Contains suspects suspect ↔ IsSuspectAt retained parts sums done suspect
