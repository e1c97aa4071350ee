-- What is found where steps are followed, by numbers.
use Rattle.std.specs.Prelude.{◌≡◌, ◌<◌, ◌≤◌, ◌+◌, ◌++◌, ◌↔◌, ◌⊎◌, ℕ, Bool, true, false, not, List, Option, Contains, drop, length, count_by}
use Rattle.std.specs.Prelude.{get_or, slice_index, unwrap_or}
use Rattle.hprof_search.specs.declared.trail.Trail.{Trail}
use Rattle.hprof_numbers.specs.Numbers.{items_in}

-- of each number whether it was found, and from which; the numbers that were found, in their order; and of these the next level
pub record Finds : Type 0 where
  pub found : List Bool
  pub before : List ℕ
  pub order : List ℕ
  pub next : List ℕ

-- the next level: the stretch of the order from its place on
abbrev pub next_in : Trail → List ℕ
next_in trail = drop trail.next trail.order.items

abbrev pub finds_of : Trail → Finds
finds_of trail = record { found = trail.found.items; before = items_in trail.before; order = trail.order.items; next = next_in trail }

abbrev pub is_found : Finds → ℕ → Bool
is_found finds number = get_or finds.found number false

-- of the numbers from which a number is led to, the least
pub record IsLeastLed (Led : ℕ → ℕ → Type 0) (from number : ℕ) : Type 0 where
  pub led : Led from number
  pub least : (other : ℕ) → Led other number → from ≤ other

-- what was found stays; what is led to is found too, each number from the least that leads there, and is put behind the
-- order, and so behind the next level, once
pub record Follows (Led : ℕ → ℕ → Type 0) (old new : Finds) : Type 0 where
  pub as_many : length new.found ≡ length old.found
  pub stays : (number : ℕ) → is_found old number ≡ true
      → (is_found new number ≡ true) × (slice_index new.before number ≡ slice_index old.before number)
  pub came : (number : ℕ) → is_found old number ≡ false → is_found new number ≡ true
      → IsLeastLed Led (slice_index new.before number) number
  pub all : (from number : ℕ) → number < length old.found → Led from number → is_found new number ≡ true
  pub next : (number : ℕ) → Contains new.next number
      ↔ (Contains old.next number ⊎ ((is_found old number ≡ false) × (is_found new number ≡ true)))
  pub order : (came : List ℕ) × (new.order ≡ old.order ++ came) × (new.next ≡ old.next ++ came)
  pub counted : count_by not new.found + length new.next ≡ count_by not old.found + length old.next

-- the one number leads to the other, and nothing else does
abbrev pub Arrives : ℕ → ℕ → ℕ → ℕ → Type 0
Arrives from number one other = (one ≡ from) × (other ≡ number)

-- the nodes with these numbers are led to from that number
abbrev pub LeadsFrom : ℕ → List ℕ → ℕ → ℕ → Type 0
LeadsFrom from numbers one other = (one ≡ from) × Contains numbers other

-- these targets are led to from that number, or where it is none, each from its own
abbrev pub LeadsTo : List ℕ → Option ℕ → List ℕ → ℕ → ℕ → Type 0
LeadsTo nodes from targets one other = (one ≡ unwrap_or from other) × Contains targets (slice_index nodes other)

-- the edges from a level's numbers
abbrev pub LeadsOn : (ℕ → ℕ → Type 0) → List ℕ → List ℕ → ℕ → ℕ → Type 0
LeadsOn Leads nodes level one other = Contains level one × Leads (slice_index nodes one) (slice_index nodes other)
