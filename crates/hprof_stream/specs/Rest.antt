-- What a reader keeps of an item that is not whole yet.
use Rattle.std.specs.Prelude.{◌≡◌, ℕ, ◌+◌, ◌-◌, ◌<◌, ◌≤◌, ◌⊎◌, vec_len, vec_capacity, List, [], ◌++◌, length, drop, Option, Some, None, ⊤}
use Rattle.std.specs.Prelude.{if◌then◌else◌, Result, Ok, Err}
use Rattle.hprof_values.specs.declared.ids.IdSize.{IdSize}
use Rattle.hprof_values.specs.Ids.{IsBytes}
use Rattle.hprof_items.specs.declared.head.Head.{Head}
use Rattle.hprof_values.specs.declared.parse_stop.ParseStop.{ParseStop}
use Rattle.hprof_values.specs.declared.parse_stop.ParseStop.TheVariants.{Short}
use Rattle.hprof_items.specs.declared.walk.Walk.{Walk}
use Rattle.hprof_items.specs.declared.walk.Walk.TheVariants.{Front, Entries}
use Rattle.hprof_items.specs.Head.{kind_of}
use Rattle.hprof_items.specs.Reading.{head_at}
use Rattle.hprof_items.specs.SubReading.{bounds_within}
use Rattle.hprof_items.specs.Walk.{walked}
use Rattle.hprof_stream.specs.declared.rest.Passing.{Passing}
use Rattle.hprof_stream.specs.declared.rest.Rest.{Rest}
use Rattle.hprof_stream.specs.ItemValue as items
use Rattle.hprof_stream.specs.declared.progress.Progress.{Progress}
use Rattle.hprof_stream.specs.ItemStep.{IsOfPlace}
use Rattle.hprof_stream.specs.Progress.{place_of, advanced}
use Rattle.hprof_stream.specs.Item.{Place, Between, Within, is_skipped_kind, held_of, item_at}

-- how much was seen of a record that is passed over, once its head is there
abbrev pub passing_by : Result (Head × ℕ) ParseStop → ℕ → Option Passing
passing_by (Ok (head, n)) seen = if is_skipped_kind (kind_of head.tag) then Some (record { seen = seen; left = 9 + head.length - seen })
    else None
passing_by _ seen = None

abbrev pub passing_of : ℕ → Place → List ℕ → Option Passing
passing_of longest (Between header) bytes = passing_by (head_at header.ids longest bytes) (length bytes)
passing_of longest place bytes = None

-- how far a sub-record was walked
abbrev pub walk_at : Walk → ℕ
walk_at Front = 0
walk_at (Entries kind left at) = at

-- a sub-record was walked no further than its bytes that are there, and from there on, whatever comes, it ends where it does
pub record IsWalked (ids : IdSize) (room longest : ℕ) (bytes : List ℕ) (walk : Walk) : Type 0 where
  pub placed : walk_at walk ≤ length bytes
  pub same : (more : List ℕ) → walked ids (bounds_within room longest (bytes ++ more)) (bytes ++ more) walk
      ≡ walked ids (bounds_within room longest (bytes ++ more)) (bytes ++ more) Front

abbrev pub IsWalkOf : ℕ → Place → List ℕ → Walk → Type 0
IsWalkOf longest (Within header room) bytes walk = IsWalked header.ids room longest bytes walk
IsWalkOf longest place bytes walk = ⊤

-- these bytes are there of an item at that place that is not whole yet, and this is what is kept of them
pub record IsRest (longest : ℕ) (place : Place) (bytes : List ℕ) (rest : Rest) : Type 0 where
  pub are_bytes : IsBytes bytes
  pub short : item_at longest place bytes ≡ Err Short
  pub held : rest.held.items ≡ held_of longest place bytes
  pub passing : rest.passing ≡ passing_of longest place bytes
  pub walk : IsWalkOf longest place bytes rest.walk

-- ---- the room for what is held

-- a growth is needed to hold so many bytes more
abbrev pub NeedsGrowth : Rest → ℕ → Type 0
NeedsGrowth rest more = vec_capacity rest.held < vec_len rest.held + more

-- no room was given up; and what is held, with the bytes that are left, is no more than what was held with those that came
pub record KeepsRoom (old : Rest) (came : ℕ) (new : Rest) (left : ℕ) : Type 0 where
  pub room : vec_capacity old.held ≤ vec_capacity new.held
  pub fewer : vec_len new.held + left ≤ vec_len old.held + came

-- ---- over a record that is passed over

-- its last bytes came, and nothing is there of the next item; or its bytes are still to come, and none were left
abbrev pub PassesOver : Progress → (front bytes : List ℕ) → Progress → List ℕ → Rest → Type 0
PassesOver from front bytes to left rest =
    ((n : ℕ) × (item_at from.limits.max_item (place_of from) (front ++ bytes) ≡ Ok (record { next = place_of from; facts = [] }, n))
    × (to ≡ advanced from items.Skipped n)
    × (left ≡ drop n (front ++ bytes)) × IsOfPlace (place_of from) (front ++ bytes) items.Skipped
    × IsRest from.limits.max_item (place_of from) [] rest)
    ⊎ ((to ≡ from) × (left ≡ []) × IsRest from.limits.max_item (place_of from) (front ++ bytes) rest)

-- what a reader keeps has this many bytes of the part behind it
abbrev pub passed_len : Option Passing → ℕ
passed_len None = 0
passed_len (Some passing) = passing.seen

abbrev pub rest_len : Rest → ℕ
rest_len rest = passed_len rest.passing + length rest.held.items

-- with its head, of a record that is passed over
abbrev pub seen_of : Option Passing → ℕ
seen_of None = 9
seen_of (Some passing) = passing.seen

-- the head of what is passed over came, and what is held was walked no further than it goes
pub record IsSound (rest : Rest) : Type 0 where
  pub passing : 9 ≤ seen_of rest.passing
  pub placed : walk_at rest.walk ≤ length rest.held.items
