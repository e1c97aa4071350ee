-- Which of several cursors has the least key.
use Rattle.std.specs.Prelude.{◌≡◌, ◌<◌, ◌≤◌, ◌≢◌, ℕ, List, length, Option, Some, None, slice_set}
use Rattle.hprof_merge.specs.declared.contest.Contest.{Contest}
use Rattle.hprof_merge.specs.Rows.{ByteRow, first_key}
use Rattle.hprof_merge.specs.Heads.{keys_in}
use Rattle.hprof_merge.specs.Tree.{head_at}
use Rattle.hprof_merge.specs.Union.{rows_at}

-- the keys in the contest, by the place of their cursor: those in its tree, and the one that stands beside it
abbrev pub heads_of : Contest → List (Option ℕ)
heads_of contest = slice_set (keys_in contest.tree) contest.apart contest.key

-- a least key, and its place; none if there is no key
abbrev pub IsLeastHead : List (Option ℕ) → Option (ℕ × ℕ) → Type 0
IsLeastHead heads None = (place : ℕ) → head_at heads place ≡ None
IsLeastHead heads (Some least) = (least.1 < length heads) × (head_at heads least.1 ≡ Some least.0)
    × ((place key : ℕ) → head_at heads place ≡ Some key → least.0 ≤ key)

-- the first keys of the lists are in the contest, each at its place
abbrev pub Matches : List (Option ℕ) → List (List ByteRow) → Type 0
Matches heads lists = (place : ℕ) → head_at heads place ≡ first_key (rows_at lists place)

-- the same, but for one place, which is held out of it
pub record MatchesBut (held : ℕ) (heads : List (Option ℕ)) (lists : List (List ByteRow)) : Type 0 where
  pub none : head_at heads held ≡ None
  pub others : (place : ℕ) → place ≢ held → head_at heads place ≡ first_key (rows_at lists place)

-- the place of a key that is below none; if there is no place, all keys are above it
abbrev pub IsPlaceOfHead : List (Option ℕ) → ℕ → Option ℕ → Type 0
IsPlaceOfHead heads key None = (place other : ℕ) → head_at heads place ≡ Some other → key < other
IsPlaceOfHead heads key (Some place) = (place < length heads) × (head_at heads place ≡ Some key)
