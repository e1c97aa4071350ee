-- What is put behind a list; no public contract speaks of it.
use Rattle.std.specs.Prelude.{◌≡◌, ◌<◌, ◌≤◌, ℕ, List, length, slice_index}

-- behind the old list stand numbers, which are those that came
pub record Appends (Came : ℕ → Type 0) (old new : List ℕ) : Type 0 where
  pub longer : length old ≤ length new
  pub kept : (place : ℕ) → place < length old → slice_index new place ≡ slice_index old place
  pub only : (place : ℕ) → length old ≤ place → place < length new → Came (slice_index new place)
  pub all : (number : ℕ) → Came number
      → (place : ℕ) × (length old ≤ place) × (place < length new) × (slice_index new place ≡ number)
