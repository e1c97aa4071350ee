-- Groups of fields: numbers of given widths, one behind the other, each with its highest byte first.
use Rattle.std.specs.Prelude.{ℕ, ◌+◌, ◌<◌, ◌≤◌, ◌^◌, nat_lt, List, [], ◌∷◌, ◌++◌, length, drop, Result, Ok, Err, ⊤, if◌then◌else◌}
use Rattle.byteorder.specs.Endian.{big_bytes, big_number}
use Rattle.hprof_values.specs.declared.reason.Reason.TheVariants.{PastEnd}
use Rattle.hprof_values.specs.declared.parse_stop.ParseStop.{ParseStop}
use Rattle.hprof_values.specs.declared.parse_stop.ParseStop.TheVariants.{Short, TooLong, Fault}

-- the bytes that spell the numbers in fields of those widths
abbrev pub field_bytes : List ℕ → List ℕ → List ℕ
field_bytes [] numbers = []
field_bytes (width ∷ widths) [] = []
field_bytes (width ∷ widths) (number ∷ numbers) = big_bytes width number ++ field_bytes widths numbers

-- the numbers that stand at the front of the bytes in fields of those widths
abbrev pub fields_in : List ℕ → List ℕ → List ℕ
fields_in [] bytes = []
fields_in (width ∷ widths) bytes = big_number width bytes ∷ fields_in widths (drop width bytes)

-- there is a number for each field, in the range of that field
abbrev pub FitFields : List ℕ → List ℕ → Type 0
FitFields [] [] = ⊤
FitFields [] (number ∷ numbers) = ⊥
FitFields (width ∷ widths) [] = ⊥
FitFields (width ∷ widths) (number ∷ numbers) = (number < 256 ^ width) × FitFields widths numbers

-- ---- where fields end, and which test of them fails first

-- the bytes that an item may take, counted from its first: those of its record, those of the longest item that is
-- taken, and those that are there
pub record Bounds : Type 0 where
  pub room : ℕ
  pub longest : ℕ
  pub there : ℕ

infixl 10 ◌>>=◌
abbrev pub ◌>>=◌ : {A B : Type 0} → Result A ParseStop → (A → Result B ParseStop) → Result B ParseStop
(Ok x) >>= next = next x
(Err stop) >>= next = Err stop

-- the tests of a field by where it ends: within the record, within the longest item, and then it is there
abbrev pub field_end : Bounds → ℕ → Result ℕ ParseStop
field_end bounds end =
    if nat_lt bounds.room end then Err (Fault PastEnd)
    else (if nat_lt bounds.longest end then Err TooLong else (if nat_lt bounds.there end then Err Short else Ok end))

-- where fields of those widths end that begin there, each tested before the next
abbrev pub reached : Bounds → ℕ → List ℕ → Result ℕ ParseStop
reached bounds at [] = Ok at
reached bounds at (width ∷ widths) = field_end bounds (at + width) >>= λ end. reached bounds end widths

-- it ends within all bounds
pub record IsWithin (bounds : Bounds) (end : ℕ) : Type 0 where
  pub room : end ≤ bounds.room
  pub longest : end ≤ bounds.longest
  pub there : end ≤ bounds.there

-- the same bounds, with more bytes there
abbrev pub with_more : Bounds → ℕ → Bounds
with_more bounds more = record { room = bounds.room; longest = bounds.longest; there = bounds.there + more }

-- all of the bytes, and no others
abbrev pub exactly : List ℕ → Bounds
exactly bytes = record { room = length bytes; longest = length bytes; there = length bytes }
