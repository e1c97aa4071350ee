-- Counting the bytes of rows.
use Rattle.std.specs.Prelude.{◌≡◌, ◌+◌, ◌-◌, ◌^◌, ℕ, List, length, min}
use Rattle.hprof_stored101.specs.declared.byte_counter.ByteCounter.{ByteCounter}

-- a number, or 2^64 - 1 if it is greater
abbrev pub capped : ℕ → ℕ
capped number = min number (2 ^ 64 - 1)

-- the bytes of a row were counted
abbrev pub Counts : ByteCounter → ℕ → List ℕ → ByteCounter → Type 0
Counts old key bytes new = new.count ≡ capped (old.count + length bytes)
