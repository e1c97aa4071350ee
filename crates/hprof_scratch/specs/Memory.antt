-- The memory that objects may take, in bytes.
use Rattle.std.specs.Prelude.{ℕ, ◌*◌, ◌/◌, ◌^◌, min, Option, Some, None}

-- A quarter of the memory that is available or of the limit, whichever is less. One that is not known does not count; if neither is known,
-- it is 256 MiB.
abbrev pub memory_for : Option ℕ → Option ℕ → ℕ
memory_for (Some available) (Some limit) = min available limit / 4
memory_for (Some available) None = available / 4
memory_for None (Some limit) = limit / 4
memory_for None None = 256 * 2 ^ 20
