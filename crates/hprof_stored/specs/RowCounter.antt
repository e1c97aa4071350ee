-- A sink that counts rows.
use Rattle.std.specs.Prelude.{◌≡◌, ◌≤◌, ◌+◌, ◌^◌}
use Rattle.hprof_stored.specs.declared.row_counter.RowCounter.{RowCounter}

-- one row more
abbrev pub Counts : RowCounter → RowCounter → Type 0
Counts old new = new.count ≡ old.count + 1

-- with one row more there are too many
abbrev pub IsFull : RowCounter → Type 0
IsFull old = 2 ^ 64 ≤ old.count + 1
