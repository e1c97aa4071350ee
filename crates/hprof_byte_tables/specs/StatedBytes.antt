-- A row that is stated.
use Rattle.std.specs.Prelude.{ℕ, List, [], ◌∷◌, ◌++◌}
use Rattle.hprof_byte_tables.specs.declared.framed_rows.Front.{Front}
use Rattle.hprof_byte_tables.specs.declared.framed_rows.Front.TheVariants as fronts
use Rattle.hprof_byte_tables.specs.declared.framed_rows.StatedBytes.{StatedBytes}

-- the bytes that stand apart
abbrev pub front_bytes : Front → List ℕ
front_bytes fronts.Nothing = []
front_bytes (fronts.One byte) = byte ∷ []
front_bytes (fronts.Four bytes) = bytes

-- its bytes: the first, where they stand apart, and the others
abbrev pub bytes_of : StatedBytes → List ℕ
bytes_of stated = front_bytes stated.front ++ stated.rest.now
