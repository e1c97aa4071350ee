-- What tables of classes and objects show.
use Rattle.std.specs.Prelude.{◌≡◌, ◌++◌, ◌+◌, ◌<◌, ◌⊎◌, ℕ, List, length, vec_capacity, vec_len, ⊤}
use Rattle.hprof_tables.specs.declared.relation.Stated.{Stated}
use Rattle.hprof_tables.specs.declared.relation.Stated.TheVariants.{New, Same, Differs}
use Rattle.hprof_byte_tables.specs.declared.bytes_table.BytesTable.{BytesTable}
use Rattle.hprof_byte_tables.specs.declared.bytes_table.BytesRows.{BytesRows}
use Rattle.hprof_byte_tables.specs.Spans.{framed, row_bytes, rows_lying}
use Rattle.hprof_tables.specs.SideBySide.{AreMissing}
use Rattle.hprof_tables.specs.SortedTable.{HasNoSpace, LacksRoom, entries_left, entries_of}

-- the bytes of the rows with their keys, in order of key
abbrev pub byte_rows : BytesTable → List (ℕ × List ℕ)
byte_rows table = rows_lying table.bytes.items (entries_of table.rows)

-- it has room for no row, and for no bytes
abbrev pub HasNoRoom : BytesTable → Type 0
HasNoRoom table = HasNoSpace table.rows × (vec_capacity table.bytes ≡ 0)

-- the bytes under the key may need memory: their row does not go behind all others, or there is no room for it, or for the bytes
-- behind their length
abbrev pub MayNeedMemory : BytesTable → ℕ → List ℕ → Type 0
MayNeedMemory table key bytes = LacksRoom table.rows key ⊎ (vec_capacity table.bytes < vec_len table.bytes + length (framed bytes))

-- those that are still to come
abbrev pub byte_rows_left : BytesRows → List (ℕ × List ℕ)
byte_rows_left rows = rows_lying rows.bytes.now (entries_left rows.entries)

-- only bytes that are new are put behind the others; else all that there is stays as it was
abbrev pub LeavesBytes : {X : Type 0} → Stated → X → X → Type 0
LeavesBytes New old new = ⊤
LeavesBytes Same old new = new ≡ old
LeavesBytes Differs old new = new ≡ old

-- where the key is new, its length and its bytes are put behind those that were there, once, and no more
abbrev pub PutsNew : Stated → List ℕ → List ℕ → List ℕ → Type 0
PutsNew New bytes old new = new ≡ old ++ framed bytes
PutsNew Same bytes old new = ⊤
PutsNew Differs bytes old new = ⊤

-- behind the bytes that were there come the lengths and the bytes of the rows of others whose keys the rows lack, each once, and no more
abbrev pub PutsMissing : List (ℕ × List ℕ) → List (ℕ × List ℕ) → List ℕ → List ℕ → Type 0
PutsMissing rows others old new = (missing : List (ℕ × List ℕ)) × AreMissing rows others missing × (new ≡ old ++ row_bytes missing)
