-- Entries that lie between two places.
use Rattle.std.specs.Prelude.{◌≡◌, ℕ, ◌+◌, ◌<◌, List, ◌++◌, length, drop, Ok, Err}
use Rattle.hprof_values.specs.declared.ids.IdSize.{IdSize}
use Rattle.hprof_values.specs.declared.parse_stop.ParseStop.{ParseStop}
use Rattle.hprof_values.specs.FieldGroups.{Bounds}
use Rattle.hprof_values.specs.declared.entry.Entry.{Entry}
use Rattle.hprof_values.specs.declared.entry.EntryKind.{EntryKind}
use Rattle.hprof_values.specs.Entries.{entries_bytes, EntriesFit, entry_end, entries_end}

-- the bytes from one place to another spell so many entries
pub record EntriesLie (ids : IdSize) (kind : EntryKind) (count : ℕ) (bytes : List ℕ) (at end : ℕ) : Type 0 where
  pub entries : List Entry
  pub fits : EntriesFit ids kind entries
  pub has_count : length entries ≡ count
  pub rest : List ℕ
  pub spelled : drop at bytes ≡ entries_bytes ids kind entries ++ rest
  pub ends : end ≡ at + length (entries_bytes ids kind entries)

-- of so many entries, one has a test that fails with this, and those before it end
pub record StopsBehind (ids : IdSize) (kind : EntryKind) (bounds : Bounds) (bytes : List ℕ) (count at : ℕ) (stop : ParseStop) : Type 0 where
  pub before : ℕ
  pub mid : ℕ
  pub less : before < count
  pub passed : entries_end ids kind bounds bytes before at ≡ Ok mid
  pub stops : entry_end ids kind bounds bytes mid ≡ Err stop
