-- The walk over a sub-record that finds where it ends: it can stop where the bytes end, and go on when more have come.
use Rattle.std.specs.Prelude.{◌≡◌, ◌≢◌, ◌≤◌, ℕ, zero, suc, List, [], ◌∷◌, ◌++◌, length, drop, Option, Some, None, Result, Ok, Err, ⊤}
use Rattle.byteorder.specs.Endian.{big_number}
use Rattle.hprof_values.specs.declared.ids.IdSize.{IdSize}
use Rattle.hprof_values.specs.declared.entry.EntryKind.{EntryKind}
use Rattle.hprof_values.specs.declared.entry.EntryKind.TheVariants as kinds
use Rattle.hprof_values.specs.declared.bounded_bytes.BoundedBytes.{BoundedBytes}
use Rattle.hprof_values.specs.declared.parse_stop.ParseStop.{ParseStop}
use Rattle.hprof_values.specs.declared.sub_tag.SubTag.TheVariants as tags
use Rattle.hprof_values.specs.FieldGroups.{Bounds, ◌>>=◌, reached, with_more}
use Rattle.hprof_values.specs.Entries.{entry_end, entries_end, list_end}
use Rattle.hprof_values.specs.BoundedBytes.{bounds_of}
use Rattle.hprof_items.specs.declared.walk.Walk.{Walk}
use Rattle.hprof_items.specs.declared.walk.Walk.TheVariants.{Front, Entries}
use Rattle.hprof_items.specs.FactValue.{FactValue}
use Rattle.hprof_items.specs.ClassDump.{class_widths}
use Rattle.hprof_items.specs.SubRecord.{tag_at, sub_at}

-- the end, without the fact
abbrev pub end_of_read : Result (FactValue × ℕ) ParseStop → Result ℕ ParseStop
end_of_read (Ok read) = Ok read.1
end_of_read (Err stop) = Err stop

-- where the lists end that stand behind one of that kind
abbrev pub behind : IdSize → EntryKind → Bounds → List ℕ → ℕ → Result ℕ ParseStop
behind ids kinds.Field bounds bytes at = Ok at
behind ids kinds.Static bounds bytes at = list_end ids kinds.Field bounds bytes at
behind ids kinds.Constant bounds bytes at = list_end ids kinds.Static bounds bytes at >>= λ end. list_end ids kinds.Field bounds bytes end

-- where the sub-record ends, from as far as it was walked
unfoldable pub walked : IdSize → Bounds → List ℕ → Walk → Result ℕ ParseStop
walked ids bounds bytes Front = end_of_read (sub_at ids bounds bytes)
walked ids bounds bytes (Entries kind left at) = entries_end ids kind bounds bytes left at >>= λ end. behind ids kind bounds bytes end

-- it was walked no further than the bytes that are there
abbrev pub IsPlaced : BoundedBytes → Walk → Type 0
IsPlaced item Front = ⊤
IsPlaced item (Entries kind left at) = at ≤ length item.bytes.now

-- what the walk finds is what another finds, also when more bytes have come
abbrev pub FindsSame : IdSize → BoundedBytes → Walk → Walk → Type 0
FindsSame ids item walk other =
    (more : List ℕ) → walked ids (with_more (bounds_of item) (length more)) (item.bytes.now ++ more) walk
    ≡ walked ids (with_more (bounds_of item) (length more)) (item.bytes.now ++ more) other

-- ---- the steps of a walk

-- the list behind one of that kind
abbrev pub next_kind : EntryKind → Option EntryKind
next_kind kinds.Constant = Some kinds.Static
next_kind kinds.Static = Some kinds.Field
next_kind kinds.Field = None

-- how many entries the list has whose count stands there, and where the first of them begins
abbrev pub count_at : Bounds → List ℕ → ℕ → Result (ℕ × ℕ) ParseStop
count_at bounds bytes at = reached bounds at (2 ∷ []) >>= λ begin. Ok (big_number 2 (drop at bytes), begin)

-- the same of a class's constants, behind its fields
abbrev pub class_count : IdSize → Bounds → List ℕ → Result (ℕ × ℕ) ParseStop
class_count ids bounds bytes = reached bounds 1 (class_widths ids) >>= λ front. count_at bounds bytes front

-- what the walk comes to next stops it so: an entry, the count of the next list, or the fields of a class with the
-- count of its constants; what else there may be at the front is tested at once
abbrev pub StopsIn : IdSize → Bounds → List ℕ → Walk → ParseStop → Type 0
StopsIn ids bounds bytes Front stop = tag_at bounds bytes ≡ Ok tags.ClassDump → class_count ids bounds bytes ≡ Err stop
StopsIn ids bounds bytes (Entries kind zero at) stop = (kind ≢ kinds.Field) × (count_at bounds bytes at ≡ Err stop)
StopsIn ids bounds bytes (Entries kind (suc left) at) stop = entry_end ids kind bounds bytes at ≡ Err stop

abbrev pub StopsAt : IdSize → BoundedBytes → Walk → ParseStop → Type 0
StopsAt ids item walk stop = StopsIn ids (bounds_of item) item.bytes.now walk stop
