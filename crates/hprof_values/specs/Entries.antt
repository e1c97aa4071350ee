-- The entries of a class dump: heapDumper.cpp, "HPROF binary format", HPROF_GC_CLASS_DUMP. A constant is u2 index, u1
-- type, value; a static field id name, u1 type, value; an own instance field id name, u1 type.
use Rattle.std.specs.Prelude.{◌≡◌, ℕ, zero, suc, ◌+◌, ◌≤◌, List, [], ◌∷◌, ◌++◌, length, drop, slice_index, Option, Some, None, unwrap_or}
use Rattle.std.specs.Prelude.{Result, Ok, Err}
use Rattle.std.specs.List.{AllByRecursion}
use Rattle.byteorder.specs.Endian.{big_bytes, big_number}
use Rattle.hprof_values.specs.declared.ids.IdSize.{IdSize}
use Rattle.hprof_values.specs.declared.basic.Basic.{Basic}
use Rattle.hprof_values.specs.declared.basic.Basic.TheVariants as basics
use Rattle.hprof_values.specs.declared.entry.EntryKind.{EntryKind}
use Rattle.hprof_values.specs.declared.entry.EntryKind.TheVariants as kinds
use Rattle.hprof_values.specs.declared.entry.Entry.{Entry}
use Rattle.hprof_values.specs.declared.reason.Reason.TheVariants.{BadType}
use Rattle.hprof_values.specs.declared.parse_stop.ParseStop.{ParseStop}
use Rattle.hprof_values.specs.declared.parse_stop.ParseStop.TheVariants.{Fault}
use Rattle.hprof_values.specs.Ids.{width_of}
use Rattle.hprof_values.specs.Basic.{code_of_basic, basic_of_code, width_of_basic}
use Rattle.hprof_values.specs.FieldGroups.{field_bytes, FitFields, Bounds, ◌>>=◌, reached}

-- ---- what an entry is, and its bytes

-- the width of the index or of the name
abbrev pub lead_width : IdSize → EntryKind → ℕ
lead_width ids kinds.Constant = 2
lead_width ids kinds.Static = width_of ids
lead_width ids kinds.Field = width_of ids

-- the width of the value; an own field has none
abbrev pub bits_width : IdSize → EntryKind → Basic → ℕ
bits_width ids kinds.Constant basic = width_of_basic ids basic
bits_width ids kinds.Static basic = width_of_basic ids basic
bits_width ids kinds.Field basic = 0

abbrev pub entry_widths : IdSize → EntryKind → Basic → List ℕ
entry_widths ids kind basic = lead_width ids kind ∷ 1 ∷ bits_width ids kind basic ∷ []

abbrev pub entry_numbers : Entry → List ℕ
entry_numbers entry = entry.number ∷ code_of_basic entry.basic ∷ entry.bits ∷ []

-- how many bytes it has
abbrev pub entry_len : IdSize → EntryKind → Entry → ℕ
entry_len ids kind entry = lead_width ids kind + 1 + bits_width ids kind entry.basic

abbrev pub entry_bytes : IdSize → EntryKind → Entry → List ℕ
entry_bytes ids kind entry = field_bytes (entry_widths ids kind entry.basic) (entry_numbers entry)

abbrev pub EntryFits : IdSize → EntryKind → Entry → Type 0
EntryFits ids kind entry = FitFields (entry_widths ids kind entry.basic) (entry_numbers entry)

-- the bytes of a list
abbrev pub entries_bytes : IdSize → EntryKind → List Entry → List ℕ
entries_bytes ids kind [] = []
entries_bytes ids kind (entry ∷ entries) = entry_bytes ids kind entry ++ entries_bytes ids kind entries

abbrev pub EntriesFit : IdSize → EntryKind → List Entry → Type 0
EntriesFit ids kind entries = AllByRecursion (EntryFits ids kind) entries

-- the greatest number of entries that the field for it can say
abbrev pub most_entries : ℕ
most_entries = 65535

-- the bytes spell this list
pub record IsEntryList (ids : IdSize) (kind : EntryKind) (entries : List Entry) (bytes : List ℕ) : Type 0 where
  pub fits : EntriesFit ids kind entries
  pub few : length entries ≤ most_entries
  pub spelled : bytes ≡ entries_bytes ids kind entries

-- ---- entries in bytes

-- the type whose code stands at the front
abbrev pub type_in : List ℕ → Basic
type_in bytes = unwrap_or (basic_of_code (slice_index bytes 0)) basics.Array

-- the entry of that type at the front
abbrev pub typed_entry : IdSize → EntryKind → Basic → List ℕ → Entry
typed_entry ids kind basic bytes = record {
  number = big_number (lead_width ids kind) bytes;
  basic = basic;
  bits = big_number (bits_width ids kind basic) (drop (lead_width ids kind + 1) bytes);
}

-- the entry at the front, where there is one
abbrev pub entry_in : IdSize → EntryKind → List ℕ → Entry
entry_in ids kind bytes = typed_entry ids kind (type_in (drop (lead_width ids kind) bytes)) bytes

-- so many entries, one behind the other, where they are
abbrev pub entries_in : IdSize → EntryKind → ℕ → List ℕ → List Entry
entries_in ids kind zero bytes = []
entries_in ids kind (suc count) bytes =
    entry_in ids kind bytes ∷ entries_in ids kind count (drop (entry_len ids kind (entry_in ids kind bytes)) bytes)

-- ---- where they end

-- a type that stands for one
abbrev pub judged_type : Option Basic → Result Basic ParseStop
judged_type None = Err (Fault BadType)
judged_type (Some basic) = Ok basic

-- where the entry ends that begins there: its index or name and its type are there, the type is right, its value is there
unfoldable pub entry_end : IdSize → EntryKind → Bounds → List ℕ → ℕ → Result ℕ ParseStop
entry_end ids kind bounds bytes at =
    reached bounds at (lead_width ids kind ∷ 1 ∷ []) >>= λ front.
    judged_type (basic_of_code (slice_index bytes (at + lead_width ids kind))) >>= λ basic.
    reached bounds front (bits_width ids kind basic ∷ [])

-- where the last of so many entries ends
abbrev pub entries_end : IdSize → EntryKind → Bounds → List ℕ → ℕ → ℕ → Result ℕ ParseStop
entries_end ids kind bounds bytes zero at = Ok at
entries_end ids kind bounds bytes (suc count) at = entry_end ids kind bounds bytes at >>= λ end. entries_end ids kind bounds bytes count end

-- ---- a list behind its count

-- a list as it stands in a class dump: u2 count, and the entries
abbrev pub list_bytes : IdSize → EntryKind → List Entry → List ℕ
list_bytes ids kind entries = big_bytes 2 (length entries) ++ entries_bytes ids kind entries

abbrev pub ListFits : IdSize → EntryKind → List Entry → Type 0
ListFits ids kind entries = EntriesFit ids kind entries × (length entries ≤ most_entries)

-- the list whose count stands there
abbrev pub list_in : IdSize → EntryKind → List ℕ → ℕ → List Entry
list_in ids kind bytes at = entries_in ids kind (big_number 2 (drop at bytes)) (drop (at + 2) bytes)

-- where the list ends whose count stands there: the count is there, and then each entry passes its tests
unfoldable pub list_end : IdSize → EntryKind → Bounds → List ℕ → ℕ → Result ℕ ParseStop
list_end ids kind bounds bytes at =
    reached bounds at (2 ∷ []) >>= λ begin. entries_end ids kind bounds bytes (big_number 2 (drop at bytes)) begin
