-- What lists of entries, and of identifiers, have.
use Rattle.std.specs.Prelude.{◌≡◌, ℕ, ◌/◌, List, length, replicate}
use Rattle.hprof_values.specs.declared.ids.IdSize.{IdSize}
use Rattle.hprof_values.specs.declared.entry.Entry.{Entry}
use Rattle.hprof_values.specs.declared.value.ListEntry.{Ghosts as ListEntry}
use Rattle.hprof_values.specs.declared.lists.entry_list.EntryList.{EntryList}
use Rattle.hprof_values.specs.declared.lists.entry_list.EntryIterator.{EntryIterator}
use Rattle.hprof_values.specs.declared.lists.ids.IdList.{IdList}
use Rattle.hprof_values.specs.declared.lists.ids.Ids.{Ids}
use Rattle.hprof_values.specs.Ids.{width_of}
use Rattle.hprof_values.specs.FieldGroups.{field_bytes, fields_in, FitFields}
use Rattle.hprof_values.specs.Entries.{entries_in}

-- the entries of a list of a class, those that are still to come, and the size of identifiers among them
abbrev pub entries_of : {E : Type 0} {entry : ListEntry E} → EntryList E entry → List Entry
entries_of {entry = entry} list = entries_in list.ids entry.KIND list.len list.bytes.now

abbrev pub entries_left : {E : Type 0} {entry : ListEntry E} → EntryIterator E entry → List Entry
entries_left {entry = entry} entries = entries_in entries.ids entry.KIND entries.left entries.rest.now

abbrev pub entries_size : {E : Type 0} {entry : ListEntry E} → EntryList E entry → IdSize
entries_size list = list.ids

-- so many identifiers
abbrev pub id_widths : IdSize → ℕ → List ℕ
id_widths ids count = replicate count (width_of ids)

-- the bytes spell these identifiers
pub record IsIdList (ids : IdSize) (numbers bytes : List ℕ) : Type 0 where
  pub fits : FitFields (id_widths ids (length numbers)) numbers
  pub spelled : bytes ≡ field_bytes (id_widths ids (length numbers)) numbers

-- the identifiers that the bytes spell
abbrev pub ids_in : IdSize → List ℕ → List ℕ
ids_in ids bytes = fields_in (id_widths ids (length bytes / width_of ids)) bytes

-- the identifiers of a list, those that are still to come, and their size
abbrev pub identifiers_of : IdList → List ℕ
identifiers_of list = ids_in list.ids list.bytes.now

abbrev pub identifiers_left : Ids → List ℕ
identifiers_left identifiers = ids_in identifiers.ids identifiers.rest.now

abbrev pub identifiers_size : IdList → IdSize
identifiers_size list = list.ids
