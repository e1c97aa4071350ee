-- A fact fits a size of identifiers in at most one way.
use Rattle.std.specs.Prelude.{ℕ, List, [], ◌∷◌, length, Option, Some, None}
use Rattle.std.specs.Coded.{×_prop, Unit-prop, le_prop}
use Rattle.std.proofs.Props.{props}
use Rattle.hprof_values.specs.declared.ids.IdSize.{IdSize}
use Rattle.hprof_values.specs.declared.entry.Entry.{Entry}
use Rattle.hprof_values.specs.declared.entry.EntryKind.{EntryKind}
use Rattle.hprof_values.specs.declared.record_tag.RecordTag.{RecordTag}
use Rattle.hprof_values.specs.Entries.{EntriesFit, ListFits, entry_widths, entry_numbers}
use Rattle.hprof_values.specs.FieldGroups.{FitFields}
use Rattle.hprof_values.specs.Ids.{IsBytes}
use Rattle.hprof_values.specs.Lists.{id_widths}
use Rattle.hprof_values.specs.Root.{root_widths, root_numbers}
use Rattle.hprof_items.specs.FactValue.{FactValue, Name, Frame, Trace, Rooted, Class, Instance, ObjArray, PrimArray}
use Rattle.hprof_items.specs.RecordBody.{record_of, RestFits}
use Rattle.hprof_items.specs.SubRecord.{DumpFits}
use Rattle.hprof_items.specs.Spelling.{Fits, FitsAs}

FitFields-prop : (widths numbers : List ℕ) → IsProp (FitFields widths numbers)
FitFields-prop [] [] = Unit-prop
FitFields-prop [] (number ∷ numbers) = hlevel props
FitFields-prop (width ∷ widths) [] = hlevel props
FitFields-prop (width ∷ widths) (number ∷ numbers) = ×_prop le_prop (FitFields-prop widths numbers)

IsBytes-prop : (bytes : List ℕ) → IsProp (IsBytes bytes)
IsBytes-prop bytes = hlevel le_prop

EntriesFit-prop : (ids : IdSize) (kind : EntryKind) (entries : List Entry) → IsProp (EntriesFit ids kind entries)
EntriesFit-prop ids kind [] = Unit-prop
EntriesFit-prop ids kind (entry ∷ entries) = ×_prop (FitFields-prop (entry_widths ids kind entry.basic) (entry_numbers entry))
    (EntriesFit-prop ids kind entries)

ListFits-prop : (ids : IdSize) (kind : EntryKind) (entries : List Entry) → IsProp (ListFits ids kind entries)
ListFits-prop ids kind entries = ×_prop (EntriesFit-prop ids kind entries) le_prop

RestFits-prop : (ids : IdSize) (fact : FactValue) → IsProp (RestFits ids fact)
RestFits-prop ids (Name id text) = IsBytes-prop text
RestFits-prop ids (Frame id method signature source class_serial line) = hlevel props
RestFits-prop ids (Trace serial thread frames) = FitFields-prop (id_widths ids (length frames)) frames
RestFits-prop ids _ = Unit-prop

pub DumpFits-prop : (ids : IdSize) (fact : FactValue) → IsProp (DumpFits ids fact)
DumpFits-prop ids (Rooted root) = FitFields-prop (root_widths ids root) (root_numbers root)
DumpFits-prop ids (Class id trace parent loader signers domain reserved1 reserved2 size constants statics fields) =
    hlevel (FitFields-prop, ListFits-prop)
DumpFits-prop ids (Instance id trace class bytes) = hlevel (FitFields-prop, IsBytes-prop)
DumpFits-prop ids (ObjArray id trace class elements) = hlevel FitFields-prop
DumpFits-prop ids (PrimArray id trace elem bytes) = hlevel (props, FitFields-prop, IsBytes-prop)
DumpFits-prop ids _ = hlevel props

FitsAs-prop : (ids : IdSize) (tag : Option RecordTag) (fact : FactValue) → IsProp (FitsAs ids tag fact)
FitsAs-prop ids (Some tag) fact = hlevel (props, le_prop, FitFields-prop, RestFits-prop)
FitsAs-prop ids None fact = ×_prop (DumpFits-prop ids fact) le_prop

pub Fits-prop : (ids : IdSize) (fact : FactValue) → IsProp (Fits ids fact)
Fits-prop ids fact = FitsAs-prop ids (record_of fact) fact
