-- Sub-records, from their tag on: heapDumper.cpp, "HPROF binary format", HEAP_DUMP. Roots, instances and arrays are
-- a group of fields behind the tag and at most one further field, whose length the group says; a class has lists there.
use Rattle.std.specs.Prelude.{◌≡◌, ◌==◌, ℕ, ◌*◌, ◌/◌, ◌%◌, Bool, true, false, List, [], ◌∷◌, ◌++◌, length, take, drop, slice_index, Option}
use Rattle.std.specs.Prelude.{Some, None, Result, Ok, Err, if◌then◌else◌}
use Rattle.hprof_values.specs.declared.ids.IdSize.{IdSize}
use Rattle.hprof_values.specs.declared.basic.Basic.{Basic}
use Rattle.hprof_values.specs.declared.basic.Basic.TheVariants as basics
use Rattle.hprof_values.specs.declared.root.Root.{Root}
use Rattle.hprof_values.specs.declared.root.Root.TheVariants as roots
use Rattle.hprof_values.specs.declared.sub_tag.SubTag.{SubTag}
use Rattle.hprof_values.specs.declared.sub_tag.SubTag.TheVariants as tags
use Rattle.hprof_values.specs.declared.reason.Reason.TheVariants.{BadSubTag, BadType}
use Rattle.hprof_values.specs.declared.parse_stop.ParseStop.{ParseStop}
use Rattle.hprof_values.specs.declared.parse_stop.ParseStop.TheVariants.{Short, Fault}
use Rattle.hprof_values.specs.Ids.{width_of, IsBytes}
use Rattle.hprof_values.specs.Basic.{code_of_basic, basic_of_code, width_of_basic}
use Rattle.hprof_values.specs.FieldGroups.{field_bytes, fields_in, FitFields, Bounds, ◌>>=◌, reached, IsWithin}
use Rattle.hprof_values.specs.SubTag.{code_of_tag, tag_of_code}
use Rattle.hprof_values.specs.Root.{tag_of_root, root_fields, root_bytes, RootFits}
use Rattle.hprof_values.specs.Lists.{id_widths, ids_in}
use Rattle.hprof_values.specs.declared.entry.EntryKind.TheVariants as kinds
use Rattle.hprof_values.specs.Entries.{ListFits}
use Rattle.hprof_items.specs.ClassDump.{class_widths, class_lists, class_at}
use Rattle.hprof_items.specs.FactValue.{FactValue, Rooted, Class, Instance, ObjArray, PrimArray}

-- ---- the fields behind the tag

-- id object, u4 trace serial, id class, u4 number of bytes
abbrev pub instance_widths : IdSize → List ℕ
instance_widths ids = width_of ids ∷ 4 ∷ width_of ids ∷ 4 ∷ []

-- id array, u4 trace serial, u4 number of elements, id array class
abbrev pub obj_array_widths : IdSize → List ℕ
obj_array_widths ids = width_of ids ∷ 4 ∷ 4 ∷ width_of ids ∷ []

-- id array, u4 trace serial, u4 number of elements, u1 element type
abbrev pub prim_array_widths : IdSize → List ℕ
prim_array_widths ids = width_of ids ∷ 4 ∷ 4 ∷ 1 ∷ []

-- ---- reading, behind a tag that was read

-- the root of that tag with those numbers
abbrev pub root_of : SubTag → List ℕ → Root
root_of tags.RootJniGlobal numbers = roots.JniGlobal (slice_index numbers 0) (slice_index numbers 1)
root_of tags.RootJniLocal numbers = roots.JniLocal (slice_index numbers 0) (slice_index numbers 1) (slice_index numbers 2)
root_of tags.RootJavaFrame numbers = roots.JavaFrame (slice_index numbers 0) (slice_index numbers 1) (slice_index numbers 2)
root_of tags.RootNativeStack numbers = roots.NativeStack (slice_index numbers 0) (slice_index numbers 1)
root_of tags.RootSticky numbers = roots.Sticky (slice_index numbers 0)
root_of tags.RootBlock numbers = roots.Block (slice_index numbers 0) (slice_index numbers 1)
root_of tags.RootMonitor numbers = roots.Monitor (slice_index numbers 0)
root_of tags.RootThreadObject numbers = roots.ThreadObject (slice_index numbers 0) (slice_index numbers 1) (slice_index numbers 2)
root_of _ numbers = roots.Unknown (slice_index numbers 0)

unfoldable pub root_at : IdSize → SubTag → Bounds → List ℕ → Result (FactValue × ℕ) ParseStop
root_at ids tag bounds bytes =
    reached bounds 1 (root_fields ids tag) >>= λ end. Ok (Rooted (root_of tag (fields_in (root_fields ids tag) (drop 1 bytes))), end)

-- a field of that many bytes behind others
abbrev pub cut : ℕ → ℕ → List ℕ → List ℕ
cut len at bytes = take len (drop at bytes)

unfoldable pub instance_at : IdSize → Bounds → List ℕ → Result (FactValue × ℕ) ParseStop
instance_at ids bounds bytes =
    let numbers = fields_in (instance_widths ids) (drop 1 bytes) in
    let len = slice_index numbers 3 in
    reached bounds 1 (instance_widths ids) >>= λ front.
    reached bounds front (len ∷ []) >>= λ end.
    Ok (Instance (slice_index numbers 0) (slice_index numbers 1) (slice_index numbers 2) (cut len front bytes), end)

unfoldable pub obj_array_at : IdSize → Bounds → List ℕ → Result (FactValue × ℕ) ParseStop
obj_array_at ids bounds bytes =
    let numbers = fields_in (obj_array_widths ids) (drop 1 bytes) in
    let len = slice_index numbers 2 * width_of ids in
    reached bounds 1 (obj_array_widths ids) >>= λ front.
    reached bounds front (len ∷ []) >>= λ end.
    Ok (ObjArray (slice_index numbers 0) (slice_index numbers 1) (slice_index numbers 3) (ids_in ids (cut len front bytes)), end)

-- the type of an array's elements: neither array nor object
abbrev pub element_type : Option Basic → Result Basic ParseStop
element_type None = Err (Fault BadType)
element_type (Some basics.Array) = Err (Fault BadType)
element_type (Some basics.Object) = Err (Fault BadType)
element_type (Some basic) = Ok basic

unfoldable pub prim_array_at : IdSize → Bounds → List ℕ → Result (FactValue × ℕ) ParseStop
prim_array_at ids bounds bytes =
    let numbers = fields_in (prim_array_widths ids) (drop 1 bytes) in
    reached bounds 1 (prim_array_widths ids) >>= λ front.
    element_type (basic_of_code (slice_index numbers 3)) >>= λ elem.
    reached bounds front (slice_index numbers 2 * width_of_basic ids elem ∷ []) >>= λ end.
    Ok (
      PrimArray (slice_index numbers 0) (slice_index numbers 1) elem (cut (slice_index numbers 2 * width_of_basic ids elem) front
          bytes),
      end,
    )

-- ---- reading, from the tag on

-- the sub-record of that tag, behind it
abbrev pub dump_at : IdSize → SubTag → Bounds → List ℕ → Result (FactValue × ℕ) ParseStop
dump_at ids tags.ClassDump bounds bytes = class_at ids bounds bytes
dump_at ids tags.InstanceDump bounds bytes = instance_at ids bounds bytes
dump_at ids tags.ObjArrayDump bounds bytes = obj_array_at ids bounds bytes
dump_at ids tags.PrimArrayDump bounds bytes = prim_array_at ids bounds bytes
dump_at ids tag bounds bytes = root_at ids tag bounds bytes

-- a tag that stands for a sub-record
abbrev pub judged_tag : Option SubTag → Result SubTag ParseStop
judged_tag None = Err (Fault BadSubTag)
judged_tag (Some tag) = Ok tag

-- the sub-record at the front: a first byte is there, then its tests, field by field
unfoldable pub sub_at : IdSize → Bounds → List ℕ → Result (FactValue × ℕ) ParseStop
sub_at ids bounds bytes =
    (if bounds.there == 0 then Err Short else reached bounds 0 (1 ∷ [])) >>= λ front.
    judged_tag (tag_of_code (slice_index bytes 0)) >>= λ tag.
    dump_at ids tag bounds bytes

-- its tag
abbrev pub tag_at : Bounds → List ℕ → Result SubTag ParseStop
tag_at bounds bytes =
    (if bounds.there == 0 then Err Short else reached bounds 0 (1 ∷ [])) >>= λ front.
    judged_tag (tag_of_code (slice_index bytes 0))

-- ---- spelling, with the tag

-- a group of fields behind a tag, and then bytes
abbrev pub tagged_bytes : SubTag → List ℕ → List ℕ → List ℕ → List ℕ
tagged_bytes tag widths numbers raw = code_of_tag tag ∷ (field_bytes widths numbers ++ raw)

-- the numbers in the groups
abbrev pub instance_numbers : (id trace class : ℕ) → List ℕ → List ℕ
instance_numbers id trace class bytes = id ∷ trace ∷ class ∷ length bytes ∷ []

abbrev pub class_numbers : (id trace parent loader signers domain reserved1 reserved2 size : ℕ) → List ℕ
class_numbers id trace parent loader signers domain reserved1 reserved2 size =
    id ∷ trace ∷ parent ∷ loader ∷ signers ∷ domain ∷ reserved1 ∷ reserved2 ∷ size ∷ []

abbrev pub obj_array_numbers : (id trace class : ℕ) → List ℕ → List ℕ
obj_array_numbers id trace class elements = id ∷ trace ∷ length elements ∷ class ∷ []

abbrev pub prim_array_numbers : IdSize → (id trace : ℕ) → Basic → List ℕ → List ℕ
prim_array_numbers ids id trace elem bytes = id ∷ trace ∷ length bytes / width_of_basic ids elem ∷ code_of_basic elem ∷ []

-- the sub-record that states the fact; records state the others
abbrev pub dump_bytes : IdSize → FactValue → List ℕ
dump_bytes ids (Rooted root) = root_bytes ids root
dump_bytes ids (Class id trace parent loader signers domain reserved1 reserved2 size constants statics fields) =
    tagged_bytes tags.ClassDump (class_widths ids) (class_numbers id trace parent loader signers domain reserved1 reserved2 size)
    (class_lists ids constants statics fields)
dump_bytes ids (Instance id trace class bytes) =
    tagged_bytes tags.InstanceDump (instance_widths ids) (instance_numbers id trace class bytes) bytes
dump_bytes ids (ObjArray id trace class elements) =
    tagged_bytes tags.ObjArrayDump (obj_array_widths ids) (obj_array_numbers id trace class elements)
    (field_bytes (id_widths ids (length elements)) elements)
dump_bytes ids (PrimArray id trace elem bytes) =
    tagged_bytes tags.PrimArrayDump (prim_array_widths ids) (prim_array_numbers ids id trace elem bytes) bytes
dump_bytes ids _ = []

-- each field lies in its range, and no element is cut
abbrev pub DumpFits : IdSize → FactValue → Type 0
DumpFits ids (Rooted root) = RootFits ids root
DumpFits ids (Class id trace parent loader signers domain reserved1 reserved2 size constants statics fields) =
    FitFields (class_widths ids) (class_numbers id trace parent loader signers domain reserved1 reserved2 size)
    × ListFits ids kinds.Constant constants × ListFits ids kinds.Static statics × ListFits ids kinds.Field fields
DumpFits ids (Instance id trace class bytes) = FitFields (instance_widths ids) (instance_numbers id trace class bytes) × IsBytes bytes
DumpFits ids (ObjArray id trace class elements) =
    FitFields (obj_array_widths ids) (obj_array_numbers id trace class elements) × FitFields (id_widths ids (length elements)) elements
DumpFits ids (PrimArray id trace elem bytes) =
    FitFields (prim_array_widths ids) (prim_array_numbers ids id trace elem bytes) × IsBytes bytes
    × (length bytes % width_of_basic ids elem ≡ 0)
    × (element_type (Some elem) ≡ Ok elem)
DumpFits ids _ = ⊥

-- the tag of the sub-record that states the fact; of a record's, no tag is meant
abbrev pub tag_of_dump : FactValue → SubTag
tag_of_dump (Rooted root) = tag_of_root root
tag_of_dump (Class id trace parent loader signers domain reserved1 reserved2 size constants statics fields) = tags.ClassDump
tag_of_dump (Instance id trace class bytes) = tags.InstanceDump
tag_of_dump (ObjArray id trace class elements) = tags.ObjArrayDump
tag_of_dump (PrimArray id trace elem bytes) = tags.PrimArrayDump
tag_of_dump _ = tags.RootUnknown

-- the tags of roots
abbrev pub is_root_tag : SubTag → Bool
is_root_tag tags.ClassDump = false
is_root_tag tags.InstanceDump = false
is_root_tag tags.ObjArrayDump = false
is_root_tag tags.PrimArrayDump = false
is_root_tag _ = true

-- behind its tag stands what spells the fact, which has a spelling, within all bounds, and ends there
pub record IsDumpOf (ids : IdSize) (bounds : Bounds) (bytes : List ℕ) (fact : FactValue) (end : ℕ) : Type 0 where
  pub fits : DumpFits ids fact
  pub spelled : drop 1 bytes ≡ drop 1 (dump_bytes ids fact) ++ drop end bytes
  pub ends : end ≡ length (dump_bytes ids fact)
  pub within : IsWithin bounds end

-- at the front stands what spells the fact, which has a spelling, within all bounds, and ends there
pub record IsSubOf (ids : IdSize) (bounds : Bounds) (bytes : List ℕ) (fact : FactValue) (end : ℕ) : Type 0 where
  pub fits : DumpFits ids fact
  pub spelled : bytes ≡ dump_bytes ids fact ++ drop end bytes
  pub ends : end ≡ length (dump_bytes ids fact)
  pub within : IsWithin bounds end
