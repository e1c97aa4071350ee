-- How long spellings are.
use Rattle.std.proofs.Common.{◌≡◌, ℕ, ◌+◌, ◌*◌, ◌≤◌, List, ◌++◌, length, arith}
use Rattle.std.proofs.lemmas.List.{length-append}
use Rattle.std.specs.Prelude.{sum}
use Rattle.hprof_values.specs.declared.ids.IdSize.{IdSize}
use Rattle.hprof_values.specs.declared.ids.IdSize.TheVariants.{Four, Eight}
use Rattle.hprof_values.specs.declared.entry.Entry.{Entry}
use Rattle.hprof_values.specs.declared.entry.EntryKind.TheVariants as kinds
use Rattle.hprof_values.specs.declared.sub_tag.SubTag.{SubTag}
use Rattle.hprof_values.specs.declared.sub_tag.SubTag.TheVariants as tags
use Rattle.hprof_values.specs.Ids.{width_of}
use Rattle.hprof_values.specs.Entries.{entries_bytes, list_bytes, ListFits}
use Rattle.hprof_values.specs.FieldGroups.{field_bytes, FitFields}
use Rattle.hprof_values.proofs.EntryLists.{entries_most}
use Rattle.hprof_values.proofs.FieldGroups.{length-fields}
use Rattle.hprof_items.specs.ClassDump.{class_widths, class_lists}
use Rattle.hprof_items.specs.Spelling.{longest_body}
use Rattle.hprof_items.specs.SubRecord.{tagged_bytes}

-- a group of fields behind a tag, and then bytes
pub length-tagged : (tag : SubTag) (widths numbers more : List ℕ) → FitFields widths numbers
    → length (tagged_bytes tag widths numbers more) ≡ 1 + sum widths + length more
length-tagged tag widths numbers more fits =
    omega (arith, length-fields widths numbers fits, length-append (field_bytes widths numbers) more)

-- the lists of a class, each behind two bytes
pub length-lists : (ids : IdSize) (constants statics fields : List Entry)
    → length (class_lists ids constants statics fields)
    ≡ 6 + length (entries_bytes ids kinds.Constant constants) + length (entries_bytes ids kinds.Static statics) + length
    (entries_bytes ids kinds.Field fields)
length-lists ids constants statics fields =
    omega (
      arith,
      length-append (entries_bytes ids kinds.Constant constants) (list_bytes ids kinds.Static statics ++ list_bytes ids kinds.Field fields),
      length-append (entries_bytes ids kinds.Static statics) (list_bytes ids kinds.Field fields),
    )

-- the fields of a class
pub sum_class : (ids : IdSize) → sum (class_widths ids) ≡ 8 + 7 * width_of ids
sum_class Four = omega arith
sum_class Eight = omega arith

width_most : (ids : IdSize) → width_of ids ≤ 8
width_most Four = omega arith
width_most Eight = omega arith

-- a class is never too long
pub class_short : (ids : IdSize) (numbers : List ℕ) (constants statics fields : List Entry) → FitFields (class_widths ids) numbers
    → ListFits ids kinds.Constant constants → ListFits ids kinds.Static statics → ListFits ids kinds.Field fields
    → length (tagged_bytes tags.ClassDump (class_widths ids) numbers (class_lists ids constants statics fields)) ≤ longest_body
class_short ids numbers constants statics fields fits first second third =
    omega (
      arith,
      length-tagged tags.ClassDump (class_widths ids) numbers (class_lists ids constants statics fields) fits,
      length-lists ids constants statics fields,
      sum_class ids,
      width_most ids,
      entries_most ids kinds.Constant constants,
      entries_most ids kinds.Static statics,
      entries_most ids kinds.Field fields,
      first.1,
      second.1,
      third.1,
    )
