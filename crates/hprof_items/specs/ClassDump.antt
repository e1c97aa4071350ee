-- The sub-record of a class: heapDumper.cpp, "HPROF binary format", HPROF_GC_CLASS_DUMP.
use Rattle.std.specs.Prelude.{ℕ, List, [], ◌∷◌, ◌++◌, drop, slice_index, Result, Ok}
use Rattle.hprof_values.specs.declared.ids.IdSize.{IdSize}
use Rattle.hprof_values.specs.declared.entry.Entry.{Entry}
use Rattle.hprof_values.specs.declared.entry.EntryKind.TheVariants as kinds
use Rattle.hprof_values.specs.declared.parse_stop.ParseStop.{ParseStop}
use Rattle.hprof_values.specs.Ids.{width_of}
use Rattle.hprof_values.specs.FieldGroups.{fields_in, Bounds, ◌>>=◌, reached}
use Rattle.hprof_values.specs.Entries.{list_bytes, list_in, list_end}
use Rattle.hprof_items.specs.FactValue.{FactValue, Class}

-- id class, u4 trace serial, ids of superclass, loader, signers, protection domain, reserved, reserved, u4 instance size
abbrev pub class_widths : IdSize → List ℕ
class_widths ids = width_of ids ∷ 4 ∷ width_of ids ∷ width_of ids ∷ width_of ids ∷ width_of ids ∷ width_of ids ∷ width_of ids ∷ 4 ∷ []

-- the three lists behind these fields, each behind its count
abbrev pub class_lists : IdSize → List Entry → List Entry → List Entry → List ℕ
class_lists ids constants statics fields =
    list_bytes ids kinds.Constant constants ++ (list_bytes ids kinds.Static statics ++ list_bytes ids kinds.Field fields)

-- the class with those numbers in its fields
abbrev pub class_of : List ℕ → List Entry → List Entry → List Entry → FactValue
class_of numbers constants statics fields =
    Class (slice_index numbers 0) (slice_index numbers 1) (slice_index numbers 2) (slice_index numbers 3) (slice_index numbers 4)
    (slice_index numbers 5)
    (slice_index numbers 6) (slice_index numbers 7) (slice_index numbers 8) constants statics fields

-- the fields pass their tests, and then the lists one after the other
unfoldable pub class_at : IdSize → Bounds → List ℕ → Result (FactValue × ℕ) ParseStop
class_at ids bounds bytes =
    let numbers = fields_in (class_widths ids) (drop 1 bytes) in
    reached bounds 1 (class_widths ids) >>= λ front.
    list_end ids kinds.Constant bounds bytes front >>= λ statics.
    list_end ids kinds.Static bounds bytes statics >>= λ fields.
    list_end ids kinds.Field bounds bytes fields >>= λ end.
    Ok (
      class_of numbers (list_in ids kinds.Constant bytes front) (list_in ids kinds.Static bytes statics)
          (list_in ids kinds.Field bytes fields),
      end,
    )
