-- The bodies of records that state one fact: heapDumper.cpp, "HPROF binary format", the records.
use Rattle.std.specs.Prelude.{◌≡◌, ◌==◌, ℕ, ◌*◌, Bool, FitsSigned, List, [], ◌∷◌, ◌++◌, length, drop, sum, slice_index, nat_le, Option}
use Rattle.std.specs.Prelude.{Some, None, Result, Ok, Err, ⊤, if◌then◌else◌}
use Rattle.std.specs.Int.{w32, cast_signed, cast_unsigned}
use Rattle.hprof_values.specs.declared.ids.IdSize.{IdSize}
use Rattle.hprof_values.specs.declared.record_tag.RecordTag.{RecordTag}
use Rattle.hprof_values.specs.declared.record_tag.RecordTag.TheVariants as tags
use Rattle.hprof_values.specs.declared.reason.Reason.{Reason}
use Rattle.hprof_values.specs.declared.reason.Reason.TheVariants.{BadLength}
use Rattle.hprof_values.specs.Ids.{width_of, IsBytes}
use Rattle.hprof_values.specs.FieldGroups.{field_bytes, fields_in, FitFields}
use Rattle.hprof_values.specs.RecordTag.{record_fields, has_more}
use Rattle.hprof_values.specs.Lists.{id_widths, ids_in}
use Rattle.hprof_items.specs.FactValue.{FactValue, Name, Load, Unload, Frame, Trace, Start, End}

-- a length that the record may have: that of its fields, or at least that
abbrev pub is_legal_body : IdSize → RecordTag → ℕ → Bool
is_legal_body ids tag len = if has_more tag then nat_le (sum (record_fields ids tag)) len else len == sum (record_fields ids tag)

-- ---- spelling

-- the tag of the record that states the fact; sub-records state the others
abbrev pub record_of : FactValue → Option RecordTag
record_of (Name id text) = Some tags.Utf8
record_of (Load serial class trace name) = Some tags.LoadClass
record_of (Unload serial) = Some tags.UnloadClass
record_of (Frame id method signature source class_serial line) = Some tags.Frame
record_of (Trace serial thread frames) = Some tags.Trace
record_of (Start thread object trace name group parent_group) = Some tags.StartThread
record_of (End thread) = Some tags.EndThread
record_of _ = None

-- the numbers in the fields at the front of the body; a line is two's complement
abbrev pub record_numbers : FactValue → List ℕ
record_numbers (Name id text) = id ∷ []
record_numbers (Load serial class trace name) = serial ∷ class ∷ trace ∷ name ∷ []
record_numbers (Unload serial) = serial ∷ []
record_numbers (Frame id method signature source class_serial line) =
    id ∷ method ∷ signature ∷ source ∷ class_serial ∷ cast_unsigned w32 line ∷ []
record_numbers (Trace serial thread frames) = serial ∷ thread ∷ length frames ∷ []
record_numbers (Start thread object trace name group parent_group) = thread ∷ object ∷ trace ∷ name ∷ group ∷ parent_group ∷ []
record_numbers (End thread) = thread ∷ []
record_numbers _ = []

-- the bytes behind these fields
abbrev pub record_rest : IdSize → FactValue → List ℕ
record_rest ids (Name id text) = text
record_rest ids (Trace serial thread frames) = field_bytes (id_widths ids (length frames)) frames
record_rest ids _ = []

-- the body of the fact's record
abbrev pub record_body : IdSize → RecordTag → FactValue → List ℕ
record_body ids tag fact = field_bytes (record_fields ids tag) (record_numbers fact) ++ record_rest ids fact

-- what is not a number of the fields lies in its range
abbrev pub RestFits : IdSize → FactValue → Type 0
RestFits ids (Name id text) = IsBytes text
RestFits ids (Frame id method signature source class_serial line) = FitsSigned w32 line
RestFits ids (Trace serial thread frames) = FitFields (id_widths ids (length frames)) frames
RestFits ids _ = ⊤

-- each field lies in its range
pub record BodyFits (ids : IdSize) (tag : RecordTag) (fact : FactValue) : Type 0 where
  pub is : record_of fact ≡ Some tag
  pub numbers : FitFields (record_fields ids tag) (record_numbers fact)
  pub rest : RestFits ids fact

-- ---- reading

-- the fact of a record with that tag, those numbers in its fields, and those bytes behind them: the one test that is left
-- is that a trace has as many frames as it says
abbrev pub stated_by : IdSize → RecordTag → List ℕ → List ℕ → Result FactValue Reason
stated_by ids tags.Utf8 numbers rest = Ok (Name (slice_index numbers 0) rest)
stated_by ids tags.LoadClass numbers rest =
    Ok (Load (slice_index numbers 0) (slice_index numbers 1) (slice_index numbers 2) (slice_index numbers 3))
stated_by ids tags.UnloadClass numbers rest = Ok (Unload (slice_index numbers 0))
stated_by ids tags.Frame numbers rest =
    Ok (Frame (slice_index numbers 0) (slice_index numbers 1) (slice_index numbers 2) (slice_index numbers 3) (slice_index numbers 4)
    (cast_signed w32 (slice_index numbers 5)))
stated_by ids tags.Trace numbers rest =
    if length rest == slice_index numbers 2 * width_of ids then Ok (Trace (slice_index numbers 0) (slice_index numbers 1)
    (ids_in ids rest)) else Err BadLength
stated_by ids tags.StartThread numbers rest =
    Ok (Start (slice_index numbers 0) (slice_index numbers 1) (slice_index numbers 2) (slice_index numbers 3) (slice_index numbers 4)
    (slice_index numbers 5))
stated_by ids tags.EndThread numbers rest = Ok (End (slice_index numbers 0))

-- the body of a record whose length is one that it may have
unfoldable pub record_at : IdSize → RecordTag → List ℕ → Result FactValue Reason
record_at ids tag body = stated_by ids tag (fields_in (record_fields ids tag) body) (drop (sum (record_fields ids tag)) body)
