-- What rows say of their facts: a fact is its key and its content, a list of numbers.
use Rattle.std.specs.Prelude.{◌≡◌, ◌==◌, ℕ, ℤ, pos, negsuc, List, [], ◌∷◌, ◌++◌, length, drop, slice_index, map, Result, Ok, Err}
use Rattle.std.specs.Prelude.{if◌then◌else◌}
use Rattle.std.specs.List.{AllByRecursion}
use Rattle.byteorder.specs.Endian.{big_bytes, big_number}
use Rattle.hprof_values.specs.declared.ids.IdSize.{IdSize}
use Rattle.hprof_values.specs.declared.parse_stop.ParseStop.{ParseStop}
use Rattle.hprof_values.specs.FieldGroups.{exactly, field_bytes}
use Rattle.hprof_values.specs.Lists.{id_widths, ids_in}
use Rattle.hprof_items.specs.FactValue.{FactValue, Name, Load, Unload, Frame, Trace, Start, End, Instance, ObjArray, PrimArray}
use Rattle.hprof_items.specs.SubRecord.{dump_bytes, sub_at}
use Rattle.hprof_rows.specs.Kept.{with_id, without_id}
use Rattle.hprof_rows.specs.NumberRows.{line_numbers}
use Rattle.hprof_rows.specs.Order.{order_of}

-- the content of a fact, without its key; that of a sub-record is its spelling, of an instance or an array without the identifier
abbrev pub content_of : IdSize → FactValue → List ℕ
content_of ids (Name id text) = text
content_of ids (Load serial class trace name) = class ∷ trace ∷ name ∷ []
content_of ids (Unload serial) = []
content_of ids (Frame id method signature source class_serial line) = method ∷ signature ∷ source ∷ class_serial ∷ line_numbers line
content_of ids (Trace serial thread frames) = big_bytes 4 thread ++ field_bytes (id_widths ids (length frames)) frames
content_of ids (Start thread object trace name group parent_group) = object ∷ trace ∷ name ∷ group ∷ parent_group ∷ []
content_of ids (End thread) = []
content_of ids (Instance id trace class bytes) = without_id ids (dump_bytes ids (Instance id trace class bytes))
content_of ids (ObjArray id trace class elements) = without_id ids (dump_bytes ids (ObjArray id trace class elements))
content_of ids (PrimArray id trace elem bytes) = without_id ids (dump_bytes ids (PrimArray id trace elem bytes))
content_of ids fact = dump_bytes ids fact

-- ---- the fact of a key and a content, of each table

abbrev pub load_fact : ℕ → List ℕ → FactValue
load_fact key content = Load key (slice_index content 0) (slice_index content 1) (slice_index content 2)

abbrev pub unload_fact : ℕ → List ℕ → FactValue
unload_fact key content = Unload key

-- the line with those numbers
abbrev pub line_with : (sign size : ℕ) → ℤ
line_with sign size = if sign == 0 then pos size else negsuc size

abbrev pub frame_fact : ℕ → List ℕ → FactValue
frame_fact key content =
    Frame key (slice_index content 0) (slice_index content 1) (slice_index content 2) (slice_index content 3)
    (line_with (slice_index content 4) (slice_index content 5))

abbrev pub trace_fact : IdSize → ℕ → List ℕ → FactValue
trace_fact ids key content = Trace key (big_number 4 content) (ids_in ids (drop 4 content))

abbrev pub start_fact : ℕ → List ℕ → FactValue
start_fact key content =
    Start key (slice_index content 0) (slice_index content 1) (slice_index content 2) (slice_index content 3) (slice_index content 4)

abbrev pub end_fact : ℕ → List ℕ → FactValue
end_fact key content = End key

-- the fact that was read, where one was
abbrev pub read_fact : Result (FactValue × ℕ) ParseStop → FactValue
read_fact (Ok read) = read.0
read_fact (Err stop) = Unload 0

-- the fact of a class: what is read in its spelling
abbrev pub decode_class : IdSize → ℕ → List ℕ → FactValue
decode_class ids key content = read_fact (sub_at ids (exactly content) content)

-- that of an instance or an array: what is read with its identifier in front
abbrev pub object_fact : IdSize → ℕ → List ℕ → FactValue
object_fact ids key content = decode_class ids key (with_id ids key content)

-- ---- rows

-- the facts that rows state: of each row the fact of its key and its content
abbrev pub facts_of_rows : {V : Type 0} → (ℕ → List ℕ → FactValue) → (V → List ℕ) → List (ℕ × V) → List FactValue
facts_of_rows fact content rows = map (λ row. fact row.0 (content row.1)) rows

-- the fact of this key and this content stands in the table under the key, and has the content
abbrev pub IsRight : IdSize → ℕ → (ℕ → List ℕ → FactValue) → ℕ → List ℕ → Type 0
IsRight ids table fact key content = (order_of (fact key content) ≡ table ∷ key ∷ []) × (content_of ids (fact key content) ≡ content)

-- the same of each row
abbrev pub AreRight : {V : Type 0} → IdSize → ℕ → (ℕ → List ℕ → FactValue) → (V → List ℕ) → List (ℕ × V) → Type 0
AreRight ids table fact content rows = AllByRecursion (λ row. IsRight ids table fact row.0 (content row.1)) rows
