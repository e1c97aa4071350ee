-- The rows of a heap: each table has facts of its own, and stating one into a table states it into the heap.
use Rattle.std.proofs.Common.{◌≡◌, ℕ, zero, suc, ◌<◌, ◌≤◌, List, [], ◌∷◌, ◌++◌, length, drop, Bool, cond, find, Option, Some, None, Result}
use Rattle.std.proofs.Common.{Ok, Err, refl, sym, ap, subst, ◌∙◌, arith}
use Rattle.std.specs.Prelude.{ℤ, pos, negsuc, IfOk, OnErr, slice_index, bytes_eq}
use Rattle.std.specs.Option.{option_map}
use Rattle.std.proofs.lemmas.Bool.{false_from_ne_true}
use Rattle.std.proofs.lemmas.Slice.Eq.{bytes_eq-Decides}
use Rattle.std.proofs.lemmas.List.{append-nil, drop_at, length-append}
use Rattle.byteorder.specs.Endian.{big_bytes, big_number}
use Rattle.byteorder.specs.Numbers.{big_number-reads_back, length-bytes_high_first}
use Rattle.hprof_values.specs.declared.ids.IdSize.{IdSize}
use Rattle.hprof_values.specs.declared.root.Root.{Root}
use Rattle.hprof_values.specs.Root.{tag_of_root, root_numbers}
use Rattle.hprof_values.specs.SubTag.{code_of_tag}
use Rattle.hprof_values.specs.declared.record_tag.RecordTag.{RecordTag}
use Rattle.hprof_values.specs.FieldGroups.{exactly, field_bytes}
use Rattle.hprof_values.specs.Lists.{id_widths, ids_in}
use Rattle.hprof_values.proofs.IdLists.{ids_again}
use Rattle.hprof_items.specs.FactValue.{FactValue, Name, Load, Unload, Frame, Trace, Start, End, Rooted, Class, Instance, ObjArray}
use Rattle.hprof_items.specs.FactValue.{PrimArray}
use Rattle.hprof_items.specs.RecordBody.{record_of}
use Rattle.hprof_items.specs.SubRecord.{dump_bytes}
use Rattle.hprof_items.proofs.Dumps.{sub_again}
use Rattle.hprof_items.specs.Spelling.{Fits, FitsAs, longest_body}
use Rattle.hprof_rows.specs.declared.number_rows.LoadRow.{LoadRow}
use Rattle.hprof_rows.specs.declared.number_rows.FrameRow.{FrameRow}
use Rattle.hprof_rows.specs.declared.number_rows.StartRow.{StartRow}
use Rattle.hprof_rows.specs.declared.number_rows.KeyRow.{KeyRow}
use Rattle.hprof_rows.specs.declared.key.Key.{Key}
use Rattle.hprof_tables.specs.declared.relation.Stated.{Stated}
use Rattle.hprof_rows.specs.Key.{has_key}
use Rattle.hprof_tables.specs.SortedRows.{row_at}
use Rattle.hprof_rows.proofs.Keys.{place_of_key, stands_at, has_key_at, same_place}
use Rattle.hprof_rows.specs.Content.{content_of, load_fact, unload_fact, frame_fact, trace_fact, start_fact, end_fact, decode_class}
use Rattle.hprof_rows.specs.Content.{object_fact}
use Rattle.hprof_rows.specs.Content.{line_with, read_fact, facts_of_rows, IsRight, AreRight}
use Rattle.hprof_byte_tables.specs.Spans.{the_bytes}
use Rattle.hprof_rows.specs.Stating.{StatesInto, IsNewAmong}
use Rattle.hprof_rows.specs.declared.table.Table.{Table}
use Rattle.hprof_rows.specs.Tables.{facts_of_table, number_of_table, joined}
use Rattle.hprof_rows.specs.HeapRows.{HeapRows, AreHeap, tables_of, heap_of_rows, no_content, root_facts}
use Rattle.hprof_rows.specs.HeapValue.{IsHeap}
use Rattle.hprof_rows.specs.Order.{order_of}
use Rattle.hprof_rows.specs.NumberRows.{line_numbers, load_numbers, frame_numbers, start_numbers}
use Rattle.hprof_tables.specs.Relation.{States}
use Rattle.hprof_rows.specs.Spelled.{Spells}
use Rattle.hprof_rows.specs.Trace.{IsTrace}
use Rattle.hprof_rows.proofs.Inserting.{find-Some, unseen}
use Rattle.hprof_rows.proofs.RowFacts.{right_by, find_rows}
use Rattle.hprof_rows.proofs.Stating.{StatesAmong, with_facts, tried_among, tried_among-sound}
use Rattle.hprof_rows.proofs.Tables.{IsOf, AllOf, AreTables, table_at, with_table, states_tables, facts_in, find_from}

-- ---- the rows of numbers are right

-- a line is known by its numbers
pub line_again : (line : ℤ) → line_with (slice_index (line_numbers line) 0) (slice_index (line_numbers line) 1) ≡ line
line_again (pos n) = refl
line_again (negsuc n) = refl

pub names_right : (ids : IdSize) (rows : List (ℕ × List ℕ)) → AreRight ids 0 Name the_bytes rows
names_right ids rows = right_by ids 0 Name the_bytes rows (λ key row. (refl, refl))

pub loads_right : (ids : IdSize) (rows : List (ℕ × LoadRow)) → AreRight ids 1 load_fact load_numbers rows
loads_right ids rows = right_by ids 1 load_fact load_numbers rows (λ key row. (refl, refl))

pub unloads_right : (ids : IdSize) (rows : List (ℕ × KeyRow)) → AreRight ids 2 unload_fact no_content rows
unloads_right ids rows = right_by ids 2 unload_fact no_content rows (λ key row. (refl, refl))

pub frames_right : (ids : IdSize) (rows : List (ℕ × FrameRow)) → AreRight ids 3 frame_fact frame_numbers rows
frames_right ids rows = right_by ids 3 frame_fact frame_numbers rows
    (λ key row. (
      refl,
      ap (λ (line : ℤ). row.method ∷ row.signature ∷ row.source ∷ row.class_serial ∷ line_numbers line)
          (line_again row.line),
    ))

pub starts_right : (ids : IdSize) (rows : List (ℕ × StartRow)) → AreRight ids 5 start_fact start_numbers rows
starts_right ids rows = right_by ids 5 start_fact start_numbers rows (λ key row. (refl, refl))

pub ends_right : (ids : IdSize) (rows : List (ℕ × KeyRow)) → AreRight ids 6 end_fact no_content rows
ends_right ids rows = right_by ids 6 end_fact no_content rows (λ key row. (refl, refl))

-- ---- the tables

all_of_rows : {V : Type 0} (ids : IdSize) (table : ℕ) (fact : ℕ → List ℕ → FactValue) (content : V → List ℕ) (rows : List (ℕ × V))
    → AreRight ids table fact content rows → AllOf table (facts_of_rows fact content rows)
all_of_rows ids table fact content [] right = tt
all_of_rows ids table fact content (row ∷ rows) right =
    (record { more = row.0 ∷ []; stands = right.0.0 }, all_of_rows ids table fact content rows right.1)

pub root_of_table : (root : Root) → IsOf 7 (Rooted root)
root_of_table root = record { more = code_of_tag (tag_of_root root) ∷ root_numbers root; stands = refl }

all_of_roots : (roots : List Root) → AllOf 7 (root_facts roots)
all_of_roots [] = tt
all_of_roots (root ∷ roots) = (root_of_table root, all_of_roots roots)

-- the facts of each table stand in it
pub heap_tables : (rows : HeapRows) → AreHeap rows → AreTables 0 (tables_of rows)
heap_tables rows are =
    let ids = rows.ids in
    let names = all_of_rows ids 0 Name the_bytes rows.names (names_right ids rows.names) in
    let loads = all_of_rows ids 1 load_fact load_numbers rows.loads (loads_right ids rows.loads) in
    let unloads = all_of_rows ids 2 unload_fact no_content rows.unloads (unloads_right ids rows.unloads) in
    let frames = all_of_rows ids 3 frame_fact frame_numbers rows.frames (frames_right ids rows.frames) in
    let traces = all_of_rows ids 4 (trace_fact ids) the_bytes rows.traces are.traces in
    let starts = all_of_rows ids 5 start_fact start_numbers rows.starts (starts_right ids rows.starts) in
    let ends = all_of_rows ids 6 end_fact no_content rows.ends (ends_right ids rows.ends) in
    let roots = all_of_roots rows.roots in
    let classes = all_of_rows ids 8 (decode_class ids) the_bytes rows.classes are.classes in
    let objects = all_of_rows ids 9 (object_fact ids) the_bytes rows.objects are.objects in
    (names, (loads, (unloads, (frames, (traces, (starts, (ends, (roots, (classes, (objects, tt))))))))))

-- ---- stating into one table

-- tables with one of them as it was
pub with_same : (tables : List (List FactValue)) (place : ℕ) → with_table tables place (table_at tables place) ≡ tables
with_same [] place = refl
with_same (facts ∷ tables) zero = refl
with_same (facts ∷ tables) (suc place) = ap (λ (l : List (List FactValue)). facts ∷ l) (with_same tables place)

kept_joined : {E : Type 0} (r : Result Stated E) (tables : List (List FactValue)) (place : ℕ) (new : List FactValue)
    → OnErr r (new ≡ table_at tables place)
    → OnErr r (joined (with_table tables place new) ≡ joined tables)
kept_joined (Ok answer) tables place new kept = tt
kept_joined (Err e) tables place new kept = ap (λ (l : List FactValue). joined (with_table tables place l)) kept
    ∙ ap joined (with_same tables place)

module _ {E : Type 0} (r : Result Stated E) (rows : HeapRows) (are : AreHeap rows) (place : ℕ) (new : List FactValue) (fact : FactValue)
    (of : IsOf place fact) (within : place < length (tables_of rows)) (fits : Fits rows.ids fact)
    (among : IfOk r (λ stated. StatesAmong (table_at (tables_of rows) place) fact stated new)) where
  -- what was stated among the facts of a table was stated into the heap
  pub into_heap : IfOk r (λ stated. StatesInto (heap_of_rows rows) fact stated
      (with_facts rows.ids rows.millis (joined (with_table (tables_of rows) place new))))
  into_heap = tried_among r rows.ids rows.millis (joined (tables_of rows)) (joined (with_table (tables_of rows) place new)) fact
      (states_tables r (tables_of rows) place new fact (heap_tables rows are) of within among) fits are.heap

  -- and it is still a heap
  pub into_heap-sound : OnErr r (new ≡ table_at (tables_of rows) place)
      → IsHeap (with_facts rows.ids rows.millis (joined (with_table (tables_of rows) place new)))
  into_heap-sound kept = tried_among-sound r rows.ids rows.millis (joined (tables_of rows))
      (joined (with_table (tables_of rows) place new)) fact
      (states_tables r (tables_of rows) place new fact (heap_tables rows are) of within among)
      (kept_joined r (tables_of rows) place new kept) fits are.heap

  -- where memory was refused the heap is as it was
  pub into_heap-kept : OnErr r (new ≡ table_at (tables_of rows) place)
      → OnErr r (with_facts rows.ids rows.millis (joined (with_table (tables_of rows) place new)) ≡ heap_of_rows rows)
  into_heap-kept kept = kept_heap r (kept_joined r (tables_of rows) place new kept)
    where
      kept_heap : (q : Result Stated E) → OnErr q (joined (with_table (tables_of rows) place new) ≡ joined (tables_of rows))
          → OnErr q (with_facts rows.ids rows.millis (joined (with_table (tables_of rows) place new)) ≡ heap_of_rows rows)
      kept_heap (Ok answer) kept = tt
      kept_heap (Err e) kept = ap (with_facts rows.ids rows.millis) kept

-- a fact under a key of a table stands in the table
pub of_key : (table key : ℕ) (fact : FactValue) → order_of fact ≡ table ∷ key ∷ [] → IsOf table fact
of_key table key fact at = record { more = key ∷ []; stands = at }

-- ---- facts for which memory was refused

-- a fact at whose place none is found in its table is new
pub unseen_in_heap : {E : Type 0} (r : Result Stated E) (rows : HeapRows) (place : ℕ) (fact : FactValue) → AreHeap rows → IsOf place fact
    → OnErr r (find (same_place fact) (table_at (tables_of rows) place) ≡ None) → OnErr r (IsNewAmong (heap_of_rows rows).facts fact)
unseen_in_heap (Ok answer) rows place fact are of none = tt
unseen_in_heap (Err e) rows place fact are of none = unseen (heap_of_rows rows) fact (
    find_from (same_place fact) (tables_of rows) place 0 place
    (λ n other in_table differ. false_from_ne_true (same_place fact other) (λ yes.
    let same : place ∷ of.more ≡ n ∷ in_table.more = sym of.stands ∙ (bytes_eq-Decides (order_of fact) (order_of other)).0 yes
    ∙ in_table.stands in
    differ (sym (ap (λ (ns : List ℕ). slice_index ns 0) same))))
    (omega arith) (heap_tables rows are)
    ∙ none
    )

-- so is one whose key has no row
pub unseen_row : {E V : Type 0} (r : Result Stated E) (rows : HeapRows) (table key : ℕ) (fact : ℕ → List ℕ → FactValue) (content : V
    → List ℕ) (of_table : List (ℕ × V))
    (stated : FactValue) → AreHeap rows → order_of stated ≡ table ∷ key ∷ [] → AreRight rows.ids table fact content of_table
    → table_at (tables_of rows) table ≡ facts_of_rows fact content of_table → OnErr r (row_at key of_table ≡ None)
    → OnErr r (IsNewAmong (heap_of_rows rows).facts stated)
unseen_row (Ok answer) rows table key fact content of_table stated are at right facts none = tt
unseen_row (Err e) rows table key fact content of_table stated are at right facts none =
    unseen_in_heap (Err e) rows table stated are (of_key table key stated at)
    (ap (find (same_place stated)) facts ∙ find_rows rows.ids table fact content of_table key stated at right
    ∙ ap (option_map (λ row. fact key (content row))) none)

-- ---- the number of facts

pub length_rows : {V : Type 0} (fact : ℕ → List ℕ → FactValue) (content : V → List ℕ) (rows : List (ℕ × V))
    → length rows ≡ length (facts_of_rows fact content rows)
length_rows fact content [] = refl
length_rows fact content (row ∷ rows) = ap suc (length_rows fact content rows)

pub length_roots : (roots : List Root) → length roots ≡ length (root_facts roots)
length_roots [] = refl
length_roots (root ∷ roots) = ap suc (length_roots roots)

-- the facts of a table among those of the heap
pub table_facts : (rows : HeapRows) (table : Table) → AreHeap rows
    → facts_of_table table (joined (tables_of rows)) ≡ table_at (tables_of rows) (number_of_table table)
table_facts rows table are = facts_in (tables_of rows) (number_of_table table) (heap_tables rows are)

pub table_length : (rows : HeapRows) (table : Table) (n : ℕ) → AreHeap rows → n ≡ length (table_at (tables_of rows) (number_of_table table))
    → n ≡ length (facts_of_table table (joined (tables_of rows)))
table_length rows table n are e = e ∙ sym (ap length (table_facts rows table are))

-- ---- traces

-- what a trace has behind the serial of its thread
behind_thread : (thread : ℕ) (bytes : List ℕ) → drop 4 (big_bytes 4 thread ++ bytes) ≡ bytes
behind_thread thread bytes = drop_at (big_bytes 4 thread) bytes 4 (length-bytes_high_first 4 thread)

-- a trace is that of its thread and of the bytes of its frames
pub trace_again : (ids : IdSize) (serial thread : ℕ) (frames : List ℕ) → Fits ids (Trace serial thread frames)
    → trace_fact ids serial (content_of ids (Trace serial thread frames)) ≡ Trace serial thread frames
trace_again ids serial thread frames fits =
    let bytes : List ℕ = field_bytes (id_widths ids (length frames)) frames in
    ap (λ (n : ℕ). Trace serial n (ids_in ids (drop 4 (big_bytes 4 thread ++ bytes))))
    (big_number-reads_back 4 thread bytes fits.0.numbers.1.0)
    ∙ ap (λ (rest : List ℕ). Trace serial thread (ids_in ids rest)) (behind_thread thread bytes)
    ∙ ap (Trace serial thread) (ids_again ids frames bytes (record { fits = fits.0.rest; spelled = refl })).1

-- ---- classes and objects

-- the facts from the table of roots on are sub-records
pub sub_of_place : (fact : FactValue) → 7 ≤ slice_index (order_of fact) 0 → record_of fact ≡ None
sub_of_place (Name id text) le = absurd (omega arith)
sub_of_place (Load serial class trace name) le = absurd (omega arith)
sub_of_place (Unload serial) le = absurd (omega arith)
sub_of_place (Frame id method signature source class_serial line) le = absurd (omega arith)
sub_of_place (Trace serial thread frames) le = absurd (omega arith)
sub_of_place (Start thread object trace name group parent_group) le = absurd (omega arith)
sub_of_place (End thread) le = absurd (omega arith)
sub_of_place (Rooted root) le = refl
sub_of_place (Class id trace parent loader signers domain reserved1 reserved2 size constants statics fields) le = refl
sub_of_place (Instance id trace class bytes) le = refl
sub_of_place (ObjArray id trace class elements) le = refl
sub_of_place (PrimArray id trace elem bytes) le = refl

pub sub_at_place : (fact : FactValue) (table key : ℕ) → order_of fact ≡ table ∷ key ∷ [] → 7 ≤ table → record_of fact ≡ None
sub_at_place fact table key at le = let first : slice_index (order_of fact) 0 ≡ table =
    ap (λ (ns : List ℕ). slice_index ns 0) at in sub_of_place fact (omega arith)

-- the content of a class is its spelling
pub class_content : (ids : IdSize) (key : ℕ) (fact : FactValue) → order_of fact ≡ 8 ∷ key ∷ [] → content_of ids fact ≡ dump_bytes ids fact
class_content ids key (Name id text) at = absurd cc
class_content ids key (Load serial class trace name) at = absurd cc
class_content ids key (Unload serial) at = absurd cc
class_content ids key (Frame id method signature source class_serial line) at = absurd cc
class_content ids key (Trace serial thread frames) at = absurd cc
class_content ids key (Start thread object trace name group parent_group) at = absurd cc
class_content ids key (End thread) at = absurd cc
class_content ids key (Rooted root) at = refl
class_content ids key (Class id trace parent loader signers domain reserved1 reserved2 size constants statics fields) at = refl
class_content ids key (Instance id trace class bytes) at = absurd cc
class_content ids key (ObjArray id trace class elements) at = absurd cc
class_content ids key (PrimArray id trace elem bytes) at = absurd cc

-- a sub-record that has a spelling is spelled by it
pub sub_spells : (ids : IdSize) (fact : FactValue) → record_of fact ≡ None → Fits ids fact → Spells ids fact (dump_bytes ids fact)
sub_spells ids fact e fits =
    let sub : FitsAs ids None fact = subst (λ (tag : Option RecordTag). FitsAs ids tag fact) e fits in
    record { fits = sub.0; spelled = refl; short = sub.1 }

-- and read back from it
pub spelled_read : (ids : IdSize) (key : ℕ) (fact : FactValue) (bytes : List ℕ) → Spells ids fact bytes → decode_class ids key bytes ≡ fact
spelled_read ids key fact bytes spells =
    let len : length (dump_bytes ids fact) ≤ length bytes = omega (arith, ap length spells.spelled) in
    ap read_fact (sub_again ids (exactly bytes) fact [] bytes spells.fits (spells.spelled ∙ sym (append-nil (dump_bytes ids fact)))
    (record { room = len; longest = len; there = len }))

pub class_again : (ids : IdSize) (key : ℕ) (fact : FactValue) → order_of fact ≡ 8 ∷ key ∷ [] → Fits ids fact
    → decode_class ids key (content_of ids fact) ≡ fact
class_again ids key fact at fits =
    ap (decode_class ids key) (class_content ids key fact at)
    ∙ spelled_read ids key fact (dump_bytes ids fact) (sub_spells ids fact (sub_at_place fact 8 key at (omega arith)) fits)

-- what was stated of the spelling was stated of the content
pub class_stated : {E : Type 0} (r : Result Stated E) (ids : IdSize) (key : ℕ) (fact : FactValue) (bytes : List ℕ)
    (old new : List (ℕ × List ℕ)) → order_of fact ≡ 8 ∷ key ∷ []
    → bytes ≡ dump_bytes ids fact → IfOk r (λ answer. States the_bytes old key bytes answer new)
    → IfOk r (λ answer. States the_bytes old key (content_of ids fact) answer new)
class_stated r ids key fact bytes old new at spelled ok =
    subst (λ (content : List ℕ). IfOk r (λ answer. States the_bytes old key content answer new))
    (spelled ∙ sym (class_content ids key fact at)) ok

-- ---- looking up

find_alike : (p q : FactValue → Bool) (facts : List FactValue) → ((fact : FactValue) → p fact ≡ q fact) → find p facts ≡ find q facts
find_alike p q [] same = refl
find_alike p q (first ∷ facts) same =
    ap (λ (t : Bool). cond t (Some first) (find p facts)) (same first)
    ∙ ap (λ (rest : Option FactValue). cond (q first) (Some first) rest) (find_alike p q facts same)

-- the fact of a key is found in the key's table
pub look_up : (rows : HeapRows) (table number : ℕ) (key : Key) → AreHeap rows → place_of_key key ≡ table ∷ number ∷ []
    → find (has_key key) (joined (tables_of rows)) ≡ find (stands_at (table ∷ number ∷ [])) (table_at (tables_of rows) table)
look_up rows table number key are at =
    find_alike (has_key key) (stands_at (table ∷ number ∷ [])) (joined (tables_of rows)) (λ fact.
    has_key_at key (table ∷ number ∷ []) fact at)
    ∙ find_from (stands_at (table ∷ number ∷ [])) (tables_of rows) table 0 table
    (λ n fact of differ. false_from_ne_true (stands_at (table ∷ number ∷ []) fact) (λ yes.
    let same : table ∷ number ∷ [] ≡ n ∷ of.more = (bytes_eq-Decides (table ∷ number ∷ []) (order_of fact)).0 yes ∙ of.stands in
    differ (sym (ap (λ (ns : List ℕ). slice_index ns 0) same))))
    (omega arith) (heap_tables rows are)

-- and is that of the key's row
pub look_up_row : {V : Type 0} (rows : HeapRows) (table number : ℕ) (key : Key) (fact : ℕ → List ℕ → FactValue) (content : V → List ℕ)
    (of_table : List (ℕ × V))
    (any : FactValue) (found : Option V) → AreHeap rows → place_of_key key ≡ table ∷ number ∷ [] → order_of any ≡ table ∷ number ∷ []
    → AreRight rows.ids table fact content of_table → table_at (tables_of rows) table ≡ facts_of_rows fact content of_table
    → row_at number of_table ≡ found
    → find (has_key key) (joined (tables_of rows)) ≡ option_map (λ row. fact number (content row)) found
look_up_row rows table number key fact content of_table any found are at at_any right facts e =
    look_up rows table number key are at ∙ ap (find (stands_at (table ∷ number ∷ []))) facts
    ∙ find_alike (stands_at (table ∷ number ∷ [])) (same_place any) (facts_of_rows fact content of_table)
    (λ other. ap (λ (place : List ℕ). bytes_eq place (order_of other)) (sym at_any))
    ∙ find_rows rows.ids table fact content of_table number any at_any right ∙ ap (option_map (λ row. fact number (content row))) e

-- ---- rows that are found

-- what is found among the facts of a heap fits
pub found_fits : (rows : HeapRows) (p : FactValue → Bool) (fact : FactValue) → AreHeap rows → find p (joined (tables_of rows))
    ≡ Some fact → Fits rows.ids fact
found_fits rows p fact are e = are.heap.fit fact (find-Some p (joined (tables_of rows)) fact e).0

-- the row of a class spells its fact
pub row_spells : (ids : IdSize) (key : ℕ) (bytes : List ℕ) → IsRight ids 8 (decode_class ids) key bytes
    → Fits ids (decode_class ids key bytes) → Spells ids (decode_class ids key bytes) bytes
row_spells ids key bytes right fits =
    let fact : FactValue = decode_class ids key bytes in
    let spells = sub_spells ids fact (sub_at_place fact 8 key right.0 (omega arith)) fits in
    let same : bytes ≡ dump_bytes ids fact = sym right.1 ∙ class_content ids key fact right.0 in
    record { fits = spells.fits; spelled = same; short = subst (λ (b : List ℕ). length b ≤ longest_body) (sym same) spells.short }

-- the bytes of a trace's row are those of a trace
pub row_is_trace : (ids : IdSize) (key : ℕ) (bytes : List ℕ) → IsRight ids 4 (trace_fact ids) key bytes
    → Fits ids (trace_fact ids key bytes)
    → IsTrace ids bytes
row_is_trace ids key bytes right fits =
    let thread : ℕ = big_number 4 bytes in
    let frames : List ℕ = ids_in ids (drop 4 bytes) in
    let spelled : List ℕ = field_bytes (id_widths ids (length frames)) frames in
    let behind : drop 4 bytes ≡ spelled = ap (drop 4) (sym right.1) ∙ behind_thread thread spelled in (
      omega (arith, ap length right.1, length-append (big_bytes 4 thread) spelled, length-bytes_high_first 4 thread),
      (ids_again ids frames (drop 4 bytes) (record { fits = fits.0.rest; spelled = behind })).0,
    )
