-- What holds of each table of a heap, whichever it is; what stating a fact does to its rows, it does to the heap.
use Rattle.std.proofs.Common.{◌≡◌, ℕ, zero, suc, ◌<◌, List, ◌∷◌, [], find, Option, Some, None, Result, Ok, Err, refl, sym, ap, subst, ◌∙◌}
use Rattle.std.proofs.Common.{inl, inr}
use Rattle.std.proofs.Common.{arith}
use Rattle.std.specs.Prelude.{ℤ, pos, IfOk, OnErr, length}
use Rattle.std.specs.BTreeMap.{is_at, insert_entry}
use Rattle.std.specs.Cmp.{nat_cmp_is}
use Rattle.std.specs.Option.{option_map}
use Rattle.std.specs.Ordering.{nat_cmp}
use Rattle.std.specs.declared.cmp.Ordering.TheVariants.{Less, Equal, Greater}
use Rattle.std.proofs.lemmas.Bool.{cases_order}
use Rattle.std.proofs.lemmas.Map.Made.{lookup-map_values}
use Rattle.hprof_values.specs.declared.ids.IdSize.{IdSize}
use Rattle.hprof_items.specs.FactValue.{FactValue, Name, Load, Unload, Frame, Trace, Start, End, Rooted, Class, Instance, ObjArray}
use Rattle.hprof_items.specs.FactValue.{PrimArray}
use Rattle.hprof_items.specs.Spelling.{Fits}
use Rattle.hprof_tables.specs.declared.relation.Stated.{Stated}
use Rattle.hprof_tables.specs.declared.relation.Stated.TheVariants.{New, Same, Differs}
use Rattle.hprof_tables.specs.Relation.{contents_of}
use Rattle.hprof_byte_tables.specs.Spans.{the_bytes}
use Rattle.hprof_tables.specs.SortedRows.{row_at}
use Rattle.hprof_rows.specs.declared.key.Key.{Key}
use Rattle.hprof_rows.specs.declared.key.Key.TheVariants as keys
use Rattle.hprof_rows.specs.declared.table.Table.{Table}
use Rattle.hprof_rows.specs.declared.table.Table.TheVariants as tables
use Rattle.hprof_rows.specs.Content.{content_of, load_fact, unload_fact, frame_fact, start_fact, end_fact, facts_of_rows, IsRight}
use Rattle.hprof_rows.specs.Content.{AreRight}
use Rattle.hprof_rows.specs.EachTable.{IsKeyed, fact_at, contents_at, count_at, with_rows, StatesRow, StatesFact}
use Rattle.hprof_rows.specs.HeapRows.{HeapRows, AreHeap, heap_of_rows, tables_of, no_content}
use Rattle.hprof_rows.specs.HeapValue.{HeapValue, IsHeap}
use Rattle.hprof_rows.specs.Key.{has_key, number_of, rank_of}
use Rattle.hprof_rows.specs.NumberRows.{load_numbers, frame_numbers, start_numbers}
use Rattle.hprof_rows.specs.Order.{order_of}
use Rattle.hprof_rows.specs.Stating.{StatesInto, IsNewAmong}
use Rattle.hprof_rows.specs.Tables.{number_of_table, joined}
use Rattle.hprof_rows.proofs.HeapRows.{names_right, loads_right, unloads_right, frames_right, starts_right, ends_right, line_again}
use Rattle.hprof_rows.proofs.HeapRows.{root_of_table, into_heap, into_heap-sound, into_heap-kept, of_key, unseen_in_heap, unseen_row}
use Rattle.hprof_rows.proofs.HeapRows.{trace_again, class_again, length_rows, length_roots, look_up_row, found_fits}
use Rattle.hprof_rows.proofs.Keys.{place_of_key}
use Rattle.hprof_rows.proofs.KeptObjects.{object_again}
use Rattle.hprof_rows.proofs.Roots.{roots_tried, roots_kept, roots_unseen}
use Rattle.hprof_rows.proofs.RowFacts.{rows_tried, rows_kept, tried_right, right_found}
use Rattle.hprof_rows.proofs.Stating.{StatesAmong, with_facts}
use Rattle.hprof_rows.proofs.Tables.{IsOf, table_at, with_table}
use Rattle.hprof_rows.proofs.UnionRows.{contents_right}

-- facts are known by keys and contents
from_contents : {V : Type 0} (fact : ℕ → List ℕ → FactValue) (content : V → List ℕ) (rows : List (ℕ × V))
    → facts_of_rows fact content rows ≡ facts_of_rows fact the_bytes (contents_of content rows)
from_contents fact content [] = refl
from_contents fact content (row ∷ rows) =
    ap (λ (rest : List FactValue). fact row.0 (content row.1) ∷ rest) (from_contents fact content rows)

-- in two steps or in one it is the same
pub map_twice : {A : Type 0} (content : A → List ℕ) (fact : List ℕ → FactValue) (found : Option A)
    → option_map (λ row. fact (content row)) found ≡ option_map fact (option_map content found)
map_twice content fact None = refl
map_twice content fact (Some row) = refl

-- ---- each table

-- its facts are those of its contents
pub facts_at : (table : Table) → IsKeyed table → (rows : HeapRows)
    → table_at (tables_of rows) (number_of_table table) ≡ facts_of_rows (fact_at rows.ids table) the_bytes (contents_at table rows)
facts_at tables.Names keyed rows = refl
facts_at tables.Loads keyed rows = from_contents load_fact load_numbers rows.loads
facts_at tables.Unloads keyed rows = from_contents unload_fact no_content rows.unloads
facts_at tables.Frames keyed rows = from_contents frame_fact frame_numbers rows.frames
facts_at tables.Traces keyed rows = refl
facts_at tables.Starts keyed rows = from_contents start_fact start_numbers rows.starts
facts_at tables.Ends keyed rows = from_contents end_fact no_content rows.ends
facts_at tables.Roots keyed rows = absurd keyed
facts_at tables.Classes keyed rows = refl
facts_at tables.Objects keyed rows = refl

-- so there are as many
pub counted : (table : Table) (rows : HeapRows) → count_at table rows ≡ length (table_at (tables_of rows) (number_of_table table))
counted tables.Roots rows = length_roots rows.roots
counted table rows = length_rows (fact_at rows.ids table) the_bytes (contents_at table rows) ∙ sym (ap length (facts_at table tt rows))

-- each row can be read back
abbrev pub RightAt : Table → HeapRows → Type 0
RightAt table rows = AreRight rows.ids (number_of_table table) (fact_at rows.ids table) the_bytes (contents_at table rows)

pub right_at : (table : Table) (rows : HeapRows) → AreHeap rows → RightAt table rows
right_at tables.Names rows are = names_right rows.ids rows.names
right_at tables.Loads rows are = contents_right rows.ids 1 load_fact load_numbers rows.loads (loads_right rows.ids rows.loads)
right_at tables.Unloads rows are = contents_right rows.ids 2 unload_fact no_content rows.unloads (unloads_right rows.ids rows.unloads)
right_at tables.Frames rows are = contents_right rows.ids 3 frame_fact frame_numbers rows.frames (frames_right rows.ids rows.frames)
right_at tables.Traces rows are = are.traces
right_at tables.Starts rows are = contents_right rows.ids 5 start_fact start_numbers rows.starts (starts_right rows.ids rows.starts)
right_at tables.Ends rows are = contents_right rows.ids 6 end_fact no_content rows.ends (ends_right rows.ids rows.ends)
right_at tables.Roots rows are = tt
right_at tables.Classes rows are = are.classes
right_at tables.Objects rows are = are.objects

-- there are ten
pub within : (table : Table) → number_of_table table < 10
within tables.Names = omega arith
within table = omega arith

-- ---- rows with those of others in one table

heap_with : (table : Table) (rows new : HeapRows)
    → heap_of_rows (with_rows table rows new) ≡ with_facts rows.ids rows.millis (joined (with_table (tables_of rows) (number_of_table table)
    (table_at (tables_of (with_rows table rows new)) (number_of_table table))))
heap_with tables.Names rows new = refl
heap_with table rows new = refl

ids_with : (table : Table) (rows new : HeapRows) → (with_rows table rows new).ids ≡ rows.ids
ids_with tables.Names rows new = refl
ids_with table rows new = refl

-- they are a heap's rows where those of the table can be read back
are_with : (table : Table) (rows new : HeapRows) → AreHeap rows → IsHeap (heap_of_rows (with_rows table rows new))
    → RightAt table (with_rows table rows new) → AreHeap (with_rows table rows new)
are_with tables.Traces rows new are heap right =
    record { heap = heap; traces = right; classes = are.classes; objects = are.objects }
are_with tables.Classes rows new are heap right =
    record { heap = heap; traces = are.traces; classes = right; objects = are.objects }
are_with tables.Objects rows new are heap right =
    record { heap = heap; traces = are.traces; classes = are.classes; objects = right }
are_with table rows new are heap right =
    record { heap = heap; traces = are.traces; classes = are.classes; objects = are.objects }

module _ (table : Table) (rows new : HeapRows) (only : new ≡ with_rows table rows new) where
  abbrev number : ℕ
  number = number_of_table table

  same_ids : new.ids ≡ rows.ids
  same_ids = ap (λ (those : HeapRows). those.ids) only ∙ ids_with table rows new

  pub heap_new : heap_of_rows new
      ≡ with_facts rows.ids rows.millis (joined (with_table (tables_of rows) number (table_at (tables_of new) number)))
  heap_new =
      subst (λ (those : HeapRows). heap_of_rows those
      ≡ with_facts rows.ids rows.millis (joined (with_table (tables_of rows) number (table_at (tables_of those) number))))
      (sym only) (heap_with table rows new)

  pub are_new : AreHeap rows → IsHeap (heap_of_rows new)
      → AreRight rows.ids number (fact_at rows.ids table) the_bytes (contents_at table new) → AreHeap new
  are_new are heap right =
      subst AreHeap (sym only) (are_with table rows new are (subst (λ (those : HeapRows). IsHeap (heap_of_rows those)) only heap)
      (subst (RightAt table) only
      (subst (λ (i : IdSize). AreRight i number (fact_at i table) the_bytes (contents_at table new)) (sym same_ids) right)))

  pub facts_new : IsKeyed table
      → table_at (tables_of new) number ≡ facts_of_rows (fact_at rows.ids table) the_bytes (contents_at table new)
  facts_new keyed =
      facts_at table keyed new ∙ ap (λ (i : IdSize). facts_of_rows (fact_at i table) the_bytes (contents_at table new)) same_ids

-- ---- stating

-- what stating a fact came to, where memory may have been refused
pub record IsFactStated {E : Type 0} (rows : HeapRows) (fact : FactValue) (r : Result Stated E) (new : HeapRows) : Type 0 where
  pub are_heap : AreHeap new
  pub ok : IfOk r (λ stated. StatesInto (heap_of_rows rows) fact stated (heap_of_rows new))
  pub err : OnErr r (heap_of_rows new ≡ heap_of_rows rows)
  pub absent : OnErr r (IsNewAmong (heap_of_rows rows).facts fact)

-- what stating a content does to rows, it does to their contents
module _ {V : Type 0} (content : V → List ℕ) where
  contents-insert : (rows : List (ℕ × V)) (key : ℕ) (row : V)
      → contents_of content (insert_entry nat_cmp rows key row) ≡ insert_entry nat_cmp (contents_of content rows) key (content row)
  contents-insert [] key row = refl
  contents-insert (first ∷ rows) key row = elim (cases_order key first.0) [
    | inl same ↦ rw (← nat_cmp_is key first.0 Equal same) refl
    | inr apart ↦ elim apart [
      | inl lt ↦ rw (← nat_cmp_is key first.0 Less lt) refl
      | inr gt ↦ rw (← nat_cmp_is key first.0 Greater gt)
          (ap (λ (rest : List (ℕ × List ℕ)). (first.0, content first.1) ∷ rest) (contents-insert rows key row))
    ]
  ]

  contents_state : {E : Type 0} (old new : List (ℕ × V)) (key : ℕ) (stated : List ℕ) (r : Result Stated E)
      → StatesRow content old key stated r new
      → StatesRow the_bytes (contents_of content old) key stated r (contents_of content new)
  contents_state old new key stated (Ok New) s = record {
    ok = (
      lookup-map_values content (is_at (nat_cmp key)) old ∙ ap (option_map content) s.ok.0,
      (content s.ok.1.0, s.ok.1.1, ap (contents_of content) s.ok.1.2 ∙ contents-insert old key s.ok.1.0),
    );
    err = tt;
    absent = tt;
  }
  contents_state old new key stated (Ok Same) s = record {
    ok = (
      ap (contents_of content) s.ok.0,
      (content s.ok.1.0, lookup-map_values content (is_at (nat_cmp key)) old ∙ ap (option_map content) s.ok.1.1, s.ok.1.2),
    );
    err = tt;
    absent = tt;
  }
  contents_state old new key stated (Ok Differs) s = record {
    ok = (
      ap (contents_of content) s.ok.0,
      (content s.ok.1.0, lookup-map_values content (is_at (nat_cmp key)) old ∙ ap (option_map content) s.ok.1.1, s.ok.1.2),
    );
    err = tt;
    absent = tt;
  }
  contents_state old new key stated (Err e) s = record {
    ok = tt;
    err = ap (contents_of content) s.err;
    absent = lookup-map_values content (is_at (nat_cmp key)) old ∙ ap (option_map content) s.absent;
  }

module _ {E : Type 0} (r : Result Stated E) (rows new : HeapRows) (are : AreHeap rows) (table : Table)
    (only : new ≡ with_rows table rows new) (fact : FactValue) (fits : Fits rows.ids fact) where
  abbrev place : ℕ
  place = number_of_table table

  -- what was stated among the facts of a table was stated into the heap
  in_table : IsOf place fact
      → IfOk r (λ stated. StatesAmong (table_at (tables_of rows) place) fact stated (table_at (tables_of new) place))
      → OnErr r (table_at (tables_of new) place ≡ table_at (tables_of rows) place) → OnErr r (IsNewAmong (heap_of_rows rows).facts fact)
      → AreRight rows.ids place (fact_at rows.ids table) the_bytes (contents_at table new) → IsFactStated rows fact r new
  in_table of among kept absent right =
      let e = sym (heap_new table rows new only) in
      let facts : List FactValue = table_at (tables_of new) place in record {
        are_heap = are_new table rows new only are
            (subst IsHeap e (into_heap-sound r rows are place facts fact of (within table) fits among kept)) right;
        ok = subst (λ (heap : HeapValue). IfOk r (λ stated. StatesInto (heap_of_rows rows) fact stated heap)) e
            (into_heap r rows are place facts fact of (within table) fits among);
        err = subst (λ (heap : HeapValue). OnErr r (heap ≡ heap_of_rows rows)) e
            (into_heap-kept r rows are place facts fact of (within table) fits among kept);
        absent = absent;
      }

  -- a content that was stated under a key was stated into the heap as the fact of both
  under_key : IsKeyed table → (key : ℕ) → order_of fact ≡ place ∷ key ∷ [] → fact_at rows.ids table key (content_of rows.ids fact) ≡ fact
      → StatesRow the_bytes (contents_at table rows) key (content_of rows.ids fact) r (contents_at table new) → IsFactStated rows fact r new
  under_key keyed key at again s =
      let old : List (ℕ × List ℕ) = contents_at table rows in
      let its : List (ℕ × List ℕ) = contents_at table new in
      let right = right_at table rows are in
      let was = facts_at table keyed rows in
      let is = facts_new table rows new only keyed in
      in_table (of_key place key fact at)
      (rw (was, is) (rows_tried rows.ids place (fact_at rows.ids table) the_bytes r old its key fact (record { stands = at; again = again })
      right s.ok))
      (rw (was, is) (rows_kept rows.ids place (fact_at rows.ids table) the_bytes r old its s.err))
      (unseen_row r rows place key (fact_at rows.ids table) the_bytes old fact are at right was s.absent)
      (tried_right rows.ids place (fact_at rows.ids table) the_bytes r old its key fact (record { stands = at; again = again }) right s.ok
      s.err)

-- what stating a fact does to the rows it does to the heap
pub fact_stated : {E : Type 0} (r : Result Stated E) (rows new : HeapRows) → AreHeap rows → (fact : FactValue) → Fits rows.ids fact
    → StatesFact rows fact r new → IsFactStated rows fact r new
fact_stated r rows new are (Name id text) fits s = under_key r rows new are tables.Names s.1 (Name id text) fits tt id refl refl s.0
fact_stated r rows new are (Load serial class trace name) fits s =
    under_key r rows new are tables.Loads s.1 (Load serial class trace name) fits tt serial refl refl
    (contents_state load_numbers rows.loads new.loads serial _ r s.0)
fact_stated r rows new are (Unload serial) fits s =
    under_key r rows new are tables.Unloads s.1 (Unload serial) fits tt serial refl refl
    (contents_state no_content rows.unloads new.unloads serial _ r s.0)
fact_stated r rows new are (Frame id method signature source class_serial line) fits s =
    under_key r rows new are tables.Frames s.1 (Frame id method signature source class_serial line) fits tt id refl
    (ap (λ (l : ℤ). Frame id method signature source class_serial l) (line_again line))
    (contents_state frame_numbers rows.frames new.frames id _ r s.0)
fact_stated r rows new are (Trace serial thread frames) fits s =
    under_key r rows new are tables.Traces s.1 (Trace serial thread frames) fits tt serial refl
    (trace_again rows.ids serial thread frames fits) s.0
fact_stated r rows new are (Start thread object trace name group parent_group) fits s =
    under_key r rows new are tables.Starts s.1 (Start thread object trace name group parent_group) fits tt thread refl refl
    (contents_state start_numbers rows.starts new.starts thread _ r s.0)
fact_stated r rows new are (End thread) fits s =
    under_key r rows new are tables.Ends s.1 (End thread) fits tt thread refl refl
    (contents_state no_content rows.ends new.ends thread _ r s.0)
fact_stated r rows new are (Rooted root) fits s =
    in_table r rows new are tables.Roots s.1 (Rooted root) fits (root_of_table root)
    (roots_tried r rows.roots new.roots root s.0.ok) (roots_kept r rows.roots new.roots s.0.err)
    (unseen_in_heap r rows (number_of_table tables.Roots) (Rooted root) are (root_of_table root)
    (roots_unseen r rows.roots root s.0.absent)) tt
fact_stated r rows new are (Class id trace parent loader signers domain reserved1 reserved2 size constants statics fields) fits s =
    let fact : FactValue = Class id trace parent loader signers domain reserved1 reserved2 size constants statics fields in
    under_key r rows new are tables.Classes s.1 fact fits tt id refl (class_again rows.ids id fact refl fits) s.0
fact_stated r rows new are (Instance id trace class bytes) fits s =
    let fact : FactValue = Instance id trace class bytes in
    under_key r rows new are tables.Objects s.1 fact fits tt id refl (object_again rows.ids id fact refl fits) s.0
fact_stated r rows new are (ObjArray id trace class elements) fits s =
    let fact : FactValue = ObjArray id trace class elements in
    under_key r rows new are tables.Objects s.1 fact fits tt id refl (object_again rows.ids id fact refl fits) s.0
fact_stated r rows new are (PrimArray id trace elem bytes) fits s =
    let fact : FactValue = PrimArray id trace elem bytes in
    under_key r rows new are tables.Objects s.1 fact fits tt id refl (object_again rows.ids id fact refl fits) s.0

-- ---- looking up

-- the table in which the facts of the keys of a rank stand
abbrev pub table_of_rank : ℕ → Table
table_of_rank zero = tables.Names
table_of_rank (suc zero) = tables.Loads
table_of_rank (suc (suc zero)) = tables.Frames
table_of_rank (suc (suc (suc zero))) = tables.Traces
table_of_rank (suc (suc (suc (suc zero)))) = tables.Starts
table_of_rank (suc (suc (suc (suc (suc zero))))) = tables.Classes
table_of_rank (suc (suc (suc (suc (suc (suc rank)))))) = tables.Objects

abbrev pub table_of_key : Key → Table
table_of_key key = table_of_rank (rank_of key)

-- the fact of a key and a content
abbrev pub fact_of_key : IdSize → Key → List ℕ → FactValue
fact_of_key ids key content = fact_at ids (table_of_key key) (number_of key) content

-- a fact of the key
abbrev some_fact : Key → FactValue
some_fact (keys.Name id) = Name id []
some_fact (keys.Load serial) = Load serial 0 0 0
some_fact (keys.Frame id) = Frame id 0 0 0 0 (pos 0)
some_fact (keys.Trace serial) = Trace serial 0 []
some_fact (keys.Thread serial) = Start serial 0 0 0 0 0
some_fact (keys.Class id) = Class id 0 0 0 0 0 0 0 0 [] [] []
some_fact (keys.Object id) = Instance id 0 0 []

-- where it stands
record StandsThere (key : Key) : Type 0 where
  keyed : IsKeyed (table_of_key key)
  place_is : place_of_key key ≡ number_of_table (table_of_key key) ∷ number_of key ∷ []
  stands : order_of (some_fact key) ≡ number_of_table (table_of_key key) ∷ number_of key ∷ []

stands_there : (key : Key) → StandsThere key
stands_there (keys.Name id) = record { keyed = tt; place_is = refl; stands = refl }
stands_there key = record { keyed = tt; place_is = refl; stands = refl }

module _ (rows : HeapRows) (are : AreHeap rows) (key : Key) where
  abbrev contents : List (ℕ × List ℕ)
  contents = contents_at (table_of_key key) rows

  -- what is found under a key is the fact of its content
  pub look_up_key : find (has_key key) (joined (tables_of rows)) ≡ option_map (fact_of_key rows.ids key) (row_at (number_of key) contents)
  look_up_key =
      let there = stands_there key in
      look_up_row rows (number_of_table (table_of_key key)) (number_of key) key (fact_at rows.ids (table_of_key key)) the_bytes contents
      (some_fact key) (row_at (number_of key) contents) are there.place_is there.stands (right_at (table_of_key key) rows are)
      (facts_at (table_of_key key) there.keyed rows) refl

  -- from the fact the content can be read back, and the fact fits
  pub right_key : (content : List ℕ) → row_at (number_of key) contents ≡ Some content
      → IsRight rows.ids (number_of_table (table_of_key key)) (fact_at rows.ids (table_of_key key)) (number_of key) content
  right_key content e = right_found rows.ids (number_of_table (table_of_key key)) (fact_at rows.ids (table_of_key key)) the_bytes contents
      (number_of key) content (right_at (table_of_key key) rows are) e

  pub key_fits : (content : List ℕ) → row_at (number_of key) contents ≡ Some content → Fits rows.ids (fact_of_key rows.ids key content)
  key_fits content e = found_fits rows (has_key key) (fact_of_key rows.ids key content) are
      (look_up_key ∙ ap (option_map (fact_of_key rows.ids key)) e)

  -- the same of a row of any kind
  pub look_up_by : {V : Type 0} (content : V → List ℕ) (of_table : List (ℕ × V)) (found : Option V)
      → contents ≡ contents_of content of_table → found ≡ row_at (number_of key) of_table
      → option_map (λ row. fact_of_key rows.ids key (content row)) found ≡ find (has_key key) (joined (tables_of rows))
  look_up_by content of_table found is e =
      map_twice content (fact_of_key rows.ids key) found
      ∙ ap (option_map (fact_of_key rows.ids key))
      (ap (option_map content) e ∙ sym (lookup-map_values content (is_at (nat_cmp (number_of key))) of_table)
      ∙ ap (row_at (number_of key)) (sym is))
      ∙ sym look_up_key
