-- The rows of a heap's tables can be read back, and stay so while they are gone over; the facts of a table stand in order.
use Rattle.std.proofs.Common.{◌≡◌, ℕ, zero, suc, Bool, true, false, cond, List, [], ◌∷◌, refl, subst, inl, inr}
use Rattle.std.specs.List.{AllByRecursion, filter}
use Rattle.hprof_values.specs.declared.ids.IdSize.{IdSize}
use Rattle.hprof_items.specs.FactValue.{FactValue}
use Rattle.hprof_items.specs.Spelling.{Fits}
use Rattle.hprof_rows.specs.Content.{facts_of_rows, load_fact, unload_fact, trace_fact, start_fact, end_fact, decode_class, object_fact}
use Rattle.hprof_rows.specs.Content.{IsRight, AreRight}
use Rattle.hprof_byte_tables.specs.Spans.{the_bytes}
use Rattle.hprof_rows.specs.Facts.{Has, AllFit}
use Rattle.hprof_rows.specs.HeapRows.{HeapRows, AreHeap, tables_of, no_content}
use Rattle.hprof_rows.specs.NumberRows.{load_numbers, start_numbers}
use Rattle.hprof_rows.specs.Order.{IsBefore, IsCanonicalOrder}
use Rattle.hprof_rows.specs.TableRows.{HasSerial, IsWhole, IsSpelled, IsObject, AreSerials, AreWhole, AreSpelled, AreObjects}
use Rattle.hprof_rows.specs.Tables.{joined}
use Rattle.hprof_rows.proofs.FactSets.{Has-front, Has-back}
use Rattle.hprof_rows.proofs.HeapRows.{loads_right, unloads_right, starts_right, ends_right, row_spells, row_is_trace}
use Rattle.hprof_rows.proofs.KeptObjects.{row_keeps}
use Rattle.hprof_rows.proofs.Tables.{table_at}

-- ---- the facts of a table

-- a fact of one of the tables is one of all
pub has_joined : (tables : List (List FactValue)) (place : ℕ) (fact : FactValue) → Has (table_at tables place) fact
    → Has (joined tables) fact
has_joined [] place fact has = absurd has
has_joined (facts ∷ tables) zero fact has = Has-front facts (joined tables) fact has
has_joined (facts ∷ tables) (suc place) fact has = Has-back facts (joined tables) fact (has_joined tables place fact has)

-- those of each table have spellings
pub table_fits : (rows : HeapRows) → AreHeap rows → (place : ℕ) → AllFit rows.ids (table_at (tables_of rows) place)
table_fits rows are place fact has = are.heap.fit fact (has_joined (tables_of rows) place fact has)

-- ---- rows that can be read back

module _ {V : Type 0} (ids : IdSize) (table : ℕ) (fact : ℕ → List ℕ → FactValue) (content : V → List ℕ) (P : ℕ × V → Type 0) where
  -- what follows for a row of which the fact is right and has a spelling, for each row
  each_row : ((row : ℕ × V) → IsRight ids table fact row.0 (content row.1) → Fits ids (fact row.0 (content row.1)) → P row)
      → (rows : List (ℕ × V)) → AreRight ids table fact content rows → AllFit ids (facts_of_rows fact content rows) → AllByRecursion P rows
  each_row follows [] right fit = tt
  each_row follows (row ∷ rows) right fit =
      (follows row right.0 (fit (fact row.0 (content row.1)) (inl refl)), each_row follows rows right.1 (λ other has. fit other (inr has)))

pub load_serials : (rows : HeapRows) → AreHeap rows → AreSerials rows.loads
load_serials rows are =
    each_row rows.ids 1 load_fact load_numbers HasSerial (λ row right fits. fits.0.numbers.0) rows.loads (loads_right rows.ids rows.loads)
    (table_fits rows are 1)

pub unload_serials : (rows : HeapRows) → AreHeap rows → AreSerials rows.unloads
unload_serials rows are =
    each_row rows.ids 2 unload_fact no_content HasSerial (λ row right fits. fits.0.numbers.0) rows.unloads
    (unloads_right rows.ids rows.unloads) (table_fits rows are 2)

pub traces_whole : (rows : HeapRows) → AreHeap rows → AreWhole rows.ids rows.traces
traces_whole rows are = each_row rows.ids 4 (trace_fact rows.ids) the_bytes (IsWhole rows.ids)
    (λ row right fits. (fits.0.numbers.0, row_is_trace rows.ids row.0 (the_bytes row.1) right fits)) rows.traces are.traces
    (table_fits rows are 4)

pub start_serials : (rows : HeapRows) → AreHeap rows → AreSerials rows.starts
start_serials rows are =
    each_row rows.ids 5 start_fact start_numbers HasSerial (λ row right fits. fits.0.numbers.0) rows.starts
    (starts_right rows.ids rows.starts) (table_fits rows are 5)

pub end_serials : (rows : HeapRows) → AreHeap rows → AreSerials rows.ends
end_serials rows are =
    each_row rows.ids 6 end_fact no_content HasSerial (λ row right fits. fits.0.numbers.0) rows.ends (ends_right rows.ids rows.ends)
    (table_fits rows are 6)

pub classes_spelled : (rows : HeapRows) → AreHeap rows → AreSpelled rows.ids rows.classes
classes_spelled rows are = each_row rows.ids 8 (decode_class rows.ids) the_bytes (IsSpelled rows.ids)
    (λ row right fits. row_spells rows.ids row.0 (the_bytes row.1) right fits) rows.classes are.classes
    (table_fits rows are 8)

pub objects_kept : (rows : HeapRows) → AreHeap rows → AreObjects rows.ids rows.objects
objects_kept rows are = each_row rows.ids 9 (object_fact rows.ids) the_bytes (IsObject rows.ids)
    (λ row right fits. row_keeps rows.ids row.0 (the_bytes row.1) right fits) rows.objects are.objects (table_fits rows are 9)

-- ---- going over rows

-- what holds of each row holds of the first, and of each behind it
pub first_left : {V : Type 0} (P : ℕ × V → Type 0) (old new : List (ℕ × V)) (first : ℕ × V) → old ≡ first ∷ new → AllByRecursion P old
    → P first × AllByRecursion P new
first_left P old new first e all = subst (AllByRecursion P) e all

-- and of each where none is left
pub none_left : {V : Type 0} (P : ℕ × V → Type 0) (new : List (ℕ × V)) → new ≡ [] → AllByRecursion P new
none_left P new e = rw e tt

-- ---- order

module _ (p : FactValue → Bool) where
  -- what holds of each fact holds of those that pass a test
  all_step : (P : FactValue → Type 0) (t : Bool) (fact : FactValue) (passed : List FactValue) → P fact → AllByRecursion P passed
      → AllByRecursion P (cond t (fact ∷ passed) passed)
  all_step P true fact passed first all = (first, all)
  all_step P false fact passed first all = all

  all_passed : (P : FactValue → Type 0) (facts : List FactValue) → AllByRecursion P facts → AllByRecursion P (filter p facts)
  all_passed P [] all = tt
  all_passed P (fact ∷ facts) all = all_step P (p fact) fact (filter p facts) all.0 (all_passed P facts all.1)

  -- facts that pass a test stand in the order of all
  ordered_step : (t : Bool) (fact : FactValue) (passed : List FactValue) → AllByRecursion (IsBefore fact) passed → IsCanonicalOrder passed
      → IsCanonicalOrder (cond t (fact ∷ passed) passed)
  ordered_step true fact passed before ordered = (before, ordered)
  ordered_step false fact passed before ordered = ordered

  pub passed_ordered : (facts : List FactValue) → IsCanonicalOrder facts → IsCanonicalOrder (filter p facts)
  passed_ordered [] ordered = tt
  passed_ordered (fact ∷ facts) ordered =
      ordered_step (p fact) fact (filter p facts) (all_passed (IsBefore fact) facts ordered.0) (passed_ordered facts ordered.1)
