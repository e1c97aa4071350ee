-- The name of a class: going over the loads, the first of the class is the one of least serial.
use Rattle.std.proofs.Common.{◌≡◌, ◌≢◌, ℕ, ◌<◌, Bool, true, false, cond, List, [], ◌∷◌, Option, Some, None, refl, sym, ap, subst, ◌⊎◌, inl}
use Rattle.std.proofs.Common.{inr, arith}
use Rattle.std.specs.Prelude.{slice_index}
use Rattle.std.specs.List.{filter}
use Rattle.hprof_items.specs.FactValue.{FactValue, Load}
use Rattle.hprof_rows.specs.declared.number_rows.LoadRow.{LoadRow}
use Rattle.hprof_rows.specs.declared.table.Table.TheVariants as tables
use Rattle.hprof_heap.specs.ClassName.{NamesClass}
use Rattle.hprof_rows.specs.Facts.{Has}
use Rattle.hprof_rows.specs.Tables.{stands_in, joined}
use Rattle.hprof_rows.specs.HeapRows.{HeapRows, AreHeap, heap_of_rows, load_facts, tables_of}
use Rattle.hprof_rows.specs.Order.{order_of}
use Rattle.hprof_tables.specs.SortedRows.{AreKeys, IsAscending}
use Rattle.hprof_rows.proofs.HeapRows.{table_facts}
use Rattle.hprof_tables.proofs.SortedRows.{ascending_head, ascending_tail}
use Rattle.hprof_rows.proofs.ReadBack.{has_joined}

-- ---- two loads that are one

same_serial : (one other : FactValue) → one ≡ other → slice_index (order_of one) 1 ≡ slice_index (order_of other) 1
same_serial one other e = ap (λ (fact : FactValue). slice_index (order_of fact) 1) e

abbrev class_in : FactValue → ℕ
class_in (Load serial class trace name) = class
class_in fact = 0

-- ---- the first load

-- the serial of a load is the key of a row
has_serial : (P : ℕ → Type 0) (rows : List (ℕ × LoadRow)) (serial class trace name : ℕ) → AreKeys P rows
    → Has (load_facts rows) (Load serial class trace name) → P serial
has_serial P [] serial class trace name all has = absurd has
has_serial P (row ∷ rows) serial class trace name all (inl e) =
    subst P (sym (same_serial (Load serial class trace name) (Load row.0 row.1.class row.1.trace row.1.name) e)) all.0
has_serial P (row ∷ rows) serial class trace name all (inr has) = has_serial P rows serial class trace name all.1 has

-- a load of the class names it, where all others have greater serials
pub named_here : (class : ℕ) (row : ℕ × LoadRow) (rows : List (ℕ × LoadRow)) → IsAscending (row ∷ rows) → row.1.class ≡ class
    → NamesClass (load_facts (row ∷ rows)) class (Some row.1.name)
named_here class row rows ascends is = record {
  serial = row.0;
  trace = row.1.trace;
  loaded = inl (ap (λ (n : ℕ). Load row.0 n row.1.trace row.1.name) (sym is));
  least = λ other trace_too name_too has. elim has [
    | inl e ↦
        let same = same_serial (Load other class trace_too name_too) (Load row.0 row.1.class row.1.trace row.1.name) e in
        omega (arith, same)
    | inr h ↦
        let lt = has_serial (λ key. row.0 < key) rows other class trace_too name_too (ascending_head row rows ascends) h in
        omega (arith, lt)
  ];
}

-- a load of another class is none of the class
not_here : (class : ℕ) (row : ℕ × LoadRow) (rows : List (ℕ × LoadRow)) (serial trace name : ℕ) → row.1.class ≢ class
    → Has (load_facts (row ∷ rows)) (Load serial class trace name) → Has (load_facts rows) (Load serial class trace name)
not_here class row rows serial trace name other (inl e) = absurd (other (sym (ap class_in e)))
not_here class row rows serial trace name other (inr has) = has

-- what the loads behind a load of another class name, all of them name
pub named_behind : (class : ℕ) (row : ℕ × LoadRow) (rows : List (ℕ × LoadRow)) (answer : Option ℕ) → row.1.class ≢ class
    → NamesClass (load_facts rows) class answer → NamesClass (load_facts (row ∷ rows)) class answer
named_behind class row rows None other none = λ serial trace name has. none serial trace name
    (not_here class row rows serial trace name other has)
named_behind class row rows (Some name) other first = record {
  serial = first.serial;
  trace = first.trace;
  loaded = inr first.loaded;
  least = λ serial trace_too name_too has. first.least serial trace_too name_too
      (not_here class row rows serial trace_too name_too other has);
}

-- ---- going over the loads

-- none of the loads that were passed is of the class: what those that are left name, all of them name
pub record Passed (class : ℕ) (all left : List (ℕ × LoadRow)) : Type 0 where
  pub ascends : IsAscending left
  pub names : (answer : Option ℕ) → NamesClass (load_facts left) class answer → NamesClass (load_facts all) class answer

-- nothing was passed so far
pub passed_nothing : (class : ℕ) (all left : List (ℕ × LoadRow)) → left ≡ all → IsAscending left → Passed class all left
passed_nothing class all left e ascends =
    let same = λ (answer : Option ℕ) (named : NamesClass (load_facts left) class answer).
    subst (λ (rows : List (ℕ × LoadRow)). NamesClass (load_facts rows) class answer) e named in
    record { ascends = ascends; names = same }

module _ (class : ℕ) (all left : List (ℕ × LoadRow)) (row : ℕ × LoadRow) (rows : List (ℕ × LoadRow)) (e : left ≡ row ∷ rows)
    (passed : Passed class all left) where
  -- one that is of another class was passed
  pub passed_one : row.1.class ≢ class → Passed class all rows
  passed_one other =
      let first : Passed class all (row ∷ rows) = subst (Passed class all) e passed in
      let behind = λ (answer : Option ℕ) (named : NamesClass (load_facts rows) class answer).
      first.names answer (named_behind class row rows answer other named) in
      record { ascends = ascending_tail row rows first.ascends; names = behind }

  -- the first of the class names it
  pub passed_named : row.1.class ≡ class → NamesClass (load_facts all) class (Some row.1.name)
  passed_named is =
      let first : Passed class all (row ∷ rows) = subst (Passed class all) e passed in
      first.names (Some row.1.name) (named_here class row rows first.ascends is)

-- none is left
pub passed_all : (class : ℕ) (all left : List (ℕ × LoadRow)) → left ≡ [] → Passed class all left → NamesClass (load_facts all) class None
passed_all class all left e passed =
    let last : Passed class all [] = subst (Passed class all) e passed in
    last.names None (λ serial trace name has. has)

-- ---- among all facts

module _ (p : FactValue → Bool) where
  passed_step : (t : Bool) (first : FactValue) (passed : List FactValue) (fact : FactValue)
      → ((fact ≡ first) × (t ≡ true)) ⊎ Has passed fact
      → Has (cond t (first ∷ passed) passed) fact
  passed_step true first passed fact (inl is) = inl is.0
  passed_step true first passed fact (inr has) = inr has
  passed_step false first passed fact (inl is) = let clash : false ≡ true = is.1 in absurd cc
  passed_step false first passed fact (inr has) = has

  -- a fact that passes a test is one of those that pass it
  has_passed : (facts : List FactValue) (fact : FactValue) → p fact ≡ true → Has facts fact → Has (filter p facts) fact
  has_passed [] fact pass has = has
  has_passed (first ∷ facts) fact pass (inl e) =
      passed_step (p first) first (filter p facts) fact (inl (e, subst (λ (f : FactValue). p f ≡ true) e pass))
  has_passed (first ∷ facts) fact pass (inr has) = passed_step (p first) first (filter p facts) fact (inr (has_passed facts fact pass has))

-- a load is one of the loads
has_load : (rows : HeapRows) (serial class trace name : ℕ) → AreHeap rows → Has (heap_of_rows rows).facts (Load serial class trace name)
    → Has (load_facts rows.loads) (Load serial class trace name)
has_load rows serial class trace name are has =
    subst (λ (facts : List FactValue). Has facts (Load serial class trace name)) (table_facts rows tables.Loads are)
    (has_passed (stands_in 1) (joined (tables_of rows)) (Load serial class trace name) refl has)

-- what the loads name, the facts of the heap name
pub named_among : (rows : HeapRows) (class : ℕ) (answer : Option ℕ) → AreHeap rows → NamesClass (load_facts rows.loads) class answer
    → NamesClass (heap_of_rows rows).facts class answer
named_among rows class None are none = λ serial trace name has. none serial trace name (has_load rows serial class trace name are has)
named_among rows class (Some name) are first = record {
  serial = first.serial;
  trace = first.trace;
  loaded = has_joined (tables_of rows) 1 (Load first.serial class first.trace name) first.loaded;
  least = λ serial trace_too name_too has. first.least serial trace_too name_too (has_load rows serial class trace_too name_too are has);
}
