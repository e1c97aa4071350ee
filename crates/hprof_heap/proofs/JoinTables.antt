-- Joining one table of a heap with that of another.
use Rattle.std.proofs.Common.{◌≡◌, ℕ, List, ◌++◌, Result, Ok, Err, refl, sym, ap, subst, ◌∙◌, inl, inr, arith}
use Rattle.std.specs.Prelude.{IfOk, OnErr}
use Rattle.hprof_values.specs.declared.ids.IdSize.{IdSize}
use Rattle.hprof_items.specs.FactValue.{FactValue, Rooted}
use Rattle.hprof_tables.specs.SideBySide.{LacksOne}
use Rattle.hprof_tables.specs.SortedRows.{IsAscending}
use Rattle.hprof_byte_tables.specs.Spans.{the_bytes}
use Rattle.hprof_tables.specs.Union.{AreUnion}
use Rattle.hprof_rows.specs.declared.table.Table.{Table}
use Rattle.hprof_rows.specs.declared.table.Table.TheVariants as tables
use Rattle.hprof_rows.specs.Conflict.{IsConsistent}
use Rattle.hprof_rows.specs.Content.{AreRight}
use Rattle.hprof_rows.specs.EachTable.{IsKeyed, fact_at, contents_at, with_rows, JoinsRows, JoinsTable}
use Rattle.hprof_rows.specs.Facts.{Has}
use Rattle.hprof_rows.specs.HeapRows.{HeapRows, AreHeap, heap_of_rows, tables_of}
use Rattle.hprof_rows.specs.HeapValue.{HeapValue, IsHeap}
use Rattle.hprof_rows.specs.Order.{IsCanonicalOrder}
use Rattle.hprof_rows.specs.RootSet.{LacksRoot}
use Rattle.hprof_rows.specs.Tables.{facts_of_table, number_of_table, stands_in, joined}
use Rattle.hprof_heap.specs.declared.heap.Heap.{Heap}
use Rattle.hprof_heap.specs.Heap.{rows_in, heap_of}
use Rattle.hprof_heap.specs.Join.{LacksFactIn, TakesFacts}
use Rattle.hprof_rows.proofs.Conflicts.{IsConsistent-key}
use Rattle.hprof_rows.proofs.EachTable.{facts_at, right_at, within, heap_new, are_new, facts_new}
use Rattle.hprof_rows.proofs.FactSets.{Has-parts, Has-front, Has-back, All-has, All-from_has}
use Rattle.hprof_rows.proofs.HeapRows.{heap_tables, root_of_table, unseen_in_heap, unseen_row, table_facts, with_same}
use Rattle.hprof_rows.proofs.ReadBack.{has_joined, table_fits, passed_ordered}
use Rattle.hprof_rows.proofs.Roots.{find_root, has_root}
use Rattle.hprof_rows.proofs.RowFacts.{right_found}
use Rattle.hprof_rows.proofs.Stating.{with_facts}
use Rattle.hprof_rows.proofs.Tables.{IsOf, AllOf, table_at, with_table, all_append}
use Rattle.hprof_rows.proofs.UnionRoots.{tried_roots}
use Rattle.hprof_rows.proofs.UnionRows.{AgreeAtPlaces, IsTableOfBoth, ascending_of, has_stated, union_right, union_stated}
use Rattle.hprof_heap.proofs.TableOrder.{ordered_with, same_with, of_table}

-- ---- two heaps

-- the facts of each stand in order
table_ordered : (rows : HeapRows) (table : Table) → AreHeap rows → IsCanonicalOrder (table_at (tables_of rows) (number_of_table table))
table_ordered rows table are =
    subst IsCanonicalOrder (table_facts rows table are)
    (passed_ordered (stands_in (number_of_table table)) (joined (tables_of rows)) are.heap.ordered)

-- two heaps of one size that agree
pub record CanJoin (rows others : HeapRows) : Type 0 where
  pub are : AreHeap rows
  pub others_are : AreHeap others
  pub one_size : rows.ids ≡ others.ids
  pub agree : IsConsistent ((heap_of_rows rows).facts ++ (heap_of_rows others).facts)

pub can_join : (heap other : Heap) → (heap_of heap).ids ≡ (heap_of other).ids → IsConsistent ((heap_of heap).facts ++ (heap_of other).facts)
    → CanJoin (rows_in heap) (rows_in other)
can_join heap other one_size agree = record { are = heap.sound; others_are = other.sound; one_size = one_size; agree = agree }

module _ {rows others : HeapRows} (can : CanJoin rows others) where
  -- the other, told by the size of the first
  abbrev sized : HeapRows
  sized = record others { ids = rows.ids }

  is_sized : sized ≡ others
  is_sized = ap (λ (i : IdSize). record others { ids = i }) can.one_size

  sized_are : AreHeap sized
  sized_are = subst AreHeap (sym is_sized) can.others_are

  -- the facts of a table of both
  abbrev pub mine : Table → List FactValue
  mine table = table_at (tables_of rows) (number_of_table table)

  abbrev pub its : Table → List FactValue
  its table = table_at (tables_of sized) (number_of_table table)

  its_facts : (table : Table) → facts_of_table table (joined (tables_of others)) ≡ its table
  its_facts table =
      ap (λ (other : HeapRows). facts_of_table table (joined (tables_of other))) (sym is_sized) ∙ table_facts sized table sized_are

  -- a fact of its table is one of those of its facts that stand there
  in_its : (table : Table) (fact : FactValue) → Has (its table) fact → Has (facts_of_table table (joined (tables_of others))) fact
  in_its table fact has = subst (λ (facts : List FactValue). Has facts fact) (sym (its_facts table)) has

  -- and one of all of its facts
  has_other : (table : Table) (fact : FactValue) → Has (its table) fact → Has (joined (tables_of others)) fact
  has_other table fact has =
      subst (λ (some : HeapRows). Has (joined (tables_of some)) fact) is_sized
      (has_joined (tables_of sized) (number_of_table table) fact has)

  agree_in : (table : Table) → AgreeAtPlaces (mine table) (its table)
  agree_in table one other has_mine has same =
      let facts : List FactValue = joined (tables_of rows) in
      let more : List FactValue = joined (tables_of others) in
      let it : Has more other = has_other table other has in
      IsConsistent-key (facts ++ more) one other can.agree
      (Has-front facts more one (has_joined (tables_of rows) (number_of_table table) one has_mine)) (Has-back facts more other it) same

  -- facts that are those of a table of both
  abbrev pub IsTaken : Table → List FactValue → Type 0
  IsTaken table new = IsTableOfBoth (mine table) (its table) new

  -- the heap with these in its table
  abbrev pub heap_with : Table → List FactValue → HeapValue
  heap_with table new = with_facts rows.ids rows.millis (joined (with_table (tables_of rows) (number_of_table table) new))

  taken_of : (table : Table) (new : List FactValue) → IsTaken table new → AllOf (number_of_table table) new
  taken_of table new both =
      let number : ℕ = number_of_table table in
      let of = of_table (tables_of rows) number 0 number (omega arith) (heap_tables rows can.are) in
      let of_too = of_table (tables_of sized) number 0 number (omega arith) (heap_tables sized sized_are) in
      All-from_has (IsOf number) new
      (λ fact has. All-has (IsOf number) (mine table ++ its table) fact (all_append (IsOf number) (mine table) (its table) of of_too)
      ((both.same fact).0 has))

  -- takes the facts of the other's
  takes_table : (table : Table) (new : List FactValue) → IsTaken table new
      → TakesFacts (heap_of_rows rows) (facts_of_table table (joined (tables_of others))) (heap_with table new)
  takes_table table new both =
      let facts : List FactValue = joined (tables_of rows) in
      let same = same_with (tables_of rows) (number_of_table table) (its table) new (within table) both.same in
      rw (its_facts table) (record {
        ids = refl;
        millis = refl;
        facts = same;
        is_heap = record {
          is_millis = can.are.heap.is_millis;
          fit = λ fact has. elim (Has-parts facts (its table) fact ((same fact).0 has)) [
            | inl h ↦ can.are.heap.fit fact h
            | inr h ↦ table_fits sized sized_are (number_of_table table) fact h
          ];
          ordered = ordered_with (tables_of rows) (number_of_table table) 0 (number_of_table table) new (omega arith)
              (heap_tables rows can.are) (taken_of table new both) both.ordered can.are.heap.ordered;
        };
      })

  -- where nothing was taken it is a heap as it was
  keeps_table : (table : Table) (new : List FactValue) → new ≡ mine table → IsHeap (heap_with table new)
  keeps_table table new e = rw (e, with_same (tables_of rows) (number_of_table table)) can.are.heap

  -- what joining the table comes to, where memory may have been refused
  pub record IsJoined {A E : Type 0} (r : Result A E) (table : Table) (new : List FactValue) : Type 0 where
    pub takes : IfOk r (λ _. TakesFacts (heap_of_rows rows) (facts_of_table table (joined (tables_of others))) (heap_with table new))
    pub is_heap : IsHeap (heap_with table new)

  joined_by : {A E : Type 0} (r : Result A E) (table : Table) (new : List FactValue) → IfOk r (λ _. IsTaken table new)
      → OnErr r (new ≡ mine table) → IsJoined r table new
  joined_by (Ok done) table new ok err = let takes = takes_table table new ok in record { takes = takes; is_heap = takes.is_heap }
  joined_by (Err e) table new ok err = record { takes = tt; is_heap = keeps_table table new err }

  -- the rows with one table joined
  pub record AreJoined {A E : Type 0} (r : Result A E) (table : Table) (new : HeapRows) : Type 0 where
    pub takes : IfOk r (λ _. TakesFacts (heap_of_rows rows) (facts_of_table table (joined (tables_of others))) (heap_of_rows new))
    pub same : OnErr r (heap_of_rows new ≡ heap_of_rows rows)
    pub lacks : OnErr r (LacksFactIn table (heap_of_rows rows) (heap_of_rows others))
    pub are_heap : AreHeap new

  same_facts : {A E : Type 0} (r : Result A E) (table : Table) (new : HeapRows) → OnErr r (new ≡ rows)
      → OnErr r (table_at (tables_of new) (number_of_table table) ≡ mine table)
  same_facts (Ok done) table new err = tt
  same_facts (Err e) table new err = ap (λ (those : HeapRows). table_at (tables_of those) (number_of_table table)) err

  same_heap : {A E : Type 0} (r : Result A E) (new : HeapRows) → OnErr r (new ≡ rows) → OnErr r (heap_of_rows new ≡ heap_of_rows rows)
  same_heap (Ok done) new err = tt
  same_heap (Err e) new err = ap heap_of_rows err

  -- what was joined in one table was joined in the heap
  in_heap : {A E : Type 0} (r : Result A E) (table : Table) (new : HeapRows) → new ≡ with_rows table rows new
      → IfOk r (λ _. IsTaken table (table_at (tables_of new) (number_of_table table))) → OnErr r (new ≡ rows)
      → OnErr r (LacksFactIn table (heap_of_rows rows) (heap_of_rows others))
      → AreRight rows.ids (number_of_table table) (fact_at rows.ids table) the_bytes (contents_at table new) → AreJoined r table new
  in_heap r table new only ok err lacks right =
      let e = sym (heap_new table rows new only) in
      let both = joined_by r table (table_at (tables_of new) (number_of_table table)) ok (same_facts r table new err) in record {
        takes = subst (λ (heap : HeapValue).
            IfOk r (λ _. TakesFacts (heap_of_rows rows) (facts_of_table table (joined (tables_of others))) heap)) e both.takes;
        same = same_heap r new err;
        lacks = lacks;
        are_heap = are_new table rows new only can.are (subst IsHeap e both.is_heap) right;
      }

  -- ---- rows by key

  module _ (table : Table) (keyed : IsKeyed table) where
    abbrev number : ℕ
    number = number_of_table table

    abbrev fact : ℕ → List ℕ → FactValue
    fact = fact_at rows.ids table

    abbrev old : List (ℕ × List ℕ)
    old = contents_at table rows

    abbrev other : List (ℕ × List ℕ)
    other = contents_at table sized

    ascend : IsAscending old
    ascend = ascending_of rows.ids number fact old (right_at table rows can.are)
        (subst IsCanonicalOrder (facts_at table keyed rows) (table_ordered rows table can.are))

    others_ascend : IsAscending other
    others_ascend = ascending_of rows.ids number fact other (right_at table sized sized_are)
        (subst IsCanonicalOrder (facts_at table keyed sized) (table_ordered sized table sized_are))

    rows_taken : {A E : Type 0} (r : Result A E) (new : HeapRows) → new ≡ with_rows table rows new
        → IfOk r (λ _. AreUnion old other (contents_at table new))
        → IfOk r (λ _. IsTaken table (table_at (tables_of new) number))
    rows_taken (Ok done) new only ok =
        let was = facts_at table keyed rows in
        let its_was = facts_at table keyed sized in
        rw (was, its_was, facts_new table rows new only keyed) (union_stated rows.ids number fact old other (contents_at table new)
        (right_at table rows can.are)
        (right_at table sized sized_are) ok ascend others_ascend (rw (← was, ← its_was) (agree_in table)))
    rows_taken (Err e) new only ok = tt

    rows_right : {A E : Type 0} (r : Result A E) (new : HeapRows) → IfOk r (λ _. AreUnion old other (contents_at table new))
        → OnErr r (new ≡ rows) → AreRight rows.ids number fact the_bytes (contents_at table new)
    rows_right (Ok done) new ok err =
        union_right rows.ids number fact old other (contents_at table new) (right_at table rows can.are) (right_at table sized sized_are) ok
    rows_right (Err e) new ok err =
        subst (λ (those : HeapRows). AreRight rows.ids number fact the_bytes (contents_at table those)) (sym err)
        (right_at table rows can.are)

    -- where the other has a row at a key that is new it has a fact that is new
    rows_lack : {A E : Type 0} (r : Result A E) → OnErr r (LacksOne old other)
        → OnErr r (LacksFactIn table (heap_of_rows rows) (heap_of_rows others))
    rows_lack (Ok done) lacks = tt
    rows_lack (Err e) lacks =
        let stated : FactValue = fact lacks.0 lacks.1 in
        let has : Has (its table) stated =
        rw (facts_at table keyed sized) (has_stated rows.ids number fact other lacks.0 lacks.1 lacks.2) in
        let at = (right_found rows.ids number fact the_bytes other lacks.0 lacks.1 (right_at table sized sized_are) lacks.2).0 in
        let unseen = unseen_row (Err e) rows number lacks.0 fact the_bytes old stated can.are at (right_at table rows can.are)
        (facts_at table keyed rows) lacks.3 in
        (stated, in_its table stated has, unseen.absent)

    rows_joined : {A E : Type 0} (r : Result A E) (new : HeapRows) → new ≡ with_rows table rows new → JoinsRows table rows others r new
        → AreJoined r table new
    rows_joined r new only those =
        let j = subst (λ (its_rows : HeapRows). JoinsRows table rows its_rows r new) (sym is_sized) those in
        in_heap r table new only (rows_taken r new only j.ok) j.err (rows_lack r j.absent) (rows_right r new j.ok j.err)

  -- ---- roots

  -- where the other has a root that is new it has a fact that is new
  roots_lack : {A E : Type 0} (r : Result A E) → OnErr r (LacksRoot rows.roots others.roots)
      → OnErr r (LacksFactIn tables.Roots (heap_of_rows rows) (heap_of_rows others))
  roots_lack (Ok done) lacks = tt
  roots_lack (Err e) lacks =
      let stated : FactValue = Rooted lacks.0 in
      let unseen =
      unseen_in_heap (Err e) rows
      7 stated can.are (root_of_table lacks.0) (find_root rows.roots lacks.0 lacks.2) in
      (stated, in_its tables.Roots stated (has_root others.roots lacks.0 lacks.1), unseen.absent)

  -- ---- each table

  pub table_joined : {A E : Type 0} (table : Table) (r : Result A E) (new : HeapRows) → JoinsTable table rows others r new
      → AreJoined r table new
  table_joined tables.Roots r new j =
      in_heap r tables.Roots new j.1 (tried_roots r rows.roots others.roots new.roots j.0.ok) j.0.err (roots_lack r j.0.absent) tt
  table_joined table r new j = rows_joined table tt r new j.1 j.0
