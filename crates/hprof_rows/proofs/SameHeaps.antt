-- Two heaps have the same facts where their tables have the same rows.
use Rattle.std.proofs.Common.{◌≡◌, ℕ, List, [], ◌∷◌, map, refl, sym, ap, subst, ◌∙◌}
use Rattle.std.specs.Prelude.{slice_index}
use Rattle.hprof_values.specs.declared.ids.IdSize.{IdSize}
use Rattle.hprof_values.specs.declared.root.Root.{Root}
use Rattle.hprof_items.specs.FactValue.{FactValue, Rooted}
use Rattle.hprof_byte_tables.specs.Spans.{the_bytes}
use Rattle.hprof_rows.specs.declared.table.Table.{Table}
use Rattle.hprof_rows.specs.declared.table.Table.TheVariants as tables
use Rattle.hprof_rows.specs.Content.{content_of, facts_of_rows, AreRight}
use Rattle.hprof_rows.specs.EachTable.{IsKeyed, fact_at, contents_at}
use Rattle.hprof_rows.specs.Tables.{facts_of_table, number_of_table, joined}
use Rattle.hprof_rows.specs.HeapRows.{HeapRows, AreHeap, HaveSameRecords, HaveSameSubs, heap_of_rows, tables_of, root_facts}
use Rattle.hprof_rows.specs.HeapValue.{HeapValue}
use Rattle.hprof_rows.specs.Order.{order_of}
use Rattle.hprof_rows.proofs.EachTable.{facts_at, right_at}
use Rattle.hprof_rows.proofs.HeapRows.{table_facts}
use Rattle.hprof_rows.proofs.Stating.{with_facts}
use Rattle.hprof_rows.proofs.Tables.{table_at}

-- ---- one table

-- keys and contents are known by the facts
abbrev keyed_by : IdSize → FactValue → ℕ × List ℕ
keyed_by ids stated = (slice_index (order_of stated) 1, content_of ids stated)

module _ (ids : IdSize) (table : ℕ) (fact : ℕ → List ℕ → FactValue) where
  to_contents : (rows : List (ℕ × List ℕ)) → AreRight ids table fact the_bytes rows
      → rows ≡ map (keyed_by ids) (facts_of_rows fact the_bytes rows)
  to_contents [] right = refl
  to_contents (row ∷ rows) right =
      let key : slice_index (order_of (fact row.0 row.1)) 1 ≡ row.0 = ap (λ (place : List ℕ). slice_index place 1) right.0.0 in
      rw (key, right.0.1) (ap (λ (rest : List (ℕ × List ℕ)). row ∷ rest) (to_contents rows right.1))

pub same_roots : (roots others : List Root) → root_facts roots ≡ root_facts others → roots ≡ others
same_roots [] [] e = refl
same_roots [] (other ∷ others) e = absurd cc
same_roots (root ∷ roots) [] e = absurd cc
same_roots (root ∷ roots) (other ∷ others) e =
    let first : Rooted root ≡ Rooted other = cc in
    let it : root ≡ other = cc in
    let rest : root_facts roots ≡ root_facts others = cc in
    let more : roots ≡ others = same_roots roots others rest in
    cc

-- ---- all tables

module _ (one other : HeapRows) where
  -- a table with the same rows has the same facts
  same_facts : (table : Table) → IsKeyed table → one.ids ≡ other.ids → contents_at table one ≡ contents_at table other
      → table_at (tables_of one) (number_of_table table) ≡ table_at (tables_of other) (number_of_table table)
  same_facts table keyed ids same =
      facts_at table keyed one ∙ ap (facts_of_rows (fact_at one.ids table) the_bytes) same
      ∙ ap (λ (i : IdSize). facts_of_rows (fact_at i table) the_bytes (contents_at table other)) ids ∙ sym (facts_at table keyed other)

  -- heaps whose tables have the same rows are one
  pub same_heap : one.ids ≡ other.ids → one.millis ≡ other.millis → HaveSameRecords one other → HaveSameSubs one other
      → heap_of_rows one ≡ heap_of_rows other
  same_heap ids millis records subs =
      let names = same_facts tables.Names tt ids records.names in
      let loads = same_facts tables.Loads tt ids records.loads in
      let unloads = same_facts tables.Unloads tt ids records.unloads in
      let frames = same_facts tables.Frames tt ids records.frames in
      let traces = same_facts tables.Traces tt ids records.traces in
      let starts = same_facts tables.Starts tt ids records.starts in
      let ends = same_facts tables.Ends tt ids records.ends in
      let roots = ap root_facts subs.roots in
      let classes = same_facts tables.Classes tt ids subs.classes in
      let objects = same_facts tables.Objects tt ids subs.objects in
      let facts : tables_of one ≡ tables_of other = cc in
      ap (λ (i : IdSize). with_facts i one.millis (joined (tables_of one))) ids
      ∙ ap (λ (m : ℕ). with_facts other.ids m (joined (tables_of one))) millis
      ∙ ap (λ (t : List (List FactValue)). with_facts other.ids other.millis (joined t)) facts

  module _ (are : AreHeap one) (others_are : AreHeap other) (same : heap_of_rows one ≡ heap_of_rows other) where
    pub one_size : one.ids ≡ other.ids
    one_size = ap (λ (heap : HeapValue). heap.ids) same

    pub one_time : one.millis ≡ other.millis
    one_time = ap (λ (heap : HeapValue). heap.millis) same

    -- the tables have the same facts
    of_table : (table : Table) → table_at (tables_of one) (number_of_table table) ≡ table_at (tables_of other) (number_of_table table)
    of_table table =
        sym (table_facts one table are) ∙ ap (λ (heap : HeapValue). facts_of_table table heap.facts) same
        ∙ table_facts other table others_are

    -- and so the same rows
    same_rows : (table : Table) → IsKeyed table → contents_at table one ≡ contents_at table other
    same_rows table keyed =
        let fact : ℕ → List ℕ → FactValue = fact_at one.ids table in
        let rows : List (ℕ × List ℕ) = contents_at table other in
        let right = subst (λ (i : IdSize). AreRight i (number_of_table table) (fact_at i table) the_bytes rows) (sym one_size)
        (right_at table other others_are) in
        let facts = ap (λ (i : IdSize). facts_of_rows (fact_at i table) the_bytes rows) (sym one_size) in
        to_contents one.ids (number_of_table table) fact (contents_at table one) (right_at table one are)
        ∙ ap (map (keyed_by one.ids)) (sym (facts_at table keyed one) ∙ of_table table ∙ facts_at table keyed other ∙ facts)
        ∙ sym (to_contents one.ids (number_of_table table) fact rows right)

    pub records_same : HaveSameRecords one other
    records_same = record {
      names = same_rows tables.Names tt;
      loads = same_rows tables.Loads tt;
      unloads = same_rows tables.Unloads tt;
      frames = same_rows tables.Frames tt;
      traces = same_rows tables.Traces tt;
      starts = same_rows tables.Starts tt;
      ends = same_rows tables.Ends tt;
    }

    pub subs_same : HaveSameSubs one other
    subs_same = record {
      roots = same_roots one.roots other.roots (of_table tables.Roots);
      classes = same_rows tables.Classes tt;
      objects = same_rows tables.Objects tt;
    }
