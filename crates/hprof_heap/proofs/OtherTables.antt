-- The tables of a heap without that of its objects.
use Rattle.std.proofs.Common.{◌≡◌, ◌++◌, List, [], Ok, sym, subst, ap, arith}
use Rattle.std.specs.Prelude.{⊤}
use Rattle.std.specs.List.Sorted.{IsStrictlySortedBy}
use Rattle.hprof_values.specs.declared.root.Root.{Root}
use Rattle.hprof_items.specs.FactValue.{FactValue}
use Rattle.hprof_rows.specs.declared.table.Table.TheVariants as tables
use Rattle.hprof_rows.specs.Facts.{SameFacts}
use Rattle.hprof_rows.specs.HeapRows.{HeapRows, AreHeap, heap_of_rows, object_facts, root_facts, tables_of}
use Rattle.hprof_rows.specs.Order.{root_cmp}
use Rattle.hprof_rows.specs.RootSet.{IsUnionOfRoots}
use Rattle.hprof_rows.specs.Tables.{facts_of_table, joined, number_of_table}
use Rattle.hprof_heap.specs.OtherFacts.{other_facts, other_tables}
use Rattle.hprof_rows.proofs.EachTable.{within}
use Rattle.hprof_rows.proofs.FactSets.{Has-front, SameFacts-refl}
use Rattle.hprof_rows.proofs.HeapRows.{heap_tables, table_facts}
use Rattle.hprof_rows.proofs.Order.{one_order}
use Rattle.hprof_rows.proofs.SameHeaps.{same_roots}
use Rattle.hprof_rows.proofs.Stating.{with_facts}
use Rattle.hprof_rows.proofs.Tables.{table_at}
use Rattle.hprof_rows.proofs.UnionRoots.{roots_ordered, tried_roots}
use Rattle.hprof_rows.proofs.UnionRows.{IsTableOfBoth}
use Rattle.hprof_heap.proofs.JoinHeaps.{by_each}
use Rattle.hprof_heap.proofs.TableOrder.{ordered_with, same_with}

-- a set of roots that is joined into one without roots
pub joined_roots : (none others new : List Root) → none ≡ [] → IsStrictlySortedBy root_cmp others → IsUnionOfRoots none others new
    → new ≡ others
joined_roots none others new empty sorted union =
    let both : IsTableOfBoth (root_facts none) (root_facts others) (root_facts new) =
    tried_roots {A = ⊤} {E = ⊤} (Ok tt) none others new union in
    let same : SameFacts (root_facts new) (root_facts others) =
    subst (λ (roots : List Root). SameFacts (root_facts new) (root_facts roots ++ root_facts others)) empty both.same in
    same_roots new others (one_order (root_facts new) (root_facts others) both.ordered (roots_ordered others sorted) same)

module _ (rows : HeapRows) (are : AreHeap rows) where
  -- the rows without those of objects
  abbrev pub others : HeapRows
  others = record rows { objects = [] }

  abbrev its_objects : List FactValue
  its_objects = object_facts rows.ids rows.objects

  -- their facts are those of the other tables
  are_facts : other_facts (joined (tables_of rows)) ≡ joined (tables_of others)
  are_facts =
      ap joined
      (by_each (λ table. facts_of_table table (joined (tables_of rows))) (λ table. table_at (tables_of rows) (number_of_table table))
      other_tables (λ table. table_facts rows table are))

  -- with the objects they are all
  all_same : SameFacts (joined (tables_of rows)) (joined (tables_of others) ++ its_objects)
  all_same = same_with (tables_of others) 9 its_objects its_objects (within tables.Objects) (SameFacts-refl its_objects)

  pub others_are : AreHeap others
  others_are = record {
    heap = record {
      is_millis = are.heap.is_millis;
      fit = λ fact has. are.heap.fit fact ((all_same fact).1 (Has-front (joined (tables_of others)) its_objects fact has));
      ordered = ordered_with (tables_of rows) 9 0 9 [] (omega arith) (heap_tables rows are) tt tt are.heap.ordered;
    };
    traces = are.traces;
    classes = are.classes;
    objects = tt;
  }

  pub others_heap : heap_of_rows others ≡ record (heap_of_rows rows) { facts = other_facts (heap_of_rows rows).facts }
  others_heap = ap (with_facts rows.ids rows.millis) (sym are_facts)
