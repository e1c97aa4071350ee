-- Joining two heaps, table by table.
use Rattle.std.proofs.Common.{◌≡◌, List, [], ◌∷◌, ◌++◌, map, cond, refl, inl, inr, sym, ap, subst, ◌∙◌, append_assoc}
use Rattle.std.proofs.lemmas.List.{append-nil}
use Rattle.std.specs.List.{filter}
use Rattle.std.specs.Prelude.{Bool, true, false}
use Rattle.hprof_items.specs.FactValue.{FactValue}
use Rattle.hprof_rows.specs.declared.table.Table.{Table}
use Rattle.hprof_rows.specs.declared.table.Table.TheVariants as tables
use Rattle.hprof_rows.specs.Conflict.{IsConsistent}
use Rattle.hprof_rows.specs.Facts.{Has, SameFacts}
use Rattle.hprof_rows.specs.Tables.{facts_of_table, number_of_table, stands_in, joined}
use Rattle.hprof_rows.specs.HeapRows.{HeapRows, AreHeap, heap_of_rows, tables_of}
use Rattle.hprof_rows.specs.HeapValue.{HeapValue, IsHeap}
use Rattle.hprof_heap.specs.Join.{IsBetween, LacksFact, LacksFactIn, TakesFacts}
use Rattle.hprof_heap.specs.OtherFacts.{tables_facts}
use Rattle.hprof_rows.proofs.Conflicts.{IsConsistent-same}
use Rattle.hprof_rows.proofs.FactSets.{Has-front, Has-back, Has-both, SameFacts-refl, SameFacts-sym, SameFacts-trans, SameFacts-append}
use Rattle.hprof_rows.proofs.HeapRows.{table_facts}
use Rattle.hprof_heap.proofs.Joins.{between_facts}
use Rattle.hprof_rows.proofs.Tables.{table_at}

-- ---- the facts of tables

-- all tables, in order
abbrev pub all_tables : List Table
all_tables =
    tables.Names ∷ tables.Loads ∷ tables.Unloads ∷ tables.Frames ∷ tables.Traces ∷ tables.Starts ∷ tables.Ends ∷ tables.Roots
    ∷ tables.Classes
    ∷ tables.Objects ∷ []

-- facts that are the same table by table
pub by_each : (f g : Table → List FactValue) (list : List Table) → ((table : Table) → f table ≡ g table) → map f list ≡ map g list
by_each f g [] same = refl
by_each f g (table ∷ list) same =
    ap (λ (l : List (List FactValue)). f table ∷ l) (by_each f g list same)
    ∙ ap (λ (facts : List FactValue). facts ∷ map g list) (same table)

-- those of all are those of the heap
pub all_facts : (rows : HeapRows) → AreHeap rows → tables_facts all_tables (heap_of_rows rows).facts ≡ (heap_of_rows rows).facts
all_facts rows are =
    ap joined (by_each (λ table. facts_of_table table (joined (tables_of rows))) (λ table.
    table_at (tables_of rows) (number_of_table table))
    all_tables (λ table. table_facts rows table are))

-- ---- facts that are lacking

passed_of : (t : Bool) (first : FactValue) (passed facts : List FactValue) (fact : FactValue) → (Has passed fact → Has facts fact)
    → Has (cond t (first ∷ passed) passed) fact → Has (first ∷ facts) fact
passed_of true first passed facts fact of (inl is) = inl is
passed_of true first passed facts fact of (inr has) = inr (of has)
passed_of false first passed facts fact of has = inr (of has)

-- a fact that passes a test among others is one of them
has_of : (test : FactValue → Bool) (facts : List FactValue) (fact : FactValue) → Has (filter test facts) fact → Has facts fact
has_of test [] fact has = has
has_of test (first ∷ facts) fact has =
    passed_of (test first) first (filter test facts) facts fact (has_of test facts fact) has

-- one that is lacking in a table is lacking
pub lacks_in : (table : Table) (one other : HeapValue) → LacksFactIn table one other → LacksFact one other
lacks_in table one other lacks = (lacks.0, has_of (stands_in (number_of_table table)) other.facts lacks.0 lacks.1, lacks.2)

-- ---- taking facts

takes_more : (old mid new : HeapValue) (facts more : List FactValue) → TakesFacts old facts mid → TakesFacts mid more new
    → TakesFacts old (facts ++ more) new
takes_more old mid new facts more first second = record {
  ids = second.ids ∙ first.ids;
  millis = second.millis ∙ first.millis;
  facts = subst (SameFacts new.facts) (append_assoc old.facts facts more)
      (SameFacts-trans new.facts (mid.facts ++ more) ((old.facts ++ facts) ++ more) second.facts
      (SameFacts-append mid.facts more (old.facts ++ facts) more first.facts (SameFacts-refl more)));
  is_heap = second.is_heap;
}

-- the heap has taken some facts of the other, and those of these tables are still to come
pub record TakesSome (old other : HeapValue) (left : List Table) (now : HeapValue) : Type 0 where
  pub facts : List FactValue
  pub takes : TakesFacts old facts now
  pub parts : facts ++ tables_facts left other.facts ≡ other.facts

-- none so far
pub takes_none : (old other : HeapValue) (left : List Table) → IsHeap old → tables_facts left other.facts ≡ other.facts
    → TakesSome old other left old
takes_none old other left is all = record {
  facts = [];
  takes = record {
    ids = refl;
    millis = refl;
    facts = rw (append-nil old.facts) (SameFacts-refl old.facts);
    is_heap = is;
  };
  parts = all;
}

-- those of one more table
pub takes_next : (old other mid new : HeapValue) (table : Table) (left : List Table) → TakesSome old other (table ∷ left) mid
    → TakesFacts mid (facts_of_table table other.facts) new → TakesSome old other left new
takes_next old other mid new table left some next = record {
  facts = some.facts ++ facts_of_table table other.facts;
  takes = takes_more old mid new some.facts (facts_of_table table other.facts) some.takes next;
  parts = append_assoc some.facts (facts_of_table table other.facts) (tables_facts left other.facts) ∙ some.parts;
}

-- all of them
pub takes_all : (old other new : HeapValue) → TakesSome old other [] new → TakesFacts old other.facts new
takes_all old other new some =
    subst (λ (facts : List FactValue). TakesFacts old facts new) (sym (append-nil some.facts) ∙ some.parts) some.takes

module _ (old other : HeapValue) (one_size : old.ids ≡ other.ids) (agree : IsConsistent (old.facts ++ other.facts)) where
  -- the heap is between the first and that of both
  pub takes_between : (left : List Table) (now : HeapValue) → TakesSome old other left now → IsBetween old other now
  takes_between left now some = record {
    one_size = one_size;
    agree = agree;
    ids = some.takes.ids;
    millis = some.takes.millis;
    kept = λ fact has. (some.takes.facts fact).1 (Has-front old.facts some.facts fact has);
    from_both = λ fact has.
        Has-both old.facts some.facts (old.facts ++ other.facts) (Has-front old.facts other.facts)
        (λ f h. Has-back old.facts other.facts f
        (subst (λ (facts : List FactValue). Has facts f) some.parts (Has-front some.facts (tables_facts left other.facts) f h))) fact
        ((some.takes.facts fact).0 has);
    is_heap = some.takes.is_heap;
  }

  -- it still agrees with the other
  pub still_agree : (now : HeapValue) → IsBetween old other now → IsConsistent (now.facts ++ other.facts)
  still_agree now between =
      IsConsistent-same (old.facts ++ other.facts) (now.facts ++ other.facts)
      (SameFacts-sym (now.facts ++ other.facts) (old.facts ++ other.facts) (between_facts old other now between)) agree
