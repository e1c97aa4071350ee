-- The objects among facts in canonical order, and those of parts that state the same facts.
use Rattle.std.proofs.Common.{◌≡◌, ◌<◌, ℕ, List, [], ◌∷◌, ◌++◌, map, Option, Some, None, refl, sym, ap, ◌∙◌, inl, inr}
use Rattle.std.specs.List.{AllByRecursion}
use Rattle.std.proofs.lemmas.Bool.{cases_order}
use Rattle.hprof_values.specs.declared.ids.IdSize.{IdSize}
use Rattle.hprof_items.specs.FactValue.{FactValue}
use Rattle.hprof_rows.specs.declared.key.Key.TheVariants as keys
use Rattle.hprof_rows.specs.Facts.{SameFacts}
use Rattle.hprof_rows.specs.Order.{IsBefore, IsCanonicalOrder}
use Rattle.hprof_rows.proofs.FactSets.{All-has}
use Rattle.hprof_rows.proofs.Order.{IsBefore-asym, IsBefore-key}
use Rattle.hprof_heap.specs.Gathering.{Given, all_given}
use Rattle.hprof_merge.specs.Rows.{ByteRow, IsAscending}
use Rattle.hprof_merge.specs.Showing.{only}
use Rattle.hprof_merge.specs.Union.{IsUnion}
use Rattle.hprof_objects.specs.ObjectRows.{object_row, object_rows}
use Rattle.hprof_objects.specs.Whole.{rows_given}
use Rattle.hprof_objects.proofs.Whole.{fact_given, fact_of_row, given_row, row_of, row_of_fact}
use Rattle.hprof_objects.proofs.WholeHeap.{object_before}

-- an object that stands before another one has a lower identifier
lower_id : (ids : IdSize) (one other : FactValue) (row more : ByteRow) → object_row ids one ≡ Some row
    → object_row ids other ≡ Some more → IsBefore one other → row.0 < more.0
lower_id ids one other row more is is_too before = elim (cases_order row.0 more.0) [
  | inl same ↦ absurd (IsBefore-key one other (keys.Object row.0) before (row_of ids one row is).key
      ((row_of ids other more is_too).key ∙ ap (λ (id : ℕ). Some (keys.Object id)) (sym same)))
  | inr (inl less) ↦ less
  | inr (inr above) ↦ absurd (IsBefore-asym one other before (object_before ids other one more row is_too is above))
]

ascend_in_order : (ids : IdSize) (facts : List FactValue) → IsCanonicalOrder facts → IsAscending (object_rows ids facts)
ascend_in_order ids [] ordered = tt
ascend_in_order ids (fact ∷ facts) ordered = by_row (object_row ids fact) refl (ascend_in_order ids facts ordered.1)
  where
    by_row : (shown : Option ByteRow) → object_row ids fact ≡ shown → IsAscending (object_rows ids facts)
        → IsAscending (only shown ++ object_rows ids facts)
    by_row None e rest = rest
    by_row (Some row) e rest = (
      λ more has.
          let it = fact_of_row ids facts more has in
          lower_id ids fact it.fact row more e it.is (All-has (IsBefore fact) facts it.fact ordered.0 it.has),
      rest,
    )

pub objects_in_order : (parts : List Given) (ids : IdSize) (facts : List FactValue) → AllByRecursion (λ part. part.header.ids ≡ ids) parts
    → IsCanonicalOrder facts → SameFacts facts (all_given parts) → IsUnion (map rows_given parts) (object_rows ids facts)
objects_in_order parts ids facts sizes ordered same = record {
  ascends = ascend_in_order ids facts ordered;
  same = λ row. (
    (λ has.
        let it = fact_of_row ids facts row has in given_row ids parts it.fact row sizes ((same it.fact).0 it.has) it.is),
    (λ any.
        let it = fact_given ids parts row sizes any in row_of_fact ids facts it.fact row ((same it.fact).1 it.has) it.is),
  );
}
