-- The facts of a small heap.
use Rattle.std.proofs.Common.{◌≡◌, ℕ, Bool, List, ◌++◌, inl, inr}
use Rattle.std.specs.Prelude.{◌≢◌}
use Rattle.hprof_values.specs.declared.ids.IdSize.{IdSize}
use Rattle.hprof_items.specs.FactValue.{FactValue}
use Rattle.hprof_rows.specs.declared.table.Table.{Table}
use Rattle.hprof_rows.specs.declared.table.Table.TheVariants as tables
use Rattle.hprof_rows.specs.Facts.{AllFit, Has, SameFacts}
use Rattle.hprof_rows.specs.Order.{IsCanonicalOrder}
use Rattle.hprof_rows.specs.Tables.{facts_of_table, number_of_table, stands_in}
use Rattle.hprof_rows.proofs.FactSets.{Has-back, Has-front, Has-parts}
use Rattle.hprof_rows.proofs.Order.{one_order}
use Rattle.hprof_rows.proofs.Picking.{IsPicked, picked, picked_is}
use Rattle.hprof_rows.proofs.ReadBack.{passed_ordered}
use Rattle.hprof_heap.specs.OtherFacts.{other_facts, other_tables}
use Rattle.hprof_passes.specs.Passing.{IsWhole, objects_among}
use Rattle.hprof_passes.specs.Picked.{is_wanted}
use Rattle.hprof_passes.proofs.Tables.{has_same}
use Rattle.hprof_small.specs.Small.{IsSmall, wanted_objects}
use Rattle.hprof_small.proofs.OtherFacts.{is_other_fact, no_object, of_tables}

-- whether a fact is an object
abbrev is_object : FactValue → Bool
is_object = stands_in (number_of_table tables.Objects)

-- an object that is wanted is one of the facts
wanted_is : (wanted : List ℕ) (all : List FactValue) (fact : FactValue) → Has (wanted_objects wanted all) fact
    → IsPicked is_object all fact
wanted_is wanted all fact has = picked_is is_object all fact (picked_is (is_wanted wanted) (objects_among all) fact has).has

-- the facts are all others than objects, and the objects that are wanted
module _ (ids : IdSize) (wanted : List ℕ) (facts all small : List FactValue) (whole : IsWhole ids facts all)
    (same : SameFacts small (other_facts facts ++ wanted_objects wanted all)) (ordered : IsCanonicalOrder small) where
  module _ (table : Table) (other : table ≢ tables.Objects) (fact : FactValue) where
    abbrev stands : FactValue → Bool
    stands = stands_in (number_of_table table)

    into_all : Has (facts_of_table table small) fact → Has (facts_of_table table all) fact
    into_all has =
        let is = picked_is stands small fact has in
        picked stands all fact (record {
          has = elim (Has-parts (other_facts facts) (wanted_objects wanted all) fact ((same fact).0 is.has)) [
            | inl here ↦ (has_same ids facts all whole table other fact is.passes).1 (of_tables other_tables facts fact here).has
            | inr object ↦ (wanted_is wanted all fact object).has
          ];
          passes = is.passes;
        })

    from_all : Has (facts_of_table table all) fact → Has (facts_of_table table small) fact
    from_all has =
        let is = picked_is stands all fact has in
        picked stands small fact (record {
          has = (same fact).1 (Has-front (other_facts facts) (wanted_objects wanted all) fact
              (is_other_fact table facts fact other is.passes ((has_same ids facts all whole table other fact is.passes).0 is.has)));
          passes = is.passes;
        })

  others_same : (table : Table) → table ≢ tables.Objects → facts_of_table table small ≡ facts_of_table table all
  others_same table other =
      one_order (facts_of_table table small) (facts_of_table table all)
      (passed_ordered (stands_in (number_of_table table)) small ordered)
      (passed_ordered (stands_in (number_of_table table)) all whole.ordered)
      (λ fact. (into_all table other fact, from_all table other fact))

  into_wanted : (fact : FactValue) → Has (objects_among small) fact → Has (wanted_objects wanted all) fact
  into_wanted fact has =
      let is = picked_is is_object small fact has in
      elim (Has-parts (other_facts facts) (wanted_objects wanted all) fact ((same fact).0 is.has)) [
        | inl here ↦ absurd (no_object facts fact is.passes here)
        | inr object ↦ object
      ]

  from_wanted : (fact : FactValue) → Has (wanted_objects wanted all) fact → Has (objects_among small) fact
  from_wanted fact has =
      picked is_object small fact (record {
        has = (same fact).1 (Has-back (other_facts facts) (wanted_objects wanted all) fact has);
        passes = (wanted_is wanted all fact has).passes;
      })

  objects_same : objects_among small ≡ wanted_objects wanted all
  objects_same =
      one_order (objects_among small) (wanted_objects wanted all) (passed_ordered is_object small ordered)
      (passed_ordered (is_wanted wanted) (objects_among all) (passed_ordered is_object all whole.ordered))
      (λ fact. (into_wanted fact, from_wanted fact))

  pub small_of : AllFit ids small → IsSmall ids wanted all small
  small_of fit = record {
    whole = record { others = others_same; fit = fit; ordered = ordered };
    objects = objects_same;
  }
