-- A row for each class of a map, and then one for each type: they are of different kinds.
use Rattle.std.proofs.Common.{◌≡◌, ℕ, Bool, true, false, cond, List, [], ◌∷◌, ◌++◌, refl, rules}
use Rattle.std.specs.Prelude.{nat_eq}
use Rattle.std.specs.List.{AllByRecursion, IsDistinct, filter}
use Rattle.std.specs.Map.{keys_of}
use Rattle.hprof_values.specs.declared.basic.Basic.{Basic}
use Rattle.hprof_histogram.specs.declared.row.Kind.TheVariants.{Class}
use Rattle.hprof_histogram.specs.declared.row.Row.{Row}
use Rattle.hprof_histogram.specs.declared.counted.Counted.{Counted}
use Rattle.hprof_histogram.specs.Histogram.{same_kind}
use Rattle.hprof_histogram.specs.CountedKinds.{class_rows, element_types, has_objects, type_rows}
use Rattle.hprof_histogram.proofs.RowOrder.{same_row_kind}

-- all rows that there may be
abbrev pub candidates : List (ℕ × Counted) → List Counted → List Row
candidates entries types = class_rows entries ++ type_rows types element_types

-- what passes a test keeps what holds of each
pub all_filter : {X : Type 0} (P : X → Type 0) (test : X → Bool) (xs : List X) → AllByRecursion P xs → AllByRecursion P (filter test xs)
all_filter P test [] all = tt
all_filter P test (x ∷ xs) all = by_test (all_filter P test xs all.1) (test x) where
  by_test : AllByRecursion P (filter test xs) → (b : Bool) → AllByRecursion P (cond b (x ∷ filter test xs) (filter test xs))
  by_test rest true = (all.0, rest)
  by_test rest false = rest

distinct_filter : {X : Type 0} (same : X → X → Bool) (test : X → Bool) (xs : List X) → IsDistinct same xs → IsDistinct same (filter test xs)
unfolding IsDistinct
distinct_filter same test [] apart = tt
distinct_filter same test (x ∷ xs) apart = by_test (distinct_filter same test xs apart.1) (test x) where
  by_test : IsDistinct same (filter test xs) → (b : Bool) → IsDistinct same (cond b (x ∷ filter test xs) (filter test xs))
  by_test rest true = (all_filter (λ y. same x y ≡ false) test xs apart.0, rest)
  by_test rest false = rest

module _ (types : List Counted) where
  -- types are no classes
  types_apart : (class : ℕ) (elems : List Basic) → AllByRecursion (λ row. same_kind (Class class) row.kind ≡ false) (type_rows types elems)
  types_apart class [] = tt
  types_apart class (elem ∷ elems) = (refl, types_apart class elems)

  others_apart : (class : ℕ) (entries : List (ℕ × Counted)) → AllByRecursion (λ key. nat_eq class key ≡ false) (keys_of entries)
      → AllByRecursion (λ row. same_kind (Class class) row.kind ≡ false) (candidates entries types)
  others_apart class [] apart = types_apart class element_types
  others_apart class (entry ∷ entries) apart = (apart.0, others_apart class entries apart.1)

  types_distinct : IsDistinct same_row_kind (type_rows types element_types)
  unfolding IsDistinct
  types_distinct = search rules

  candidates_distinct : (entries : List (ℕ × Counted)) → IsDistinct nat_eq (keys_of entries)
      → IsDistinct same_row_kind (candidates entries types)
  unfolding IsDistinct
  candidates_distinct [] apart = types_distinct
  candidates_distinct (entry ∷ entries) apart = (others_apart entry.0 entries apart.0, candidates_distinct entries apart.1)

-- so those that have objects are of different kinds
pub rows_apart : (entries : List (ℕ × Counted)) (types : List Counted) → IsDistinct nat_eq (keys_of entries)
    → IsDistinct same_row_kind (filter has_objects (candidates entries types))
rows_apart entries types apart =
    distinct_filter same_row_kind has_objects (candidates entries types) (candidates_distinct types entries apart)
