-- What of rows goes to scratch is enough of them.
use Rattle.std.proofs.Common.{ℕ, List, [], ◌∷◌, inl, inr}
use Rattle.std.specs.List.Sorted.{IsPermutation}
use Rattle.hprof_merge.specs.Rows.{ByteRow, Has}
use Rattle.hprof_merge.specs.TwoContents.{HasEnoughOf, HasTwoContents}
use Rattle.hprof_merge.specs.Union.{AnyHas}
use Rattle.hprof_merge.proofs.Unions.{back_has, either_has, first_has, front_has}
use Rattle.hprof_runs.specs.Picked.{IsSortedByKey, firsts_of, others_of}
use Rattle.hprof_runs.specs.RunOf.{list_of, run_lists}
use Rattle.hprof_runs.proofs.Picked.{enough, reordered}
use Rattle.hprof_objects.specs.Enough.{HasTwo, IsEnough}

-- the lists have no row
nothing_has : (row : ByteRow) → AnyHas [] row → ⊥
nothing_has row (place, never) = never

-- a list alone has its rows
pub alone_has : (rows : List ByteRow) (row : ByteRow) → AnyHas (rows ∷ []) row → Has rows row
alone_has rows row (place, h) = elim (first_has rows [] row place h) [ inl here ↦ here | inr none ↦ absurd (nothing_has row none) ]

pub has_alone : (rows : List ByteRow) (row : ByteRow) → Has rows row → AnyHas (rows ∷ []) row
has_alone rows row h = (0, h)

list_has : (rows : List ByteRow) (row : ByteRow) → AnyHas (list_of rows) row → Has rows row
list_has [] row h = absurd (nothing_has row h)
list_has (first ∷ rows) row h = alone_has (first ∷ rows) row h

has_list : (rows : List ByteRow) (row : ByteRow) → Has rows row → AnyHas (list_of rows) row
has_list [] row h = absurd h
has_list (first ∷ rows) row h = has_alone (first ∷ rows) row h

-- the two lists have what the runs have
runs_have : (sorted : List ByteRow) (row : ByteRow) → AnyHas (firsts_of sorted ∷ others_of sorted ∷ []) row → AnyHas (run_lists sorted) row
runs_have sorted row (place, h) = elim (first_has (firsts_of sorted) (others_of sorted ∷ []) row place h) [
  | inl here ↦ let it = has_list (firsts_of sorted) row here in
      front_has (list_of (firsts_of sorted)) (list_of (others_of sorted)) row it.0 it.1
  | inr there ↦ back_has (list_of (firsts_of sorted)) (list_of (others_of sorted)) row
      (has_list (others_of sorted) row (alone_has (others_of sorted) row there))
]

have_runs : (sorted : List ByteRow) (row : ByteRow) → AnyHas (run_lists sorted) row → AnyHas (firsts_of sorted ∷ others_of sorted ∷ []) row
have_runs sorted row (place, h) = elim (either_has (list_of (firsts_of sorted)) (list_of (others_of sorted)) row place h) [
  | inl here ↦ (0, list_has (firsts_of sorted) row here)
  | inr there ↦ back_has (firsts_of sorted ∷ []) (others_of sorted ∷ []) row
      (has_alone (others_of sorted) row (list_has (others_of sorted) row there))
]

two_of : (sorted : List ByteRow) (key : ℕ) → HasTwoContents (firsts_of sorted ∷ others_of sorted ∷ []) key
    → HasTwo (AnyHas (run_lists sorted)) key
two_of sorted key two = record {
  one = two.one;
  other = two.other;
  has_one = runs_have sorted (key, two.one) two.has_one;
  has_other = runs_have sorted (key, two.other) two.has_other;
  differ = two.differ;
}

-- the runs of sorted rows are enough of the rows
pub enough_spilled : (rows sorted : List ByteRow) → IsPermutation rows sorted → IsSortedByKey sorted
    → IsEnough rows (AnyHas (run_lists sorted))
enough_spilled rows sorted moves up = record {
  only = λ row h. alone_has rows row ((reordered rows sorted moves row).1 (of.only row (have_runs sorted row h)));
  each = λ row h. elim (of.each row ((reordered rows sorted moves row).0 (has_alone rows row h))) [
    | inl kept ↦ inl (runs_have sorted row kept)
    | inr two ↦ inr (two_of sorted row.0 two)
  ];
}
  where
    of : HasEnoughOf (sorted ∷ []) (firsts_of sorted ∷ others_of sorted ∷ [])
    of = enough sorted up
