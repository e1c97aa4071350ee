-- What stored objects hold is enough, also without further rows of keys with two contents.
use Rattle.std.proofs.Common.{◌≢◌, ◌⊎◌, ℕ, zero, suc, List, [], ◌∷◌, ◌++◌, inl, inr}
use Rattle.std.specs.List.Sorted.{IsPermutation}
use Rattle.hprof_merge.specs.Rows.{ByteRow, Has}
use Rattle.hprof_merge.specs.TwoContents.{HasEnoughOf, HasTwoContents}
use Rattle.hprof_merge.specs.Union.{AnyHas, IsUnionBelow, rows_at}
use Rattle.hprof_merge.proofs.Lists.{one_at_key}
use Rattle.hprof_merge.proofs.Unions.{back_has, either_has, first_has, front_has}
use Rattle.hprof_runs.specs.Picked.{IsSortedByKey, firsts_of, others_of}
use Rattle.hprof_runs.proofs.Groups.{enough_both}
use Rattle.hprof_runs.proofs.Picked.{enough, reordered}
use Rattle.hprof_objects.specs.Enough.{IsEnough}
use Rattle.hprof_objects.specs.Log.{IsKept}
use Rattle.hprof_objects.specs.PartsRead.{PartRead, rows_of_part, rows_of_parts}
use Rattle.hprof_objects.specs.StoredObjects.{objects_of}
use Rattle.hprof_objects.proofs.Spilled.{alone_has, has_alone}

-- ---- the rows of all parts as one list, and part by part

has_either : (rows others : List ByteRow) (row : ByteRow) → Has (rows ++ others) row → Has rows row ⊎ Has others row
has_either [] others row has = inr has
has_either (first ∷ rows) others row (inl e) = inl (inl e)
has_either (first ∷ rows) others row (inr has) = elim (has_either rows others row has) [
  | inl there ↦ inl (inr there)
  | inr there ↦ inr there
]

has_front : (rows others : List ByteRow) (row : ByteRow) → Has rows row → Has (rows ++ others) row
has_front [] others row has = absurd has
has_front (first ∷ rows) others row (inl e) = inl e
has_front (first ∷ rows) others row (inr has) = inr (has_front rows others row has)

has_back : (rows others : List ByteRow) (row : ByteRow) → Has others row → Has (rows ++ others) row
has_back [] others row has = has
has_back (first ∷ rows) others row has = inr (has_back rows others row has)

any_of_parts : (parts : List PartRead) (row : ByteRow) → Has (rows_of_parts parts) row → AnyHas (objects_of parts) row
any_of_parts [] row has = absurd has
any_of_parts (part ∷ parts) row has = elim (has_either (rows_of_part part) (rows_of_parts parts) row has) [
  | inl here ↦ (0, here)
  | inr behind ↦ let there = any_of_parts parts row behind in (suc there.0, there.1)
]

parts_of_any : (parts : List PartRead) (row : ByteRow) (place : ℕ) → Has (rows_at (objects_of parts) place) row → Has
    (rows_of_parts parts) row
parts_of_any [] row place has = absurd has
parts_of_any (part ∷ parts) row zero has = has_front (rows_of_part part) (rows_of_parts parts) row has
parts_of_any (part ∷ parts) row (suc place) has =
    has_back (rows_of_part part) (rows_of_parts parts) row (parts_of_any parts row place has)

-- ---- what is kept, as lists

module _ (memory sorted : List ByteRow) (runs lists : List (List ByteRow)) (moves : IsPermutation memory sorted) where
  kept_in : (row : ByteRow) → IsKept memory runs lists [] row → AnyHas (sorted ∷ (runs ++ lists)) row
  kept_in row (inl here) = (0, alone_has sorted row ((reordered memory sorted moves row).0 (has_alone memory row here)))
  kept_in row (inr (inl there)) = let it = front_has runs lists row there.0 there.1 in (suc it.0, it.1)
  kept_in row (inr (inr (inl there))) = let it = back_has runs lists row there in (suc it.0, it.1)
  kept_in row (inr (inr (inr never))) = absurd never

  in_kept : (row : ByteRow) → AnyHas (sorted ∷ (runs ++ lists)) row → IsKept memory runs lists [] row
  in_kept row has = elim (first_has sorted (runs ++ lists) row has.0 has.1) [
    | inl here ↦ inl (alone_has memory row ((reordered memory sorted moves row).1 (has_alone sorted row here)))
    | inr behind ↦ elim (either_has runs lists row behind.0 behind.1) [
      | inl there ↦ inr (inl there)
      | inr there ↦ inr (inr (inl there))
    ]
  ]

  pub stored_enough : (parts : List PartRead) → IsEnough (rows_of_parts parts) (IsKept memory runs lists [])
      → HasEnoughOf (objects_of parts) (sorted ∷ (runs ++ lists))
  stored_enough parts kept = record {
    only = λ row has. any_of_parts parts row (kept.only row (in_kept row has));
    each = λ row has. elim (kept.each row (parts_of_any parts row has.0 has.1)) [
      | inl it ↦ inl (kept_in row it)
      | inr two ↦ inr (record {
        one = two.one;
        other = two.other;
        has_one = kept_in (row.0, two.one) two.has_one;
        has_other = kept_in (row.0, two.other) two.has_other;
        differ = two.differ;
      })
    ];
  }

-- ---- enough of enough

enough_itself : (lists : List (List ByteRow)) → HasEnoughOf lists lists
enough_itself lists = record { only = λ row has. has; each = λ row has. inl has }

module _ (lists mid others : List (List ByteRow)) (first : HasEnoughOf lists mid) (second : HasEnoughOf mid others) where
  two_of : (key : ℕ) (one other : List ℕ) → one ≢ other → AnyHas others (key, one) ⊎ HasTwoContents others key
      → AnyHas others (key, other) ⊎ HasTwoContents others key → HasTwoContents others key
  two_of key one other differ (inr two) more = two
  two_of key one other differ (inl has) (inr two) = two
  two_of key one other differ (inl has) (inl has_other) =
      record { one = one; other = other; has_one = has; has_other = has_other; differ = differ }

  enough_then : HasEnoughOf lists others
  enough_then = record {
    only = λ row has. first.only row (second.only row has);
    each = λ row has. elim (first.each row has) [
      | inl it ↦ second.each row it
      | inr two ↦ inr (two_of row.0 two.one two.other two.differ (second.each (row.0, two.one) two.has_one)
          (second.each (row.0, two.other) two.has_other))
    ];
  }

-- of the rows in memory the first ones and the others are enough
pub merged_enough : (lists : List (List ByteRow)) (sorted : List ByteRow) (rest : List (List ByteRow)) → IsSortedByKey sorted
    → HasEnoughOf lists (sorted ∷ rest) → HasEnoughOf lists (firsts_of sorted ∷ others_of sorted ∷ rest)
merged_enough lists sorted rest up first =
    enough_then lists (sorted ∷ rest) (firsts_of sorted ∷ others_of sorted ∷ rest) first
    (enough_both (sorted ∷ []) (firsts_of sorted ∷ others_of sorted ∷ []) rest rest (enough sorted up) (enough_itself rest))

-- what is enough has the same rows below a bound, if no key below it has two contents
pub enough_below : (lists others : List (List ByteRow)) → HasEnoughOf lists others → (bound : ℕ) (front : List ByteRow)
    → IsUnionBelow others bound front → IsUnionBelow lists bound front
enough_below lists others is bound front union = record {
  ascends = union.ascends;
  same = λ row. (
    (λ has. let there = (union.same row).0 has in (is.only row there.0, there.1)),
    (λ there. elim (is.each row there.0) [
      | inl it ↦ (union.same row).1 (it, there.1)
      | inr two ↦ absurd (two.differ (one_at_key front union.ascends row.0 two.one two.other
          ((union.same (row.0, two.one)).1 (two.has_one, there.1)) ((union.same (row.0, two.other)).1 (two.has_other, there.1))))
    ]),
  );
}
