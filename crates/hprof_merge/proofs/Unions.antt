-- Unions of lists, and keys with two contents.
use Rattle.std.proofs.Common.{◌≡◌, ◌<◌, ◌≤◌, ◌++◌, ◌⊎◌, ℕ, zero, suc, List, [], ◌∷◌, refl, sym, ap, subst, ◌∙◌, inl, inr, arith}
use Rattle.std.specs.Prelude.{◌↔◌}
use Rattle.std.specs.List.{Contains}
use Rattle.std.specs.List.Sorted.{IsPermutation}
use Rattle.std.proofs.lemmas.Bool.{cases_lt, cases_order}
use Rattle.std.proofs.lemmas.List.{get_or_default}
use Rattle.std.proofs.lemmas.List.Sorted.{Contains-permutation, IsPermutation-sym}
use Rattle.hprof_merge.specs.Rows.{ByteRow, Has, IsAscending}
use Rattle.hprof_merge.specs.Union.{rows_at, AnyHas, HaveSameRows, IsUnion, IsUnionBelow}
use Rattle.hprof_merge.specs.TwoContents.{HasTwoContents, HasEnoughOf, IsLeastWithTwoContents}
use Rattle.hprof_merge.proofs.Lists.{place_of_row, one_at_key}

-- ---- two lists with the same rows

not_before : (first : ByteRow) (rest : List ByteRow) → IsAscending (first ∷ rest) → (other : ByteRow) → Has (first ∷ rest) other
    → (other ≡ first) ⊎ (first.0 < other.0)
not_before first rest up other (inl same) = inl same
not_before first rest up other (inr has) = inr (up.0 other has)

-- two ascending lists with the same rows have the same first row
same_top : (first : ByteRow) (rest : List ByteRow) (other : ByteRow) (others : List ByteRow) → IsAscending (first ∷ rest)
    → IsAscending (other ∷ others)
    → ((row : ByteRow) → Has (first ∷ rest) row ↔ Has (other ∷ others) row) → first ≡ other
same_top first rest other others up more same =
    elim (not_before other others more first ((same first).0 (inl refl))) [
      | inl e ↦ e
      | inr lt ↦ elim (not_before first rest up other ((same other).1 (inl refl))) [
        | inl e ↦ sym e
        | inr gt ↦ absurd (omega arith)
      ]
    ]

-- without it they have the same rows
same_behind : (first : ByteRow) (rest others : List ByteRow) → IsAscending (first ∷ rest)
    → ((row : ByteRow) → Has (first ∷ rest) row → Has (first ∷ others) row) → (row : ByteRow) → Has rest row → Has others row
same_behind first rest others up same row has = elim (same row (inr has)) [
  | inl e ↦ let lt = up.0 row has in let f : row.0 ≡ first.0 = ap (λ (r : ByteRow). r.0) e in absurd (omega arith)
  | inr there ↦ there
]

-- so they are one
pub same_rows : (rows others : List ByteRow) → IsAscending rows → IsAscending others → ((row : ByteRow) → Has rows row ↔ Has others row)
    → rows
    ≡ others
same_rows [] [] up more same = refl
same_rows [] (other ∷ others) up more same = absurd ((same other).1 (inl refl))
same_rows (first ∷ rest) [] up more same = absurd ((same first).0 (inl refl))
same_rows (first ∷ rest) (other ∷ others) up more same =
    let top : first ≡ other = same_top first rest other others up more same in
    let P : ByteRow → Type 0 = λ r. (row : ByteRow) → Has (first ∷ rest) row ↔ Has (r ∷ others) row in
    let Q : ByteRow → Type 0 = λ r. IsAscending (r ∷ others) in
    let both : (row : ByteRow) → Has (first ∷ rest) row ↔ Has (first ∷ others) row = subst P (sym top) same in
    let up_others : IsAscending (first ∷ others) = subst Q (sym top) more in
    let behind : rest ≡ others =
    same_rows rest others up.1 more.1 (λ row. (
      same_behind first rest others up (λ r. (both r).0) row,
      same_behind first others rest up_others (λ r. (both r).1) row,
    )) in
    ap (λ (r : ByteRow). r ∷ rest) top ∙ ap (λ (l : List ByteRow). other ∷ l) behind

pub union_unique : (lists : List (List ByteRow)) (all others : List ByteRow) → IsUnion lists all → IsUnion lists others → all ≡ others
union_unique lists all others one other =
    same_rows all others one.ascends other.ascends (λ row. (
      (λ has. (other.same row).1 ((one.same row).0 has)),
      (λ has. (one.same row).1 ((other.same row).0 has)),
    ))

pub union_below_unique : (lists : List (List ByteRow)) (bound : ℕ) (front others : List ByteRow) → IsUnionBelow lists bound front
    → IsUnionBelow lists bound others → front ≡ others
union_below_unique lists bound front others one other =
    same_rows front others one.ascends other.ascends (λ row. (
      (λ has. (other.same row).1 ((one.same row).0 has)),
      (λ has. (one.same row).1 ((other.same row).0 has)),
    ))

-- ---- a front

-- the rows of an ascending list that are below a bound, before all others
pub record IsCut (bound : ℕ) (all front rest : List ByteRow) : Type 0 where
  pub ascends : IsAscending front
  pub is : all ≡ front ++ rest
  pub same : (row : ByteRow) → Has front row ↔ (Has all row × (row.0 < bound))

cut_at : (bound : ℕ) (all : List ByteRow) → IsAscending all → (front rest : List ByteRow) × IsCut bound all front rest
cut_at bound [] up = ([], [], record { ascends = tt; is = refl; same = λ row. ((λ none. absurd none), (λ both. both.0)) })
cut_at bound (first ∷ all) up = elim (cases_lt first.0 bound) [
  | inl lt ↦
      let cut = cut_at bound all up.1 in (
        first ∷ cut.0,
        cut.1,
        record {
          ascends = ((λ row has. up.0 row ((cut.2.same row).0 has).0), cut.2.ascends);
          is = ap (λ (l : List ByteRow). first ∷ l) cut.2.is;
          same = λ row. (
            (λ has. elim has [
              | inl e ↦ let P : ByteRow → Type 0 = λ r. r.0 < bound in (inl e, subst P (sym e) lt)
              | inr there ↦ (inr ((cut.2.same row).0 there).0, ((cut.2.same row).0 there).1)
            ]),
            (λ both. elim both.0 [
              | inl e ↦ inl e
              | inr there ↦ inr ((cut.2.same row).1 (there, both.1))
            ]),
          );
        },
      )
  | inr le ↦ (
    [],
    first ∷ all,
    record {
      ascends = tt;
      is = refl;
      same = λ row. (
        (λ none. absurd none),
        (λ both. let lt = both.1 in elim both.0 [
          | inl e ↦ let f : row.0 ≡ first.0 = ap (λ (r : ByteRow). r.0) e in absurd (omega arith)
          | inr there ↦ let more = up.0 row there in absurd (omega arith)
        ]),
      );
    },
  )
]

pub union_front : (lists : List (List ByteRow)) (bound : ℕ) (front all : List ByteRow) → IsUnionBelow lists bound front → IsUnion lists all
    → ((rest : List ByteRow) × (all ≡ front ++ rest))
union_front lists bound front all below union =
    let cut = cut_at bound all union.ascends in
    let one : IsUnionBelow lists bound cut.0 = record {
      ascends = cut.2.ascends;
      same = λ row. (
        (λ has. let both = (cut.2.same row).0 has in ((union.same row).0 both.0, both.1)),
        (λ both. (cut.2.same row).1 ((union.same row).1 both.0, both.1)),
      );
    } in
    (cut.1, cut.2.is ∙ ap (λ (l : List ByteRow). l ++ cut.1) (union_below_unique lists bound cut.0 front one below))

-- ---- lists that have the same rows

pub turned : (lists others : List (List ByteRow)) → HaveSameRows lists others → HaveSameRows others lists
turned lists others same row = ((same row).1, (same row).0)

pub union_same : (lists others : List (List ByteRow)) → HaveSameRows lists others → (all : List ByteRow) → IsUnion lists all
    → IsUnion others all
union_same lists others same all union = record {
  ascends = union.ascends;
  same = λ row. ((λ has. (same row).0 ((union.same row).0 has)), (λ has. (union.same row).1 ((same row).1 has)));
}

pub contents_same : (lists others : List (List ByteRow)) → HaveSameRows lists others → (key : ℕ) → HasTwoContents lists key
    → HasTwoContents others key
contents_same lists others same key contents = record {
  one = contents.one;
  other = contents.other;
  has_one = (same (key, contents.one)).0 contents.has_one;
  has_other = (same (key, contents.other)).0 contents.has_other;
  differ = contents.differ;
}

pub least_same : (lists others : List (List ByteRow)) → HaveSameRows lists others → (key : ℕ) → IsLeastWithTwoContents lists key
    → IsLeastWithTwoContents others key
least_same lists others same key least = record {
  contents = contents_same lists others same key least.contents;
  least = λ lower lt contents. least.least lower lt (contents_same others lists (turned lists others same) lower contents);
}

-- ---- in another order

moved : (lists others : List (List ByteRow)) → IsPermutation lists others → (row : ByteRow) → AnyHas lists row → AnyHas others row
moved lists others moves row has =
    let rows : List ByteRow = rows_at lists has.0 in
    let lt = place_of_row lists has.0 row has.1 in
    let there : Contains lists rows = (has.0, lt, get_or_default lists has.0 rows [] lt) in
    let found = Contains-permutation lists others rows moves there in
    let P : List ByteRow → Type 0 = λ l. Has l row in
    (found.0, subst P (sym (get_or_default others found.0 [] rows found.1 ∙ found.2)) has.1)

pub permuted : (lists others : List (List ByteRow)) → IsPermutation lists others → HaveSameRows lists others
permuted lists others moves row = (moved lists others moves row, moved others lists (IsPermutation-sym lists others moves) row)

-- ---- in groups

-- a row of lists behind others is in either
pub either_has : (lists rest : List (List ByteRow)) (row : ByteRow) (place : ℕ) → Has (rows_at (lists ++ rest) place) row → AnyHas lists row
    ⊎ AnyHas rest row
either_has [] rest row place has = inr (place, has)
either_has (rows ∷ lists) rest row zero has = inl (0, has)
either_has (rows ∷ lists) rest row (suc place) has = elim (either_has lists rest row place has) [
  | inl there ↦ inl (suc there.0, there.1)
  | inr there ↦ inr there
]

pub front_has : (lists rest : List (List ByteRow)) (row : ByteRow) (place : ℕ) → Has (rows_at lists place) row → AnyHas (lists ++ rest) row
front_has [] rest row place has = absurd has
front_has (rows ∷ lists) rest row zero has = (0, has)
front_has (rows ∷ lists) rest row (suc place) has = let there = front_has lists rest row place has in (suc there.0, there.1)

pub back_has : (lists rest : List (List ByteRow)) (row : ByteRow) → AnyHas rest row → AnyHas (lists ++ rest) row
back_has [] rest row has = has
back_has (rows ∷ lists) rest row has = let there = back_has lists rest row has in (suc there.0, there.1)

pub first_has : (one : List ByteRow) (rest : List (List ByteRow)) (row : ByteRow) (place : ℕ) → Has (rows_at (one ∷ rest) place) row
    → Has one row
    ⊎ AnyHas rest row
first_has one rest row zero has = inl has
first_has one rest row (suc place) has = inr (place, has)

pub grouped : (lists rest : List (List ByteRow)) (one : List ByteRow) → IsUnion lists one → HaveSameRows (one ∷ rest) (lists ++ rest)
grouped lists rest one union row = (
  (λ has. elim (first_has one rest row has.0 has.1) [
    | inl there ↦ let found = (union.same row).0 there in front_has lists rest row found.0 found.1
    | inr there ↦ back_has lists rest row there
  ]),
  (λ has. elim (either_has lists rest row has.0 has.1) [
    | inl there ↦ (0, (union.same row).1 there)
    | inr there ↦ (suc there.0, there.1)
  ]),
)

-- ---- a union or a contents

pub union_apart : (lists : List (List ByteRow)) (all : List ByteRow) (key : ℕ) → IsUnion lists all → HasTwoContents lists key → ⊥
union_apart lists all key union contents =
    contents.differ (
    one_at_key all union.ascends key contents.one contents.other ((union.same (key, contents.one)).1 contents.has_one)
    ((union.same (key, contents.other)).1 contents.has_other)
    )

pub one_least : (lists : List (List ByteRow)) (key other : ℕ) → IsLeastWithTwoContents lists key → IsLeastWithTwoContents lists other → key
    ≡ other
one_least lists key other least other_least = elim (cases_order key other) [
  | inl e ↦ e
  | inr apart ↦ elim apart [
    | inl lt ↦ absurd (other_least.least key lt least.contents)
    | inr gt ↦ absurd (least.least other gt other_least.contents)
  ]
]

-- ---- a contents in a group

pub group_at_most : (lists rest : List (List ByteRow)) (key least : ℕ) → HasTwoContents lists key
    → IsLeastWithTwoContents (lists ++ rest) least → least ≤ key
group_at_most lists rest key least contents is = elim (cases_lt key least) [
  | inr le ↦ le
  | inl lt ↦ absurd (is.least key lt (record {
    one = contents.one;
    other = contents.other;
    has_one = front_has lists rest (key, contents.one) contents.has_one.0 contents.has_one.1;
    has_other = front_has lists rest (key, contents.other) contents.has_other.0 contents.has_other.1;
    differ = contents.differ;
  }))
]

-- a row below the bound is in the front or the rest exactly if it is in the lists or the rest
below_same : (lists rest : List (List ByteRow)) (bound : ℕ) (front : List ByteRow) → IsUnionBelow lists bound front → (row : ByteRow)
    → row.0 < bound
    → AnyHas (front ∷ rest) row ↔ AnyHas (lists ++ rest) row
below_same lists rest bound front union row lt = (
  (λ has. elim (first_has front rest row has.0 has.1) [
    | inl there ↦ let found = ((union.same row).0 there).0 in front_has lists rest row found.0 found.1
    | inr there ↦ back_has lists rest row there
  ]),
  (λ has. elim (either_has lists rest row has.0 has.1) [
    | inl there ↦ (0, (union.same row).1 (there, lt))
    | inr there ↦ (suc there.0, there.1)
  ]),
)

pub group_below : (lists rest : List (List ByteRow)) (bound lower : ℕ) (front : List ByteRow) → IsUnionBelow lists bound front
    → lower < bound
    → HasTwoContents (front ∷ rest) lower ↔ HasTwoContents (lists ++ rest) lower
group_below lists rest bound lower front union lt = (
  (λ contents. record {
    one = contents.one;
    other = contents.other;
    has_one = (below_same lists rest bound front union (lower, contents.one) lt).0 contents.has_one;
    has_other = (below_same lists rest bound front union (lower, contents.other) lt).0 contents.has_other;
    differ = contents.differ;
  }),
  (λ contents. record {
    one = contents.one;
    other = contents.other;
    has_one = (below_same lists rest bound front union (lower, contents.one) lt).1 contents.has_one;
    has_other = (below_same lists rest bound front union (lower, contents.other) lt).1 contents.has_other;
    differ = contents.differ;
  }),
)

-- ---- later rows

-- rows that the lists have already, or that are above the key, change nothing
pub later_rows : (lists more : List (List ByteRow)) (key : ℕ) → ((row : ByteRow) → AnyHas more row → AnyHas lists row ⊎ (key < row.0))
    → IsLeastWithTwoContents lists key → IsLeastWithTwoContents (lists ++ more) key
later_rows lists more key later least = record {
  contents = record {
    one = least.contents.one;
    other = least.contents.other;
    has_one = front_has lists more (key, least.contents.one) least.contents.has_one.0 least.contents.has_one.1;
    has_other = front_has lists more (key, least.contents.other) least.contents.has_other.0 least.contents.has_other.1;
    differ = least.contents.differ;
  };
  least = λ lower lt contents. least.least lower lt (record {
    one = contents.one;
    other = contents.other;
    has_one = before lower contents.one lt contents.has_one;
    has_other = before lower contents.other lt contents.has_other;
    differ = contents.differ;
  });
}
  where
    before : (lower : ℕ) (bytes : List ℕ) → lower < key → AnyHas (lists ++ more) (lower, bytes) → AnyHas lists (lower, bytes)
    before lower bytes lt has = elim (either_has lists more (lower, bytes) has.0 has.1) [
      | inl there ↦ there
      | inr behind ↦ elim (later (lower, bytes) behind) [
        | inl there ↦ there
        | inr gt ↦ absurd (omega arith)
      ]
    ]

-- ---- two contents are enough

module _ (lists others : List (List ByteRow)) (enough : HasEnoughOf lists others) where
  enough_more : (key : ℕ) → HasTwoContents others key → HasTwoContents lists key
  enough_more key contents = record {
    one = contents.one;
    other = contents.other;
    has_one = enough.only (key, contents.one) contents.has_one;
    has_other = enough.only (key, contents.other) contents.has_other;
    differ = contents.differ;
  }

  enough_fewer : (key : ℕ) → HasTwoContents lists key → HasTwoContents others key
  enough_fewer key contents = elim (enough.each (key, contents.one) contents.has_one) [
    | inr two ↦ two
    | inl one ↦ elim (enough.each (key, contents.other) contents.has_other) [
      | inr two ↦ two
      | inl other ↦ record {
        one = contents.one;
        other = contents.other;
        has_one = one;
        has_other = other;
        differ = contents.differ;
      }
    ]
  ]

  pub enough_union : (all : List ByteRow) → IsUnion lists all ↔ IsUnion others all
  enough_union all = (
    (λ union. record {
      ascends = union.ascends;
      same = λ row. (
        (λ has.
            let there = (union.same row).0 has in
            elim (enough.each row there) [
              | inl it ↦ it
              | inr two ↦ absurd (union_apart lists all row.0 union (enough_more row.0 two))
            ]),
        (λ has. (union.same row).1 (enough.only row has)),
      );
    }),
    (λ union. record {
      ascends = union.ascends;
      same = λ row. (
        (λ has. enough.only row ((union.same row).0 has)),
        (λ has. elim (enough.each row has) [
          | inl it ↦ (union.same row).1 it
          | inr two ↦ absurd (union_apart others all row.0 union two)
        ]),
      );
    }),
  )

  pub enough_least : (key : ℕ) → IsLeastWithTwoContents lists key ↔ IsLeastWithTwoContents others key
  enough_least key = (
    (λ least. record {
      contents = enough_fewer key least.contents;
      least = λ lower lt contents. least.least lower lt (enough_more lower contents);
    }),
    (λ least. record {
      contents = enough_more key least.contents;
      least = λ lower lt contents. least.least lower lt (enough_fewer lower contents);
    }),
  )
