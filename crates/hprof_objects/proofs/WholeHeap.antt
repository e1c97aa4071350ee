-- The heap of parts, of the heap without objects and of the objects; and the conflicts of objects.
use Rattle.std.proofs.Common.{◌≡◌, ◌≢◌, ◌⊎◌, ◌<◌, ◌≤◌, ℕ, Bool, true, false, List, [], ◌∷◌, ◌++◌, map, Some, Ok, Err}
use Rattle.std.proofs.Common.{refl, sym, subst, ap, ◌∙◌, inl, inr, arith}
use Rattle.std.proofs.lemmas.Bool.{cases_lt}
use Rattle.hprof_heap.proofs.Least.{no_least}
use Rattle.std.specs.Prelude.{IsTrue}
use Rattle.std.specs.List.{AllByRecursion}
use Rattle.std.specs.Ordering.{nat_cmp}
use Rattle.hprof_values.specs.declared.ids.IdSize.{IdSize}
use Rattle.hprof_values.specs.declared.ids.IdSize.TheVariants.{Four}
use Rattle.hprof_items.specs.FactValue.{FactValue}
use Rattle.hprof_items.specs.Spelling.{Fits}
use Rattle.hprof_items.specs.SubRecord.{dump_bytes}
use Rattle.hprof_rows.specs.Facts as sets
use Rattle.hprof_rows.specs.Conflict.{HasConflict, IsConsistent, IsLeastConflict}
use Rattle.hprof_rows.specs.HeapValue.{HeapValue, IsHeap}
use Rattle.hprof_rows.specs.Key.{key_le, key_of, number_of, rank_of}
use Rattle.hprof_rows.specs.declared.key.Key.{Key}
use Rattle.hprof_rows.specs.declared.key.Key.TheVariants as keys
use Rattle.hprof_rows.specs.Order.{IsBefore, IsCanonicalOrder}
use Rattle.hprof_rows.proofs.FactSets.{All-from_has, All-has, Has-parts, Has-front, Has-back}
use Rattle.hprof_rows.proofs.Keys.{true-key_le}
use Rattle.hprof_heap.specs.declared.standing.Refusal.{Refusal}
use Rattle.hprof_heap.specs.declared.standing.Refusal.TheVariants as refusals
use Rattle.hprof_heap.specs.Gathering.{Given, Tells, all_given}
use Rattle.hprof_heap.specs.State.{IsLeastOf}
use Rattle.hprof_merge.specs.Rows.{ByteRow, Has, IsAscending}
use Rattle.hprof_merge.specs.TwoContents.{HasTwoContents, IsLeastWithTwoContents}
use Rattle.hprof_merge.specs.Union.{AnyHas, IsUnion}
use Rattle.hprof_merge.proofs.Lists.{one_at_key}
use Rattle.hprof_objects.specs.ObjectRows.{object_row}
use Rattle.hprof_objects.specs.Whole.{AreObjects, FitGiven, is_object, rows_given, with_objects, without_objects}
use Rattle.hprof_objects.proofs.Whole.{IsFactOf, fact_given, given_others, given_row, has_row, one_object, other_fact, others_given}
use Rattle.hprof_objects.proofs.Whole.{row_again}
use Rattle.hprof_objects.proofs.Whole.{row_of}

-- a fact of the parts has a spelling
pub fits_given : (ids : IdSize) (parts : List Given) (fact : FactValue) → AllByRecursion (λ part. part.header.ids ≡ ids) parts → FitGiven
    parts
    → sets.Has (all_given parts) fact → Fits ids fact
fits_given ids [] fact same fit h = absurd h
fits_given ids (part ∷ parts) fact same fit h = elim (Has-parts part.facts (all_given parts) fact h) [
  | inl front ↦ subst (λ (i : IdSize). Fits i fact) same.0 (fit.0 fact front)
  | inr back ↦ fits_given ids parts fact same.1 fit.1 back
]

-- ---- objects of rows

-- rows of facts are those of objects
objects_from : (ids : IdSize) (facts : List FactValue) (rows : List ByteRow) → ((row : ByteRow) → Has rows row → IsFactOf ids facts row)
    → ((fact : FactValue) → sets.Has facts fact → Fits ids fact) → (objects : List FactValue) × AreObjects ids rows objects
objects_from ids facts [] of_facts fit = ([], tt)
objects_from ids facts (row ∷ rows) of_facts fit =
    let first = of_facts row (inl refl) in
    let rest = objects_from ids facts rows (λ other h. of_facts other (inr h)) fit in
    (first.fact ∷ rest.0, (fit first.fact first.has, first.is, rest.1))

-- each row has its object
object_of : (ids : IdSize) (rows : List ByteRow) (objects : List FactValue) (row : ByteRow) → AreObjects ids rows objects → Has rows row
    → IsFactOf ids objects row
object_of ids [] [] row are h = absurd h
object_of ids [] (fact ∷ facts) row are h = absurd h
object_of ids (first ∷ rows) [] row are h = absurd are
object_of ids (first ∷ rows) (fact ∷ facts) row are (inl same) =
    record { fact = fact; has = inl refl; is = are.1 ∙ ap Some (sym same) }
object_of ids (first ∷ rows) (fact ∷ facts) row are (inr h) =
    let it = object_of ids rows facts row are.2 h in record { fact = it.fact; has = inr it.has; is = it.is }

-- the row of an object
record IsObjectIn (ids : IdSize) (rows : List ByteRow) (fact : FactValue) : Type 0 where
  pub row : ByteRow
  pub has : Has rows row
  pub is : object_row ids fact ≡ Some row
  pub fits : Fits ids fact

row_of_object : (ids : IdSize) (rows : List ByteRow) (objects : List FactValue) (fact : FactValue) → AreObjects ids rows objects
    → sets.Has objects fact → IsObjectIn ids rows fact
row_of_object ids [] [] fact are h = absurd h
row_of_object ids [] (first ∷ facts) fact are h = absurd are
row_of_object ids (row ∷ rows) [] fact are h = absurd h
row_of_object ids (row ∷ rows) (first ∷ facts) fact are (inl same) = record {
  row = row;
  has = inl refl;
  is = ap (object_row ids) same ∙ are.1;
  fits = subst (λ (f : FactValue). Fits ids f) (sym same) are.0;
}
row_of_object ids (row ∷ rows) (first ∷ facts) fact are (inr h) =
    let it = row_of_object ids rows facts fact are.2 h in record { row = it.row; has = inr it.has; is = it.is; fits = it.fits }

-- ---- the order

-- an object stands before one of a higher identifier
pub object_before : (ids : IdSize) (one other : FactValue) (row more : ByteRow) → object_row ids one ≡ Some row
    → object_row ids other ≡ Some more → row.0 < more.0 → IsBefore one other
object_before ids one other row more is is_too less =
    let a = (row_of ids one row is).order in
    let b = (row_of ids other more is_too).order in
    rw (a, b) (grind (arith, nat_cmp))

-- objects of ascending rows are in canonical order
objects_ordered : (ids : IdSize) (rows : List ByteRow) (objects : List FactValue) → IsAscending rows → AreObjects ids rows objects
    → IsCanonicalOrder objects
objects_ordered ids [] [] up are = tt
objects_ordered ids [] (fact ∷ facts) up are = absurd are
objects_ordered ids (row ∷ rows) [] up are = tt
objects_ordered ids (row ∷ rows) (fact ∷ facts) up are = (
  All-from_has (IsBefore fact) facts (λ other h. let it = row_of_object ids rows facts other are.2 h in
      object_before ids fact other row it.row are.1 it.is (up.0 it.row it.has)),
  objects_ordered ids rows facts up.1 are.2,
)

-- facts in order, and behind them others in order
behind_ordered : (facts others : List FactValue) → IsCanonicalOrder facts → IsCanonicalOrder others
    → ((fact other : FactValue) → sets.Has facts fact → sets.Has others other → IsBefore fact other) → IsCanonicalOrder (facts ++ others)
behind_ordered [] others ordered behind before = behind
behind_ordered (fact ∷ facts) others ordered behind before = (
  All-from_has (IsBefore fact) (facts ++ others) (λ other h. elim (Has-parts facts others other h) [
    | inl front ↦ All-has (IsBefore fact) facts other ordered.0 front
    | inr back ↦ before fact other (inl refl) back
  ]),
  behind_ordered facts others ordered.1 behind (λ one other h. before one other (inr h)),
)

-- ---- parts without their objects

same_ids : (ids : IdSize) (parts : List Given) → AllByRecursion (λ part. part.header.ids ≡ ids) (map without_objects parts)
    → AllByRecursion (λ part. part.header.ids ≡ ids) parts
same_ids ids [] all = tt
same_ids ids (part ∷ parts) all = (all.0, same_ids ids parts all.1)

ids_same : (ids : IdSize) (parts : List Given) → AllByRecursion (λ part. part.header.ids ≡ ids) parts
    → AllByRecursion (λ part. part.header.ids ≡ ids) (map without_objects parts)
ids_same ids [] all = tt
ids_same ids (part ∷ parts) all = (all.0, ids_same ids parts all.1)

same_times : (parts : List Given) → map (λ part. part.header.millis) (map without_objects parts) ≡ map (λ part. part.header.millis) parts
same_times [] = refl
same_times (part ∷ parts) = ap (λ (times : List ℕ). part.header.millis ∷ times) (same_times parts)

no_parts : (parts : List Given) → map without_objects parts ≡ [] → parts ≡ []
no_parts [] e = refl
no_parts (part ∷ parts) e = absurd cc

some_parts : (parts : List Given) → map without_objects parts ≢ [] → parts ≢ []
some_parts parts some e = some (ap (map without_objects) e)

is_object_or : (fact : FactValue) → (is_object fact ≡ true) ⊎ (is_object fact ≡ false)
is_object_or fact = by (is_object fact) refl
  where
    by : (t : Bool) → is_object fact ≡ t → (is_object fact ≡ true) ⊎ (is_object fact ≡ false)
    by true e = inl e
    by false e = inr e

-- the key of an object is no key of another fact
apart : (ids : IdSize) (one other : FactValue) (key : Key) → is_object one ≡ true → is_object other ≡ false → key_of one ≡ Some key
    → key_of other ≡ Some key → ⊥
apart ids one other key is not_is e f =
    let row = has_row ids one is in
    let known = (row_of ids one row.0 row.1).key in
    let low = (other_fact other not_is).less key f in
    let same : keys.Object row.0.0 ≡ key = cc in
    let rank : rank_of (keys.Object row.0.0) ≡ rank_of key = ap rank_of same in
    absurd (omega (arith, low, rank))

-- objects with one key, of which one row is kept for each key, are one
one_by_key : (ids : IdSize) (all : List ByteRow) (one other : FactValue) (row more : ByteRow) → IsAscending all
    → object_row ids one ≡ Some row → object_row ids other ≡ Some more → Fits ids one → Fits ids other → Has all row → Has all more
    → row.0 ≡ more.0 → one ≡ other
one_by_key ids all one other row more up is is_too fits fits_too has has_more same =
    let bytes : row.1 ≡ more.1 =
    one_at_key all up row.0 row.1 more.1 has (subst (λ (k : ℕ). Has all (k, more.1)) (sym same) has_more) in
    let rows : row ≡ more = ap (λ (k : ℕ). (k, row.1)) same ∙ ap (λ (b : List ℕ). (more.0, b)) bytes in
    one_object ids one other more (is ∙ ap Some rows) is_too fits fits_too

-- the keys of two objects are one
one_key : (ids : IdSize) (one other : FactValue) (row more : ByteRow) (key : Key) → object_row ids one ≡ Some row
    → object_row ids other ≡ Some more → key_of one ≡ Some key → key_of other ≡ Some key → row.0 ≡ more.0
one_key ids one other row more key is is_too e f =
    let a = (row_of ids one row is).key in
    let b = (row_of ids other more is_too).key in
    let same : keys.Object row.0 ≡ keys.Object more.0 = cc in
    ap number_of same

-- ---- the heap

module _ (parts : List Given) (heap : HeapValue) (told : Tells (map without_objects parts) (Ok heap)) (fit : FitGiven parts) where
  abbrev all : List FactValue
  all = all_given parts

  same_size : AllByRecursion (λ part. part.header.ids ≡ heap.ids) parts
  same_size = same_ids heap.ids parts told.0

  fits : (fact : FactValue) → sets.Has all fact → Fits heap.ids fact
  fits fact h = fits_given heap.ids parts fact same_size fit h

  -- two facts of one key that are no objects are one
  others_agree : (key : Key) (one other : FactValue) → sets.Has all one → sets.Has all other → is_object one ≡ false
      → is_object other ≡ false → key_of one ≡ Some key → key_of other ≡ Some key → one ≡ other
  others_agree key one other h h_too a b e f =
      told.2 key one other (given_others parts one h a) (given_others parts other h_too b) e f

  module _ (rows : List ByteRow) (objects : List FactValue) (union : IsUnion (map rows_given parts) rows)
      (are : AreObjects heap.ids rows objects) where
    -- an object of the parts, and its row
    object_given : (fact : FactValue) → sets.Has all fact → is_object fact ≡ true
        → (row : ByteRow) × (object_row heap.ids fact ≡ Some row) × Has rows row
    object_given fact h is =
        let row = has_row heap.ids fact is in
        (row.0, row.1, (union.same row.0).1 (given_row heap.ids parts fact row.0 same_size h row.1))

    agree : IsConsistent all
    agree key one other h h_too e f = elim (is_object_or one) [
      | inl is ↦ elim (is_object_or other) [
        | inl is_too ↦ let a = object_given one h is in let b = object_given other h_too is_too in
            one_by_key heap.ids rows one other a.0 b.0 union.ascends a.1 b.1 (fits one h) (fits other h_too) a.2 b.2
            (one_key heap.ids one other a.0 b.0 key a.1 b.1 e f)
        | inr not_is ↦ absurd (apart heap.ids one other key is not_is e f)
      ]
      | inr not_is ↦ elim (is_object_or other) [
        | inl is_too ↦ absurd (apart heap.ids other one key is_too not_is f e)
        | inr not_too ↦ others_agree key one other h h_too not_is not_too e f
      ]
    ]

    -- an object of the rows is one of the parts
    from_objects : (fact : FactValue) → sets.Has objects fact → sets.Has all fact
    from_objects fact h =
        let it = row_of_object heap.ids rows objects fact are h in
        let given = fact_given heap.ids parts it.row same_size ((union.same it.row).0 it.has) in
        let same : fact ≡ given.fact =
        one_object heap.ids fact given.fact it.row it.is given.is it.fits (fits given.fact given.has) in
        subst (λ (f : FactValue). sets.Has all f) (sym same) given.has

    to_objects : (fact : FactValue) → sets.Has all fact → is_object fact ≡ true → sets.Has objects fact
    to_objects fact h is =
        let row = object_given fact h is in
        let it = object_of heap.ids rows objects row.0 are row.2 in
        let known = row_of_object heap.ids rows objects it.fact are it.has in
        let same : it.fact ≡ fact = one_object heap.ids it.fact fact row.0 it.is row.1 known.fits (fits fact h) in
        subst (λ (f : FactValue). sets.Has objects f) same it.has

    same_facts : sets.SameFacts (heap.facts ++ objects) all
    same_facts fact = (
      λ h. elim (Has-parts heap.facts objects fact h) [
        | inl front ↦ (others_given parts fact ((told.3 fact).0 front)).0
        | inr back ↦ from_objects fact back
      ],
      λ h. elim (is_object_or fact) [
        | inl is ↦ Has-back heap.facts objects fact (to_objects fact h is)
        | inr not_is ↦ Has-front heap.facts objects fact ((told.3 fact).1 (given_others parts fact h not_is))
      ],
    )

    heap_before : (fact other : FactValue) → sets.Has heap.facts fact → sets.Has objects other → IsBefore fact other
    heap_before fact other h h_too =
        let it = row_of_object heap.ids rows objects other are h_too in
        (other_fact fact (others_given parts fact ((told.3 fact).0 h)).1).before other it.row.0
        (row_of heap.ids other it.row it.is).order

    is_heap : IsHeap (with_objects heap objects)
    is_heap = record {
      is_millis = told.4.is_millis;
      fit = λ fact h. elim (Has-parts heap.facts objects fact h) [
        | inl front ↦ told.4.fit fact front
        | inr back ↦ (row_of_object heap.ids rows objects fact are back).fits
      ];
      ordered = behind_ordered heap.facts objects told.4.ordered
          (objects_ordered heap.ids rows objects union.ascends are) heap_before;
    }

    pub whole_told : Tells parts (Ok (with_objects heap objects))
    whole_told =
        (same_size, subst (λ (times : List ℕ). IsLeastOf times heap.millis) (same_times parts) told.1, agree, same_facts, is_heap)

  -- ---- two contents

  -- two objects with one identifier and different contents
  two_objects : (key : ℕ) → HasTwoContents (map rows_given parts) key → HasConflict all (keys.Object key)
  two_objects key two =
      let one = fact_given heap.ids parts (key, two.one) same_size two.has_one in
      let other = fact_given heap.ids parts (key, two.other) same_size two.has_other in
      record {
        one = one.fact;
        other = other.fact;
        has_one = one.has;
        has_other = other.has;
        key_of_one = (row_of heap.ids one.fact (key, two.one) one.is).key;
        key_of_other = (row_of heap.ids other.fact (key, two.other) other.is).key;
        differ = λ same. two.differ (
            row_again heap.ids one.fact (key, two.one) one.is
            ∙ (ap (λ (f : FactValue). dump_bytes heap.ids f) same
            ∙ sym (row_again heap.ids other.fact (key, two.other) other.is)));
      }

  -- a conflict is at an object, whose identifier has two contents
  conflict_at : (key : Key) → HasConflict all key → (id : ℕ) × (key ≡ keys.Object id) × HasTwoContents (map rows_given parts) id
  conflict_at key c = elim (is_object_or c.one) [
    | inl is ↦ elim (is_object_or c.other) [
      | inl is_too ↦
          let a = has_row heap.ids c.one is in
          let b = has_row heap.ids c.other is_too in
          let same = one_key heap.ids c.one c.other a.0 b.0 key a.1 b.1 c.key_of_one c.key_of_other in
          let known = (row_of heap.ids c.one a.0 a.1).key in
          let key_is : key ≡ keys.Object a.0.0 = cc in
          let has_b = given_row heap.ids parts c.other b.0 same_size c.has_other b.1 in (
            a.0.0,
            key_is,
            record {
              one = a.0.1;
              other = b.0.1;
              has_one = given_row heap.ids parts c.one a.0 same_size c.has_one a.1;
              has_other = subst (λ (k : ℕ). AnyHas (map rows_given parts) (k, b.0.1)) (sym same) has_b;
              differ = λ bytes.
                  let rows : a.0 ≡ b.0 = ap (λ (k : ℕ). (k, a.0.1)) same ∙ ap (λ (l : List ℕ). (b.0.0, l)) bytes in
                  c.differ (one_object heap.ids c.one c.other b.0 (a.1
                  ∙ ap Some rows) b.1 (fits c.one c.has_one) (fits c.other c.has_other));
            },
          )
      | inr not_is ↦ absurd (apart heap.ids c.one c.other key is not_is c.key_of_one c.key_of_other)
    ]
    | inr not_is ↦ elim (is_object_or c.other) [
      | inl is_too ↦ absurd (apart heap.ids c.other c.one key is_too not_is c.key_of_other c.key_of_one)
      | inr not_too ↦ absurd (c.differ (
          others_agree key c.one c.other c.has_one c.has_other not_is not_too c.key_of_one c.key_of_other))
    ]
  ]

  -- the first part, since there is a time
  pub some_given : parts ≢ []
  some_given e =
      no_least heap.millis (subst (λ (l : List Given). IsLeastOf (map (λ part. part.header.millis) (map without_objects l)) heap.millis) e
      told.1)

  pub objects_conflict : (key : ℕ) → IsLeastWithTwoContents (map rows_given parts) key
      → Tells parts (Err (refusals.Conflict (keys.Object key)))
  objects_conflict key least = (
    (heap.ids, same_size),
    some_given,
    record {
      conflict = two_objects key least.contents;
      least = λ other c. not_below other (conflict_at other c);
    },
  )
    where
      not_below : (other : Key) → (id : ℕ) × (other ≡ keys.Object id) × HasTwoContents (map rows_given parts) id
          → IsTrue (key_le (keys.Object key) other)
      not_below other (id, is, two) =
          subst (λ (k : Key). key_le (keys.Object key) k ≡ true) (sym is) (true-key_le (keys.Object key) (keys.Object id) (inr (refl, up)))
        where
          up : key ≤ id
          up = elim (cases_lt id key) [ inl lt ↦ absurd (least.least id lt two) | inr le ↦ le ]

-- ---- other refusals

-- the key of a fact that is no object is before that of an object
key_before : (one fact : FactValue) (key other : Key) → is_object one ≡ false → key_of one ≡ Some key → is_object fact ≡ true
    → key_of fact ≡ Some other → IsTrue (key_le key other)
key_before one fact key other not_is e is f =
    let row = has_row Four fact is in
    let known = (row_of Four fact row.0 row.1).key in
    let same : keys.Object row.0.0 ≡ other = cc in
    let low = (other_fact one not_is).less key e in
    let rank : rank_of (keys.Object row.0.0) ≡ rank_of other = ap rank_of same in
    true-key_le key other (inl (omega (arith, low, rank)))

-- a conflict of facts that are no objects is one of all
more_conflict : (parts : List Given) (key : Key) → HasConflict (all_given (map without_objects parts)) key
    → HasConflict (all_given parts) key
more_conflict parts key c = record {
  one = c.one;
  other = c.other;
  has_one = (others_given parts c.one c.has_one).0;
  has_other = (others_given parts c.other c.has_other).0;
  key_of_one = c.key_of_one;
  key_of_other = c.key_of_other;
  differ = c.differ;
}

-- and the least one is the least
other_conflict : (parts : List Given) (key : Key) → IsLeastConflict (all_given (map without_objects parts)) key
    → IsLeastConflict (all_given parts) key
other_conflict parts key least = record {
  conflict = more_conflict parts key least.conflict;
  least = λ other d. elim (is_object_or d.one) [
    | inl is ↦ key_before least.conflict.one d.one key other (others_given parts least.conflict.one least.conflict.has_one).1
        least.conflict.key_of_one is d.key_of_one
    | inr not_is ↦ elim (is_object_or d.other) [
      | inl is_too ↦ key_before least.conflict.one d.other key other (others_given parts least.conflict.one least.conflict.has_one).1
          least.conflict.key_of_one is_too d.key_of_other
      | inr not_too ↦ least.least other (record {
        one = d.one;
        other = d.other;
        has_one = given_others parts d.one d.has_one not_is;
        has_other = given_others parts d.other d.has_other not_too;
        key_of_one = d.key_of_one;
        key_of_other = d.key_of_other;
        differ = d.differ;
      })
    ]
  ];
}

pub others_refuse : (parts : List Given) (refusal : Refusal) → Tells (map without_objects parts) (Err refusal) → Tells parts (Err refusal)
others_refuse parts refusals.NoParts told = no_parts parts told
others_refuse parts refusals.IdSizes told = λ ids same. told ids (ids_same ids parts same)
others_refuse parts (refusals.Conflict key) told =
    ((told.0.0, same_ids told.0.0 parts told.0.1), (λ e. told.1 (ap (map without_objects) e)), other_conflict parts key told.2)
others_refuse parts refusals.Failed told = told

-- the rows of all parts are those of objects
pub objects_of_union : (parts : List Given) (ids : IdSize) (rows : List ByteRow) → AllByRecursion (λ part. part.header.ids ≡ ids) parts
    → FitGiven parts → IsUnion (map rows_given parts) rows → (objects : List FactValue) × AreObjects ids rows objects
objects_of_union parts ids rows same fit union =
    objects_from ids (all_given parts) rows (λ row h. fact_given ids parts row same ((union.same row).0 h))
    (λ fact h. fits_given ids parts fact same fit h)
