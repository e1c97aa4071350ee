-- Rows that stand in a list, by their places: the laws of one list, of one row more, and of rows that are taken.
use Rattle.std.proofs.Common.{◌≡◌, ◌≢◌, ◌<◌, ◌≤◌, ◌+◌, ◌++◌, ℕ, zero, suc, List, []}
use Rattle.std.proofs.Common.{◌∷◌, length, map, get_or, Option, Some, None, slice_get}
use Rattle.std.proofs.Common.{Result, Ok, Err, refl, sym, ap, subst, ◌∙◌, inl, inr, arith}
use Rattle.std.specs.Prelude.{IsOk, MatchOption, is_ok, if◌then◌else◌}
use Rattle.std.specs.Borrow.{Bor}
use Rattle.std.specs.declared.cmp.Ordering.TheVariants.{Less, Equal, Greater}
use Rattle.std.specs.List.{AllByRecursion}
use Rattle.std.specs.List.Sorted.{IsStrictlySortedBy}
use Rattle.std.specs.Map.{keys_of}
use Rattle.std.specs.Option.{option_and_then, option_or}
use Rattle.std.specs.Ordering.{nat_cmp}
use Rattle.std.specs.BTreeMap.{insert_entry}
use Rattle.std.specs.Cmp.{nat_cmp_is}
use Rattle.std.proofs.lemmas.Bool.{cases_order}
use Rattle.std.proofs.lemmas.List.{append_assoc, length-append, length_push, length-map}
use Rattle.std.proofs.lemmas.Map.Entries.{length-keys_of}
use Rattle.std.proofs.lemmas.Map.Made.{keys_of-map_values}
use Rattle.std.proofs.lemmas.Option.{slice_get_cases, slice_get-get_or}
use Rattle.std.proofs.Math.Seq.{get_or-append_seam}
use Rattle.hprof_tables.specs.PlacedRows.{AreWithin, numbered, rows_at, with_row}
use Rattle.hprof_tables.specs.Relation.{contents_of}
use Rattle.hprof_tables.specs.SortedRows.{Visits, row_at, IsAscending}
use Rattle.hprof_tables.specs.Union.{AreApart, AreUnion}
use Rattle.hprof_tables.proofs.Contents.{apart_rows, union_contents}
use Rattle.hprof_tables.proofs.SortedRows.{row_at-here, row_at-past}
use Rattle.hprof_tables.proofs.Unions.{union_rows}

module _ {V : Type 0} where
  -- ---- what stands at a place

  row_there : (rows : List V) (place : ℕ) → place < length rows → (row : V) × (slice_get rows place ≡ Some row)
  row_there rows place within = elim ((slice_get_cases rows place).1) [
    | inl found ↦ (found.0, found.2)
    | inr past ↦ let end = past.0 in absurd (omega arith)
  ]

  slice_get-append : (rows more : List V) (place : ℕ) → place < length rows → slice_get (rows ++ more) place ≡ slice_get rows place
  slice_get-append [] more place within = absurd (omega arith)
  slice_get-append (row ∷ rows) more zero within = refl
  slice_get-append (row ∷ rows) more (suc place) within = slice_get-append rows more place (omega arith)

  slice_get-seam : (rows : List V) (row : V) (more : List V) → slice_get (rows ++ row ∷ more) (length rows) ≡ Some row
  slice_get-seam rows row more =
      let within : length rows < length (rows ++ row ∷ more) = omega (arith, length-append rows (row ∷ more)) in
      slice_get-get_or (rows ++ row ∷ more) (length rows) row within ∙ ap Some (get_or-append_seam rows row more row)

  -- ---- the rows at places

  rows_at-first : (rows : List V) (entry : ℕ × ℕ) (entries : List (ℕ × ℕ)) (row : V) → slice_get rows entry.1 ≡ Some row
      → rows_at rows (entry ∷ entries) ≡ (entry.0, row) ∷ rows_at rows entries
  unfolding rows_at
  rows_at-first rows entry entries row e = ap (λ (found : Option V). with_row entry.0 found (rows_at rows entries)) e

  -- the place of the first, and those of the others
  pub first_within : (rows : List V) (entries : List (ℕ × ℕ)) (entry : ℕ × ℕ) (rest : List (ℕ × ℕ)) → AreWithin rows entries
      → entries ≡ entry ∷ rest → entry.1 < length rows
  unfolding AreWithin
  first_within rows entries entry rest within e =
      let there : AreWithin rows (entry ∷ rest) = subst (AreWithin rows) e within in there.0

  pub rest_within : (rows : List V) (entries : List (ℕ × ℕ)) (entry : ℕ × ℕ) (rest : List (ℕ × ℕ)) → AreWithin rows entries
      → entries ≡ entry ∷ rest → AreWithin rows rest
  unfolding AreWithin
  rest_within rows entries entry rest within e =
      let there : AreWithin rows (entry ∷ rest) = subst (AreWithin rows) e within in there.1

  -- the places that are left when the first was asked for
  pub left_within : (rows : List V) (old new : List (ℕ × ℕ)) (taken : Option (ℕ × Bor ℕ)) → AreWithin rows old
      → MatchOption taken ((old ≡ []) × (new ≡ [])) (λ entry. old ≡ (entry.0, entry.1.now) ∷ new) → AreWithin rows new
  left_within rows old new None within steps = subst (AreWithin rows) (steps.0 ∙ sym steps.1) within
  left_within rows old new (Some entry) within steps = rest_within rows old (entry.0, entry.1.now) new within steps

  -- the first of the rows
  pub placed-first : (rows : List V) (entries : List (ℕ × ℕ)) (entry : ℕ × ℕ) (rest : List (ℕ × ℕ)) (other : V) → AreWithin rows entries
      → entries ≡ entry ∷ rest → rows_at rows entries ≡ (entry.0, get_or rows entry.1 other) ∷ rows_at rows rest
  placed-first rows entries entry rest other within e =
      ap (rows_at rows) e ∙ rows_at-first rows entry rest (get_or rows entry.1 other)
      (slice_get-get_or rows entry.1 other (first_within rows entries entry rest within e))

  pub placed_row : (key : ℕ) (rows : List V) (entries : List (ℕ × ℕ)) → AreWithin rows entries
      → row_at key (rows_at rows entries) ≡ option_and_then (slice_get rows) (row_at key entries)
  unfolding AreWithin rows_at
  placed_row key rows [] within = refl
  placed_row key rows (entry ∷ entries) within =
      let there = row_there rows entry.1 within.0 in
      ap (λ (l : List (ℕ × V)). row_at key l) (rows_at-first rows entry entries there.0 there.1)
      ∙ elim (cases_order key entry.0) [
        | inl here ↦
            row_at-here key (entry.0, there.0) (rows_at rows entries) here ∙ sym there.1
            ∙ ap (option_and_then (slice_get rows)) (sym (row_at-here key entry entries here))
        | inr apart ↦
            let past : key ≢ entry.0 = λ e. elim apart [ inl lt ↦ omega arith | inr gt ↦ omega arith ] in
            row_at-past key (entry.0, there.0) (rows_at rows entries) past ∙ placed_row key rows entries within.1
            ∙ ap (option_and_then (slice_get rows)) (sym (row_at-past key entry entries past))
      ]

  placed_keys : (rows : List V) (entries : List (ℕ × ℕ)) → AreWithin rows entries → keys_of (rows_at rows entries) ≡ keys_of entries
  unfolding AreWithin rows_at
  placed_keys rows [] within = refl
  placed_keys rows (entry ∷ entries) within =
      let there = row_there rows entry.1 within.0 in
      ap (λ (l : List (ℕ × V)). keys_of l) (rows_at-first rows entry entries there.0 there.1)
      ∙ ap (λ (keys : List ℕ). entry.0 ∷ keys) (placed_keys rows entries within.1)

  pub placed_ascend : (rows : List V) (entries : List (ℕ × ℕ)) → AreWithin rows entries → IsAscending entries
      → IsAscending (rows_at rows entries)
  placed_ascend rows entries within up = subst (IsStrictlySortedBy nat_cmp) (sym (placed_keys rows entries within)) up

  pub placed_count : (rows : List V) (entries : List (ℕ × ℕ)) → AreWithin rows entries → length (rows_at rows entries) ≡ length entries
  placed_count rows entries within =
      sym (length-keys_of (rows_at rows entries)) ∙ ap length (placed_keys rows entries within) ∙ length-keys_of entries

  -- a place that is found is one of them
  pub place_within : (rows : List V) (entries : List (ℕ × ℕ)) (key place : ℕ) → AreWithin rows entries → row_at key entries ≡ Some place
      → place < length rows
  unfolding AreWithin
  place_within rows [] key place within e = absurd cc
  place_within rows (entry ∷ entries) key place within e = elim (cases_order key entry.0) [
    | inl here ↦
        let both : Some entry.1 ≡ Some place = sym (row_at-here key entry entries here) ∙ e in
        let it : entry.1 ≡ place = cc in
        subst (λ (p : ℕ). p < length rows) it within.0
    | inr apart ↦
        let past : key ≢ entry.0 = λ same. elim apart [ inl lt ↦ omega arith | inr gt ↦ omega arith ] in
        place_within rows entries key place within.1 (sym (row_at-past key entry entries past) ∙ e)
  ]

  -- a key that has no row has no place
  pub placed_none : (rows : List V) (entries : List (ℕ × ℕ)) (key : ℕ) → AreWithin rows entries → row_at key (rows_at rows entries) ≡ None
      → row_at key entries ≡ None
  placed_none rows entries key within none = by_place (row_at key entries) refl
    where
      by_place : (found : Option ℕ) → row_at key entries ≡ found → found ≡ None
      by_place None is = refl
      by_place (Some place) is =
          let there = row_there rows place (place_within rows entries key place within is) in
          let e : None ≡ Some there.0 = sym none ∙ placed_row key rows entries within ∙ ap (option_and_then (slice_get rows)) is
          ∙ there.1 in
          absurd cc

  -- ---- more rows behind them

  pub placed-append : (rows more : List V) (entries : List (ℕ × ℕ)) → AreWithin rows entries
      → rows_at (rows ++ more) entries ≡ rows_at rows entries
  unfolding AreWithin rows_at
  placed-append rows more [] within = refl
  placed-append rows more (entry ∷ entries) within =
      ap (λ (found : Option V). with_row entry.0 found (rows_at (rows ++ more) entries)) (slice_get-append rows more entry.1 within.0)
      ∙ ap (with_row entry.0 (slice_get rows entry.1)) (placed-append rows more entries within.1)

  pub within-append : (rows more : List V) (entries : List (ℕ × ℕ)) → AreWithin rows entries → AreWithin (rows ++ more) entries
  unfolding AreWithin
  within-append rows more [] within = tt
  within-append rows more (entry ∷ entries) within =
      let first = within.0 in
      let more_within : entry.1 < length (rows ++ more) = omega (arith, length-append rows more) in
      (more_within, within-append rows more entries within.1)

  -- ---- one row more

  placed-insert : (rows : List V) (entries : List (ℕ × ℕ)) (key place : ℕ) (row : V) → AreWithin rows entries
      → slice_get rows place ≡ Some row
      → rows_at rows (insert_entry nat_cmp entries key place) ≡ insert_entry nat_cmp (rows_at rows entries) key row
  unfolding AreWithin rows_at
  placed-insert rows [] key place row within e = rows_at-first rows (key, place) [] row e
  placed-insert rows (first ∷ entries) key place row within e =
      let there = row_there rows first.1 within.0 in
      let before = rows_at-first rows first entries there.0 there.1 in
      elim (cases_order key first.0) [
        | inl same ↦ rw (before, ← nat_cmp_is key first.0 Equal same) (rows_at-first rows (first.0, place) entries row e)
        | inr apart ↦ elim apart [
          | inl lt ↦ rw (before, ← nat_cmp_is key first.0 Less lt)
              (rows_at-first rows (key, place) (first ∷ entries) row e ∙ ap (λ (l : List (ℕ × V)). (key, row) ∷ l) before)
          | inr gt ↦ rw (before, ← nat_cmp_is key first.0 Greater gt)
              (rows_at-first rows first (insert_entry nat_cmp entries key place) there.0 there.1
              ∙ ap (λ (l : List (ℕ × V)). (first.0, there.0) ∷ l) (placed-insert rows entries key place row within.1 e))
        ]
      ]

  within-insert : (rows : List V) (entries : List (ℕ × ℕ)) (key place : ℕ) → AreWithin rows entries → place < length rows
      → AreWithin rows (insert_entry nat_cmp entries key place)
  unfolding AreWithin
  within-insert rows [] key place within new = (new, tt)
  within-insert rows (first ∷ entries) key place within new = elim (cases_order key first.0) [
    | inl same ↦ rw (← nat_cmp_is key first.0 Equal same) (new, within.1)
    | inr apart ↦ elim apart [
      | inl lt ↦ rw (← nat_cmp_is key first.0 Less lt) (new, within)
      | inr gt ↦ rw (← nat_cmp_is key first.0 Greater gt) (within.0, within-insert rows entries key place within.1 new)
    ]
  ]

  -- old, new: the rows before and afterwards, which are one more;  entries, after: their places
  module _ (old new : List V) (entries after : List (ℕ × ℕ)) (key place : ℕ) (row : V) (within : AreWithin old entries)
      (e : new ≡ old ++ row ∷ []) (last : place ≡ length old) (put : after ≡ insert_entry nat_cmp entries key place) where
    pub added-within : AreWithin new after
    added-within =
        let room : place < length (old ++ row ∷ []) = omega (arith, length_push old row) in
        rw (e, put) (within-insert (old ++ row ∷ []) entries key place (within-append old (row ∷ []) entries within) room)

    pub added-rows : rows_at new after ≡ insert_entry nat_cmp (rows_at old entries) key row
    added-rows =
        let seam : slice_get (old ++ row ∷ []) place ≡ Some row = rw last (slice_get-seam old row []) in
        ap (λ (l : List V). rows_at l after) e ∙ ap (rows_at (old ++ row ∷ [])) put
        ∙ placed-insert (old ++ row ∷ []) entries key place row (within-append old (row ∷ []) entries within) seam
        ∙ ap (λ (l : List (ℕ × V)). insert_entry nat_cmp l key row) (placed-append old (row ∷ []) entries within)

-- a visit of a key that is new puts the place there
pub visit_new : {A : Type 0} (answers : ℕ → A → Type 0) (place key : ℕ) (old new : List (ℕ × ℕ)) (answer : Option A)
    → Visits answers (λ made. made ≡ place) old key answer new → row_at key old ≡ None → new ≡ insert_entry nat_cmp old key place
visit_new answers place key old new None v none = v.1.2 ∙ ap (insert_entry nat_cmp old key) v.1.1
visit_new answers place key old new (Some answer) v none = let e : None ≡ Some v.1.0 = sym none ∙ v.1.1 in absurd cc

-- ---- numbers

module _ {X : Type 0} where
  -- places that were counted from the number of rows on
  pub counted : {V : Type 0} (old rows : List V) (lent these : List (ℕ × X)) (fresh : List (ℕ × ℕ)) (first len : ℕ)
      → fresh ≡ numbered first these → first ≡ len → len ≡ length rows → rows ≡ old → these ≡ lent → fresh ≡ numbered (length old) lent
  counted old rows lent these fresh first len put start count same all =
      put ∙ ap (λ (n : ℕ). numbered n these) (start ∙ count ∙ ap length same) ∙ ap (numbered (length old)) all

  -- as many as there are rows
  pub numbered-length : (first : ℕ) (lent : List (ℕ × X)) → length (numbered first lent) ≡ length lent
  numbered-length first [] = refl
  numbered-length first (row ∷ lent) = ap suc (numbered-length (first + 1) lent)

  numbered_keys : (first : ℕ) (lent : List (ℕ × X)) → keys_of (numbered first lent) ≡ keys_of lent
  numbered_keys first [] = refl
  numbered_keys first (row ∷ lent) = ap (λ (keys : List ℕ). row.0 ∷ keys) (numbered_keys (first + 1) lent)

  numbered-within : (first bound : ℕ) (lent : List (ℕ × X)) → first + length lent ≤ bound
      → AllByRecursion (λ entry. entry.1 < bound) (numbered first lent)
  numbered-within first bound [] room = tt
  numbered-within first bound (row ∷ lent) room = (omega arith, numbered-within (first + 1) bound lent (omega arith))

-- ---- rows that are taken

-- rows that were put behind others, since there was room
pub put_behind : {V A E : Type 0} (done : Result A E) (old more new : List V) → IsOk done
    → new ≡ (if is_ok done then old ++ more else old) → new ≡ old ++ more
put_behind (Ok value) old more new ok e = e
put_behind (Err error) old more new ok e = absurd cc

module _ {V X : Type 0} (content : V → List ℕ) (other : X → List ℕ) where
  -- copies that stand behind others have the contents of those that they are copies of
  numbered-contents : (all old copied : List V) (first : ℕ) (lent : List (ℕ × X)) → all ≡ old ++ copied → first ≡ length old
      → map content copied ≡ map (λ row. other row.1) lent
      → contents_of content (rows_at all (numbered first lent)) ≡ contents_of other lent
  unfolding rows_at
  numbered-contents all old [] first [] e start same = refl
  numbered-contents all old [] first (row ∷ lent) e start same = absurd cc
  numbered-contents all old (copy ∷ copied) first [] e start same = absurd cc
  numbered-contents all old (copy ∷ copied) first (row ∷ lent) e start same =
      let seam : slice_get all first ≡ Some copy = rw (e, start) (slice_get-seam old copy copied) in
      let one : content copy ≡ other row.1 = cc in
      let others : map content copied ≡ map (λ one. other one.1) lent = cc in
      let more : all ≡ (old ++ copy ∷ []) ++ copied = e ∙ sym (append_assoc old (copy ∷ []) copied) in
      let next : first + 1 ≡ length (old ++ copy ∷ []) = ap (λ (n : ℕ). n + 1) start ∙ sym (length_push old copy) in
      ap (contents_of content) (rows_at-first all (row.0, first) (numbered (first + 1) lent) copy seam)
      ∙ ap (λ (l : List (ℕ × List ℕ)). (row.0, content copy) ∷ l)
      (numbered-contents all (old ++ copy ∷ []) copied (first + 1) lent more next others)
      ∙ ap (λ (l : List ℕ). (row.0, l) ∷ contents_of other lent) one

  pub copied_count : (copied : List V) (lent : List (ℕ × X)) → map content copied ≡ map (λ row. other row.1) lent
      → length copied ≡ length lent
  copied_count copied lent same = sym (length-map copied content) ∙ ap length same ∙ length-map lent (λ row. other row.1)

  -- old, new: the rows before and afterwards;  places: those of the old ones;  lent: those of which copies were taken;
  -- fresh: the places of the copies
  module _ (old copied new : List V) (places : List (ℕ × ℕ)) (lent : List (ℕ × X)) (fresh : List (ℕ × ℕ)) (within : AreWithin old places)
      (e : new ≡ old ++ copied) (put : fresh ≡ numbered (length old) lent) (same : map content copied ≡ map (λ row. other row.1) lent) where
    fresh_within : AreWithin new fresh
    unfolding AreWithin
    fresh_within =
        let room : length old + length lent ≤ length (old ++ copied) =
        omega (arith, length-append old copied, copied_count copied lent same) in
        rw (e, put) (numbered-within (length old) (length (old ++ copied)) lent room)

    old_within : AreWithin new places
    old_within = rw e (within-append old copied places within)

    kept : rows_at new places ≡ rows_at old places
    kept = ap (λ (l : List V). rows_at l places) e ∙ placed-append old copied places within

    fresh_contents : contents_of content (rows_at new fresh) ≡ contents_of other lent
    fresh_contents =
        ap (λ (l : List (ℕ × ℕ)). contents_of content (rows_at new l)) put
        ∙ numbered-contents new old copied (length old) lent e refl same

    pub taken_ascend : IsAscending (contents_of other lent) → IsAscending fresh
    taken_ascend up =
        let keys : keys_of (contents_of other lent) ≡ keys_of fresh =
        keys_of-map_values other lent ∙ sym (ap (λ (l : List (ℕ × ℕ)). keys_of l) put ∙ numbered_keys (length old) lent) in
        subst (IsStrictlySortedBy nat_cmp) keys up

    pub taken_apart : AreApart (contents_of content (rows_at old places)) (contents_of other lent) → AreApart places fresh
    taken_apart apart key =
        elim (apart_rows content (rows_at old places) (rows_at new fresh) (contents_of content (rows_at old places)) (contents_of other
        lent)
        refl fresh_contents apart key) [
          | inl none ↦ inl (placed_none old places key within none)
          | inr none ↦ inr (placed_none new fresh key fresh_within none)
        ]

    either : (key : ℕ) (found more : Option ℕ) → row_at key places ≡ found
        → option_and_then (slice_get new) (option_or found more)
        ≡ option_or (option_and_then (slice_get new) found) (option_and_then (slice_get new) more)
    either key None more is = refl
    either key (Some place) more is =
        let there = row_there new place (place_within new places key place old_within is) in
        rw there.1 refl

    pub taken_within : (all : List (ℕ × ℕ)) → AreUnion places fresh all → AreWithin new all
    unfolding AreWithin
    taken_within all union = union_rows (λ key place. place < length new) places fresh all old_within fresh_within union

    placed_union : (all : List (ℕ × ℕ)) → AreUnion places fresh all → AreUnion (rows_at new places) (rows_at new fresh) (rows_at new all)
    placed_union all union = record {
      ascends = placed_ascend new all (taken_within all union) union.ascends;
      each = λ key.
          placed_row key new all (taken_within all union) ∙ ap (option_and_then (slice_get new)) (union.each key)
          ∙ either key (row_at key places) (row_at key fresh) refl
          ∙ ap (λ (found : Option V). option_or found (option_and_then (slice_get new) (row_at key fresh)))
          (sym (placed_row key new places old_within))
          ∙ ap (option_or (row_at key (rows_at new places))) (sym (placed_row key new fresh fresh_within));
    }

    pub taken_union : (all : List (ℕ × ℕ)) → AreUnion places fresh all
        → AreUnion (contents_of content (rows_at old places)) (contents_of other lent) (contents_of content (rows_at new all))
    taken_union all union =
        subst (λ (l : List (ℕ × V)). AreUnion (contents_of content l) (contents_of other lent) (contents_of content (rows_at new all))) kept
        (subst (λ (l : List (ℕ × List ℕ)). AreUnion (contents_of content (rows_at new places)) l (contents_of content (rows_at new all)))
        fresh_contents
        (union_contents content (rows_at new places) (rows_at new fresh) (rows_at new all) (placed_union all union)))
