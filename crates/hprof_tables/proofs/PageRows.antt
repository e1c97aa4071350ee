-- The rows of a page: where a row goes among them, looking up, and what becomes of them where one is put, or the page is cut.
use Rattle.std.proofs.Common.{◌≡◌, ◌<◌, ◌≤◌, ◌+◌, ◌-◌, ◌⊎◌, zero, suc, get_or, ◌++◌, ◌≢◌, ℕ, List, [], ◌∷◌, length, Some, None, refl}
use Rattle.std.proofs.Common.{Result, Ok, Err, sym, ap, subst, ◌∙◌, inl, inr, arith, take, drop}
use Rattle.std.specs.Prelude.{IfErr, IfOk, slice_get}
use Rattle.std.specs.declared.cmp.Ordering.TheVariants.{Less, Equal, Greater}
use Rattle.std.specs.List.{insert}
use Rattle.std.specs.List.Sorted.{IsBinarySearchResult, IsNonDecreasingBy, IsSearchInRange, IsStrictlySortedBy}
use Rattle.std.specs.Map.{keys_of}
use Rattle.std.specs.Ordering.{nat_cmp, is_lt, ordering_index}
use Rattle.std.specs.BTreeMap.{insert_entry}
use Rattle.std.specs.Cmp.{nat_cmp_total, nat_cmp_is}
use Rattle.std.proofs.lemmas.Bool.{cases_lt}
use Rattle.std.proofs.lemmas.Cmp.{eq_by_cmp_equiv}
use Rattle.std.proofs.lemmas.List.{drop_all, get_or_default, take-append-drop}
use Rattle.std.proofs.lemmas.List.Sorted.{searchable_from_sorted}
use Rattle.std.proofs.lemmas.Map.Entries.{length-keys_of, lookup_from_place}
use Rattle.std.proofs.lemmas.Map.Keys.{below_from_sorted, IsDistinct-from_sorted}
use Rattle.std.proofs.lemmas.Map.Lookups.{exact_unsigned}
use Rattle.std.proofs.lemmas.Option.{slice_get_read, slice_get_within}
use Rattle.std.proofs.Math.ListN.{get_or-map}
use Rattle.std.proofs.Math.Seq.{take-length}
use Rattle.hprof_tables.specs.PageRows.{GoesTo, IsPage}
use Rattle.hprof_tables.specs.SortedRows.{row_at, AreKeys, IsAscending, end_of}
use Rattle.hprof_tables.proofs.SortedRows.{AreKeys-weaker, ascending_cons, ascending_head, ascending_tail, below_end}
use Rattle.hprof_tables.proofs.SortedRows.{insert-all, insert-ascending}
use Rattle.hprof_tables.proofs.SortedRows.{row_at-none}

-- no rows ascend
pub nothing_ascends : (V : Type 0) → IsAscending {V = V} []
unfolding IsStrictlySortedBy
nothing_ascends V = tt

lesser : (key other : ℕ) → nat_cmp other key ≡ Less → other < key
lesser key other e = elim (cases_lt other key) [
  | inl lt ↦ lt
  | inr le ↦ elim (cases_lt key other) [
    | inl lt ↦ let g : Greater ≡ nat_cmp other key = nat_cmp_is other key Greater lt in absurd cc
    | inr more ↦ let same : other ≡ key = omega arith in let g : Equal ≡ nat_cmp other key = nat_cmp_is other key Equal same in absurd cc
  ]
]

greater : (key other : ℕ) → nat_cmp other key ≡ Greater → key < other
greater key other e = elim (cases_lt key other) [
  | inl lt ↦ lt
  | inr le ↦ elim (cases_lt other key) [
    | inl lt ↦ let l : Less ≡ nat_cmp other key = nat_cmp_is other key Less lt in absurd cc
    | inr more ↦ let same : other ≡ key = omega arith in let g : Equal ≡ nat_cmp other key = nat_cmp_is other key Equal same in absurd cc
  ]
]

module _ {V : Type 0} where
  -- ---- each key of two lists

  pub AreKeys-front : (P : ℕ → Type 0) (rows others : List (ℕ × V)) → AreKeys P (rows ++ others) → AreKeys P rows
  AreKeys-front P [] others all = tt
  AreKeys-front P (row ∷ rows) others all = (all.0, AreKeys-front P rows others all.1)

  pub AreKeys-join : (P : ℕ → Type 0) (rows others : List (ℕ × V)) → AreKeys P rows → AreKeys P others → AreKeys P (rows ++ others)
  AreKeys-join P [] others all more = more
  AreKeys-join P (row ∷ rows) others all more = (all.0, AreKeys-join P rows others all.1 more)

  pub AreKeys-both : (P Q R : ℕ → Type 0) (rows : List (ℕ × V)) → ((key : ℕ) → P key → Q key → R key) → AreKeys P rows → AreKeys Q rows
      → AreKeys R rows
  AreKeys-both P Q R [] more one two = tt
  AreKeys-both P Q R (row ∷ rows) more one two = (more row.0 one.0 two.0, AreKeys-both P Q R rows more one.1 two.1)

  pub AreKeys-take : (P : ℕ → Type 0) (place : ℕ) (rows : List (ℕ × V)) → AreKeys P rows → AreKeys P (take place rows)
  AreKeys-take P place rows all =
      AreKeys-front P (take place rows) (drop place rows) (subst (AreKeys P) (sym (take-append-drop place rows)) all)

  pub AreKeys-drop : (P : ℕ → Type 0) (place : ℕ) (rows : List (ℕ × V)) → AreKeys P rows → AreKeys P (drop place rows)
  AreKeys-drop P place rows all = behind P (take place rows) (drop place rows) (subst (AreKeys P) (sym (take-append-drop place rows)) all)
    where
      behind : (P : ℕ → Type 0) (rows others : List (ℕ × V)) → AreKeys P (rows ++ others) → AreKeys P others
      behind P [] others all = all
      behind P (row ∷ rows) others all = behind P rows others all.1

  -- the keys before a place, and those behind it
  keys_before : (P : ℕ → Type 0) (rows : List (ℕ × V)) (place : ℕ) → place ≤ length rows
      → ((k : ℕ) (d : ℕ × V) → k < place → P (get_or rows k d).0) → AreKeys P (take place rows)
  keys_before P [] zero le each = tt
  keys_before P [] (suc place) le each = absurd (omega arith)
  keys_before P (row ∷ rows) zero le each = tt
  keys_before P (row ∷ rows) (suc place) le each =
      (each zero row (omega arith), keys_before P rows place (omega arith) (λ k d lt. each (suc k) d (omega arith)))

  keys_behind : (P : ℕ → Type 0) (rows : List (ℕ × V)) (place : ℕ)
      → ((k : ℕ) (d : ℕ × V) → place ≤ k → k < length rows → P (get_or rows k d).0) → AreKeys P (drop place rows)
  keys_behind P [] zero each = tt
  keys_behind P [] (suc place) each = tt
  keys_behind P (row ∷ rows) zero each =
      (each zero row (omega arith) (omega arith), keys_behind P rows zero (λ k d le lt. each (suc k) d (omega arith) (omega arith)))
  keys_behind P (row ∷ rows) (suc place) each = keys_behind P rows place (λ k d le lt. each (suc k) d (omega arith) (omega arith))

  pub key_at : (P : ℕ → Type 0) (rows : List (ℕ × V)) (k : ℕ) (d : ℕ × V) → AreKeys P rows → k < length rows → P (get_or rows k d).0
  key_at P [] k d all lt = absurd (omega arith)
  key_at P (row ∷ rows) zero d all lt = all.0
  key_at P (row ∷ rows) (suc k) d all lt = key_at P rows k d all.1 (omega arith)

  -- ---- parts of an ascending list

  pub ascending_front : (rows others : List (ℕ × V)) → IsAscending (rows ++ others) → IsAscending rows
  ascending_front [] others up = nothing_ascends V
  ascending_front (row ∷ rows) others up =
      ascending_cons row rows (AreKeys-front (λ key. row.0 < key) rows others (ascending_head row (rows ++ others) up))
      (ascending_front rows others (ascending_tail row (rows ++ others) up))

  pub ascending_back : (rows others : List (ℕ × V)) → IsAscending (rows ++ others) → IsAscending others
  ascending_back [] others up = up
  ascending_back (row ∷ rows) others up = ascending_back rows others (ascending_tail row (rows ++ others) up)

  rising : (rows : List (ℕ × V)) (i j : ℕ) (d : ℕ × V) → IsAscending rows → i < j → j < length rows
      → (get_or rows i d).0 < (get_or rows j d).0
  rising rows i j d up lt le =
      let keys_lt : j < length (keys_of rows) = rw length-keys_of le in
      let h : get_or (keys_of rows) i d.0 < get_or (keys_of rows) j d.0 = below_from_sorted (keys_of rows) i j d.0 up lt keys_lt in
      let at_i : get_or (keys_of rows) i d.0 ≡ (get_or rows i d).0 = get_or-map (λ (row : ℕ × V). row.0) rows i d in
      let at_j : get_or (keys_of rows) j d.0 ≡ (get_or rows j d).0 = get_or-map (λ (row : ℕ × V). row.0) rows j d in
      omega arith

  -- what is asked of the answers of a search by halves
  pub searchable : (rows : List (ℕ × V)) (key : ℕ) → IsAscending rows → IsNonDecreasingBy (λ row. ordering_index (nat_cmp row.0 key)) rows
  searchable rows key up =
      searchable_from_sorted nat_cmp_total (λ (row : ℕ × V). row.0) rows key
      (λ k d low high. ap is_lt (sym (nat_cmp_is (get_or rows (k + 1) d).0 (get_or rows k d).0 Greater
      (rising rows k (k + 1) d up (omega arith) high))))

  -- a row that stands at a place is found
  pub row_at_place : (rows : List (ℕ × V)) (place : ℕ) (row : ℕ × V) → IsAscending rows → place < length rows → row ≡ get_or rows place row
      → row_at row.0 rows ≡ Some row.1
  row_at_place rows place row up lt here =
      let there : slice_get rows place ≡ Some row = slice_get_read rows (length rows) place row refl lt here in
      lookup_from_place (eq_by_cmp_equiv nat_cmp_total) rows place row.0 row.1 (IsDistinct-from_sorted nat_cmp (keys_of rows) up) there

  pub not_falling : (rows : List (ℕ × V)) (i j : ℕ) (c d : ℕ × V) → IsAscending rows → i ≤ j → j < length rows
      → (get_or rows i c).0 ≤ (get_or rows j d).0
  not_falling rows i j c d up le lt =
      subst (λ (r : ℕ × V). r.0 ≤ (get_or rows j d).0) (sym (get_or_default rows i c d (omega arith))) (elim (cases_lt i j) [
        | inl less ↦ let h = rising rows i j d up less lt in omega arith
        | inr more ↦ let same : i ≡ j = omega arith in subst (λ (k : ℕ). (get_or rows i d).0 ≤ (get_or rows k d).0) same (omega arith)
      ])

  -- no row is at the key
  apart_keys : (rows : List (ℕ × V)) (key : ℕ) → ((k : ℕ) (d : ℕ × V) → k < length rows → key ≢ (get_or rows k d).0)
      → AreKeys (λ other. key ≢ other) rows
  apart_keys [] key apart = tt
  apart_keys (row ∷ rows) key apart = (apart zero row (omega arith), apart_keys rows key (λ k d lt. apart (suc k) d (omega arith)))

  -- a key between those of two rows that are next to one another has no row
  pub none_between : (rows : List (ℕ × V)) (key place : ℕ) (row : ℕ × V) → IsAscending rows → place < length rows
      → row ≡ get_or rows place row → key < row.0 → ((other : ℕ) (d : ℕ × V) → other < place → (get_or rows other d).0 < key)
      → row_at key rows ≡ None
  none_between rows key place row up lt here below above =
      row_at-none key rows (apart_keys rows key (λ k d within same. apart k d within same (cases_lt k place)))
    where
      apart : (k : ℕ) (d : ℕ × V) → k < length rows → key ≡ (get_or rows k d).0 → (k < place) ⊎ (place ≤ k) → ⊥
      apart k d within same (inl before) = let less = above k d before in omega arith
      apart k d within same (inr after) =
          let le = not_falling rows place k row d up after within in
          let e : row.0 ≡ (get_or rows place row).0 = ap (λ (r : ℕ × V). r.0) here in
          omega arith

  -- ---- where a row goes

  pub put_at_gap : (key : ℕ) (row : V) (low upper : List (ℕ × V)) → AreKeys (λ other. other < key) low
      → AreKeys (λ other. key < other) upper → insert_entry nat_cmp (low ++ upper) key row ≡ low ++ (key, row) ∷ upper
  put_at_gap key row [] [] below above = refl
  put_at_gap key row [] (first ∷ upper) below above = rw (← nat_cmp_is key first.0 Less above.0) refl
  put_at_gap key row (first ∷ low) upper below above =
      rw (← nat_cmp_is key first.0 Greater below.0) (ap (λ (l : List (ℕ × V)). first ∷ l) (put_at_gap key row low upper below.1 above))

  -- there is no row of a key whose row goes somewhere
  pub goes_new : (key place : ℕ) (rows : List (ℕ × V)) → GoesTo key place rows → row_at key rows ≡ None
  goes_new key place rows goes =
      row_at-none key rows (subst (AreKeys (λ other. key ≢ other)) (take-append-drop place rows)
      (AreKeys-join (λ other. key ≢ other) (take place rows) (drop place rows)
      (AreKeys-weaker (λ other. other < key) (λ other. key ≢ other) (take place rows) (λ other lt same. omega arith) goes.below)
      (AreKeys-weaker (λ other. key < other) (λ other. key ≢ other) (drop place rows) (λ other lt same. omega arith) goes.above)))

  -- a row that is put where it goes is put in
  pub goes_put : (key place : ℕ) (row : V) (rows : List (ℕ × V)) → GoesTo key place rows
      → insert rows place (key, row) ≡ insert_entry nat_cmp rows key row
  goes_put key place row rows goes =
      sym (put_at_gap key row (take place rows) (drop place rows) goes.below goes.above)
      ∙ ap (λ (l : List (ℕ × V)). insert_entry nat_cmp l key row) (take-append-drop place rows)

  -- one that goes behind all others is put in there
  pub goes_push : (key place : ℕ) (row : V) (rows : List (ℕ × V)) → GoesTo key place rows → place ≡ length rows
      → rows ++ (key, row) ∷ [] ≡ insert_entry nat_cmp rows key row
  goes_push key place row rows goes e =
      ap (λ (l : List (ℕ × V)). l ++ (key, row) ∷ []) (sym (take-length rows))
      ∙ ap (λ (rest : List (ℕ × V)). take (length rows) rows ++ (key, row) ∷ rest) (sym (drop_all (length rows) rows (omega arith)))
      ∙ goes_put key (length rows) row rows (subst (λ (n : ℕ). GoesTo key n rows) e goes)

  -- a row whose key is above all others goes behind them
  pub goes_last : (key : ℕ) (rows : List (ℕ × V)) → AreKeys (λ other. other < key) rows → GoesTo key (length rows) rows
  goes_last key rows below = record {
    within = omega arith;
    below = AreKeys-take (λ other. other < key) (length rows) rows below;
    above = keys_behind (λ other. key < other) rows (length rows) (λ k d le lt. absurd (omega arith));
  }

  -- all keys are below one that is above the last of them
  pub all_below : (key : ℕ) (rows : List (ℕ × V)) → IsAscending rows → end_of rows ≤ key → AreKeys (λ other. other < key) rows
  all_below key rows up le =
      AreKeys-weaker (λ other. other < end_of rows) (λ other. other < key) rows (λ other lt. omega arith) (below_end rows up)

  -- ---- the search by halves

  pub searched_there : (rows others : List (ℕ × V)) (key : ℕ) (r : Result ℕ ℕ) → others ≡ rows → IsSearchInRange r (length others)
      → IsBinarySearchResult (λ row. nat_cmp row.0 key) others r
      → IfOk r (λ place. (place < length rows) × ((row : ℕ × V) → (get_or rows place row).0 ≡ key))
  searched_there rows others key (Ok place) e within is = (
    subst (λ (l : List (ℕ × V)). place < length l) e within,
    λ row.
        exact_unsigned (get_or rows place row).0 key
        (subst (λ (l : List (ℕ × V)). nat_cmp (get_or l place row).0 key ≡ Equal) e (is row)),
  )
  searched_there rows others key (Err place) e within is = tt

  -- a row that is there is found
  pub found_there : (rows : List (ℕ × V)) (key place : ℕ) → IsAscending rows → place < length rows
      → ((row : ℕ × V) → (get_or rows place row).0 ≡ key) → row_at key rows ≡ None → ⊥
  found_there [] key place up lt same none = absurd (omega arith)
  found_there (first ∷ rows) key place up lt same none =
      let row = get_or (first ∷ rows) place first in
      let here : row ≡ get_or (first ∷ rows) place row = get_or_default (first ∷ rows) place first row lt in
      let found = row_at_place (first ∷ rows) place row up lt here in
      let there : row_at key (first ∷ rows) ≡ Some row.1 = subst (λ (k : ℕ). row_at k (first ∷ rows) ≡ Some row.1) (same first) found in
      let e : None ≡ Some row.1 = sym none ∙ there in
      cc

  pub searched_new : (rows others : List (ℕ × V)) (key : ℕ) (r : Result ℕ ℕ) → others ≡ rows → IsAscending rows
      → IsSearchInRange r (length others) → IsBinarySearchResult (λ row. nat_cmp row.0 key) others r
      → IfErr r (λ place. GoesTo key place rows)
  searched_new rows others key (Ok place) e up within is = tt
  searched_new rows others key (Err place) e up within is =
      let sorted =
      subst (λ (l : List (ℕ × V)). IsNonDecreasingBy (λ row. ordering_index (nat_cmp row.0 key)) l) (sym e) (searchable rows key up) in
      let split = is sorted in
      subst (GoesTo key place) e (record {
        within = within;
        below = keys_before (λ other. other < key) others place within
            (λ k d lt. lesser key (get_or others k d).0 (split.0 k d (omega arith) lt));
        above = keys_behind (λ other. key < other) others place
            (λ k d le lt. greater key (get_or others k d).0 (split.1 k d le lt));
      })

  -- ---- a page

  pub page_put : (from to key : ℕ) (row : V) (rows : List (ℕ × V)) → IsPage from to rows → from ≤ key → key ≤ to
      → IsPage from to (insert_entry nat_cmp rows key row)
  page_put from to key row rows page low high = record {
    ascends = insert-ascending rows key row page.ascends;
    within = insert-all (λ k. (from ≤ k) × (k ≤ to)) rows key row page.within (low, high);
  }

  -- the parts of a page that is cut
  pub page_below : (from to key place : ℕ) (rows : List (ℕ × V)) → IsPage from to rows
      → AreKeys (λ other. other < key + 1) (take place rows)
      → IsPage from key (take place rows)
  page_below from to key place rows page below = record {
    ascends = ascending_front (take place rows) (drop place rows) (subst IsAscending (sym (take-append-drop place rows)) page.ascends);
    within =
        AreKeys-both (λ k. (from ≤ k) × (k ≤ to)) (λ k. k < key + 1) (λ k. (from ≤ k) × (k ≤ key)) (take place rows)
        (λ k one two. (one.0, omega arith)) (AreKeys-take (λ k. (from ≤ k) × (k ≤ to)) place rows page.within) below;
  }

  pub page_above : (from to key place : ℕ) (rows : List (ℕ × V)) → IsPage from to rows → AreKeys (λ other. key ≤ other) (drop place rows)
      → IsPage key to (drop place rows)
  page_above from to key place rows page above = record {
    ascends = ascending_back (take place rows) (drop place rows) (subst IsAscending (sym (take-append-drop place rows)) page.ascends);
    within =
        AreKeys-both (λ k. (from ≤ k) × (k ≤ to)) (λ k. key ≤ k) (λ k. (key ≤ k) × (k ≤ to)) (drop place rows)
        (λ k one two. (two, one.1)) (AreKeys-drop (λ k. (from ≤ k) × (k ≤ to)) place rows page.within) above;
  }

  -- the keys on both sides of a row's place
  pub keys_below_row : (rows : List (ℕ × V)) (place : ℕ) (row : ℕ × V) → IsAscending rows → place < length rows
      → row ≡ get_or rows place row
      → AreKeys (λ other. other < row.0) (take place rows)
  keys_below_row rows place row up lt here =
      keys_before (λ other. other < row.0) rows place (omega arith) (λ k d less.
      let e : (get_or rows place d).0 ≡ row.0 = ap (λ (r : ℕ × V). r.0) (get_or_default rows place d row lt ∙ sym here) in
      let h = rising rows k place d up less lt in omega arith)

  pub keys_from_row : (rows : List (ℕ × V)) (place : ℕ) (row : ℕ × V) → IsAscending rows → place < length rows → row ≡ get_or rows place row
      → AreKeys (λ other. row.0 ≤ other) (drop place rows)
  keys_from_row rows place row up lt here =
      keys_behind (λ other. row.0 ≤ other) rows place (λ k d le less.
      let e : row.0 ≡ (get_or rows place row).0 = ap (λ (r : ℕ × V). r.0) here in
      let h = not_falling rows place k row d up le less in omega arith)

  -- a row that is not the first has a key above the first one of its page
  pub above_from : (from to : ℕ) (list : List (ℕ × V)) (place : ℕ) (row : ℕ × V) → IsPage from to list → 0 < place → place < length list
      → row ≡ get_or list place row → from < row.0
  above_from from to list place row page some lt here =
      let first : (from ≤ (get_or list 0 row).0) × ((get_or list 0 row).0 ≤ to) =
      key_at (λ k. (from ≤ k) × (k ≤ to)) list 0 row page.within (omega arith) in
      let e : row.0 ≡ (get_or list place row).0 = ap (λ (r : ℕ × V). r.0) here in
      let h = rising list 0 place row page.ascends some lt in
      let low = first.0 in
      omega arith

  -- the key of a row at which a page is cut for a key is one of the page's, and not its first one
  pub cut_within : (from to key place half : ℕ) (rows : List (ℕ × V)) (row : ℕ × V) → IsPage from to rows → GoesTo key place rows
      → from ≤ key
      → half < length rows → row ≡ get_or rows half row → (half ≡ 0 → place ≡ 0) → (from < row.0) × (row.0 ≤ to)
  cut_within from to key place half rows row page goes low lt here first =
      let both : (from ≤ (get_or rows half row).0) × ((get_or rows half row).0 ≤ to) =
      key_at (λ k. (from ≤ k) × (k ≤ to)) rows half row page.within lt in
      let e : row.0 ≡ (get_or rows half row).0 = ap (λ (r : ℕ × V). r.0) here in
      let high = both.1 in
      (above (cases_lt 0 half), omega arith)
    where
      above : (0 < half) ⊎ (half ≤ 0) → from < row.0
      above (inl some) = above_from from to rows half row page some lt here
      above (inr none) =
          let zero_place : place ≡ 0 = first (omega arith) in
          let all : AreKeys (λ other. key < other) rows =
          subst (λ (n : ℕ). AreKeys (λ other. key < other) (drop n rows)) zero_place goes.above in
          let over : key < (get_or rows half row).0 = key_at (λ other. key < other) rows half row all lt in
          let e : row.0 ≡ (get_or rows half row).0 = ap (λ (r : ℕ × V). r.0) here in
          omega arith

  -- a key behind all rows of a page, of which there are some, is not its first one
  pub end_above : (from to key place : ℕ) (rows : List (ℕ × V)) → IsPage from to rows → GoesTo key place rows → 0 < length rows
      → place ≡ length rows → from < key
  end_above from to key place [] page goes some e = absurd (omega arith)
  end_above from to key place (row ∷ rows) page goes some e =
      let all = subst (λ (n : ℕ). AreKeys (λ other. other < key) (take n (row ∷ rows))) e goes.below in
      let whole : AreKeys (λ other. other < key) (row ∷ rows) = subst (AreKeys (λ other. other < key)) (take-length (row ∷ rows)) all in
      let lt : row.0 < key = whole.0 in
      let low : from ≤ row.0 = page.within.0.0 in
      omega arith

  -- the end is one above the key of the last row
  end_at : (rows : List (ℕ × V)) (row : ℕ × V) (last : ℕ) → last + 1 ≡ length rows → slice_get rows last ≡ Some row
      → end_of rows ≡ row.0 + 1
  end_at [] row last e h = absurd cc
  end_at (first ∷ []) row zero e h = let same : first ≡ row = cc in ap (λ (r : ℕ × V). r.0 + 1) same
  end_at (first ∷ []) row (suc last) e h = absurd (omega arith)
  end_at (first ∷ next ∷ rows) row zero e h = absurd (omega arith)
  end_at (first ∷ next ∷ rows) row (suc last) e h = end_at (next ∷ rows) row last (omega arith) h

  pub end_of-last : (rows : List (ℕ × V)) (row : ℕ × V) → slice_get rows (length rows - 1) ≡ Some row → end_of rows ≡ row.0 + 1
  end_of-last rows row h =
      let lt : length rows - 1 < length rows = slice_get_within rows (length rows - 1) row h in
      end_at rows row (length rows - 1) (omega arith) h
