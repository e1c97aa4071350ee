-- Pages that lie one behind the other: what is found in them, and what stays of them where a row is put, or a page is cut in two.
use Rattle.std.proofs.Common.{◌≡◌, ◌<◌, ◌≤◌, ◌⊎◌, ◌+◌, ◌++◌, ◌≢◌, ◌^◌, ℕ, zero, suc, Bool, true, cond, List, [], ◌∷◌, length}
use Rattle.std.proofs.Common.{map, Option, Some, None, refl, sym, ap, subst, ◌∙◌, inl, inr, arith}
use Rattle.std.specs.Prelude.{is_some, slice_get, slice_set}
use Rattle.std.specs.declared.cmp.Ordering.TheVariants.{Less, Greater}
use Rattle.std.specs.Map.{values_of}
use Rattle.std.specs.Option.{option_map, option_or}
use Rattle.std.specs.Ordering.{nat_cmp}
use Rattle.std.specs.BTreeMap.{insert_entry}
use Rattle.std.specs.Cmp.{nat_cmp_is}
use Rattle.std.proofs.lemmas.Bool.{cases_eq, cases_lt, cases_order, eq-eqb, ne_eqb}
use Rattle.std.proofs.lemmas.List.{append_assoc, length-map, map-append}
use Rattle.std.proofs.lemmas.Option.{slice_get-map, slice_get_within}
use Rattle.hprof_tables.specs.declared.page.Page.{Page}
use Rattle.hprof_tables.specs.SortedRows.{row_at, IsAscending, AreKeys}
use Rattle.hprof_tables.specs.Places.{ArePlaces}
use Rattle.hprof_tables.specs.Pages.{AreChained, AreListed, ArePagesCut, HasKey, HaveAllKeys, first_key, last_key, rows_along, rows_in}
use Rattle.hprof_tables.proofs.SortedRows.{AreKeys-weaker, ascending_cons, ascending_head, ascending_tail, insert-ascending, insert-row}
use Rattle.hprof_tables.proofs.SortedRows.{row_at-append, row_at-here, row_at-none, row_at-past}
use Rattle.hprof_tables.proofs.SortedList.{one_list}
use Rattle.hprof_tables.proofs.PageRows.{AreKeys-join, nothing_ascends, put_at_gap}
use Rattle.hprof_tables.proofs.Places.{one_of_more}

module _ {X : Type 0} where
  -- ---- what stands in a list where an item of it was replaced, or one was added

  length_replaced : (xs : List X) (number : ℕ) (new : X) → length (slice_set xs number new) ≡ length xs
  length_replaced [] number new = refl
  length_replaced (x ∷ xs) zero new = refl
  length_replaced (x ∷ xs) (suc number) new = let rest = length_replaced xs number new in omega arith

  pub get_replaced : (xs : List X) (number : ℕ) (old new : X) → slice_get xs number ≡ Some old
      → slice_get (slice_set xs number new) number ≡ Some new
  get_replaced [] number old new there = absurd cc
  get_replaced (x ∷ xs) zero old new there = refl
  get_replaced (x ∷ xs) (suc number) old new there = get_replaced xs number old new there

  get_other : (xs : List X) (number at : ℕ) (new : X) → at ≢ number → slice_get (slice_set xs number new) at ≡ slice_get xs at
  get_other [] number at new apart = refl
  get_other (x ∷ xs) zero zero new apart = absurd (apart refl)
  get_other (x ∷ xs) zero (suc at) new apart = refl
  get_other (x ∷ xs) (suc number) zero new apart = refl
  get_other (x ∷ xs) (suc number) (suc at) new apart = get_other xs number at new (λ same. apart (ap suc same))

  get_before : (xs : List X) (last : X) (at : ℕ) → at < length xs → slice_get (xs ++ last ∷ []) at ≡ slice_get xs at
  get_before [] last at lt = absurd (omega arith)
  get_before (x ∷ xs) last zero lt = refl
  get_before (x ∷ xs) last (suc at) lt = get_before xs last at (omega arith)

  get_last : (xs : List X) (last : X) → slice_get (xs ++ last ∷ []) (length xs) ≡ Some last
  get_last [] last = refl
  get_last (x ∷ xs) last = get_last xs last

  length_more : (xs : List X) (last : X) → length (xs ++ last ∷ []) ≡ length xs + 1
  length_more [] last = refl
  length_more (x ∷ xs) last = let rest = length_more xs last in omega arith

  -- ---- what is found by a first key

  found_in : (place : ℕ × X) (places : List (ℕ × X)) (first : ℕ) (found : X) → row_at first (place ∷ places) ≡ Some found
      → ((first ≡ place.0) × (place.1 ≡ found)) ⊎ ((first ≢ place.0) × (row_at first places ≡ Some found))
  found_in place places first found e = elim (cases_eq first place.0) [
    | inl here ↦ let one : Some place.1 ≡ Some found = sym (row_at-here first place places here) ∙ e in inl (here, cc)
    | inr apart ↦ inr (apart, sym (row_at-past first place places apart) ∙ e)
  ]

  still_there : (place : ℕ × X) (places : List (ℕ × X)) (first : ℕ) → is_some (row_at first places) ≡ true
      → is_some (row_at first (place ∷ places)) ≡ true
  still_there place places first there = elim (cases_eq first place.0) [
    | inl here ↦ ap is_some (row_at-here first place places here)
    | inr apart ↦ ap is_some (row_at-past first place places apart) ∙ there
  ]

  none_below : (key from : ℕ) (rows : List (ℕ × X)) → AreKeys (λ other. from ≤ other) rows → key < from → row_at key rows ≡ None
  none_below key from rows above lt =
      row_at-none key rows (AreKeys-weaker (λ other. from ≤ other) (λ other. key ≢ other) rows (λ other le same. omega arith) above)

  none_above : (key to : ℕ) (rows : List (ℕ × X)) → AreKeys (λ other. other ≤ to) rows → to < key → row_at key rows ≡ None
  none_above key to rows below lt =
      row_at-none key rows (AreKeys-weaker (λ other. other ≤ to) (λ other. key ≢ other) rows (λ other le same. omega arith) below)

  or_none : (found : Option X) → option_or found None ≡ found
  or_none None = refl
  or_none (Some x) = refl

  -- an entry goes behind one of a lesser key
  past_entry : (first : ℕ × X) (rows : List (ℕ × X)) (key : ℕ) (row : X) → first.0 < key
      → insert_entry nat_cmp (first ∷ rows) key row ≡ first ∷ insert_entry nat_cmp rows key row
  past_entry first rows key row gt = rw (← nat_cmp_is key first.0 Greater gt) refl

  -- what is found where an entry was put
  inserted_here : (rows : List (ℕ × X)) (key : ℕ) (row : X) → row_at key (insert_entry nat_cmp rows key row) ≡ Some row
  inserted_here rows key row =
      insert-row key rows key row ∙ ap (λ (t : Bool). cond t (Some row) (row_at key rows)) (eq-eqb key key refl)

  inserted_apart : (rows : List (ℕ × X)) (key : ℕ) (row : X) (sought : ℕ) → sought ≢ key
      → row_at sought (insert_entry nat_cmp rows key row) ≡ row_at sought rows
  inserted_apart rows key row sought apart =
      insert-row sought rows key row ∙ ap (λ (t : Bool). cond t (Some row) (row_at sought rows)) (ne_eqb sought key apart)

  -- one list behind another
  join_ascending : (rows others : List (ℕ × X)) (to : ℕ) → IsAscending rows → IsAscending others → AreKeys (λ key. key ≤ to) rows
      → AreKeys (λ key. to + 1 ≤ key) others → IsAscending (rows ++ others)
  join_ascending [] others to up more below above = more
  join_ascending (row ∷ rows) others to up more below above =
      let low : row.0 ≤ to = below.0 in
      ascending_cons row (rows ++ others)
      (AreKeys-join (λ key. row.0 < key) rows others (ascending_head row rows up)
      (AreKeys-weaker (λ key. to + 1 ≤ key) (λ key. row.0 < key) others (λ key le. omega arith) above))
      (join_ascending rows others to (ascending_tail row rows up) more below.1 above)

module _ {V : Type 0} where
  -- ---- a page

  within_page : (page : Option (Page V)) → AreKeys (λ key. (first_key page ≤ key) × (key ≤ last_key page)) (rows_in page)
  within_page None = tt
  within_page (Some page) = page.sound.within

  page_above : (page : Option (Page V)) → AreKeys (λ key. first_key page ≤ key) (rows_in page)
  page_above page =
      AreKeys-weaker (λ key. (first_key page ≤ key) × (key ≤ last_key page)) (λ key. first_key page ≤ key) (rows_in page)
      (λ key both. both.0) (within_page page)

  page_below : (page : Option (Page V)) → AreKeys (λ key. key ≤ last_key page) (rows_in page)
  page_below page =
      AreKeys-weaker (λ key. (first_key page ≤ key) × (key ≤ last_key page)) (λ key. key ≤ last_key page) (rows_in page)
      (λ key both. both.1) (within_page page)

  page_ascending : (page : Option (Page V)) → IsAscending (rows_in page)
  page_ascending None = nothing_ascends V
  page_ascending (Some page) = page.sound.ascends

  has_low : (page : Option (Page V)) (key : ℕ) → HasKey page key → first_key page ≤ key
  has_low None key has = absurd has
  has_low (Some page) key has = has.0

  has_high : (page : Option (Page V)) (key : ℕ) → HasKey page key → key ≤ last_key page
  has_high None key has = absurd has
  has_high (Some page) key has = has.1

  has_between : (pages : List (Page V)) (number key : ℕ) → number < length pages → first_key (slice_get pages number) ≤ key
      → key ≤ last_key (slice_get pages number) → HasKey (slice_get pages number) key
  has_between [] number key lt low high = absurd (omega arith)
  has_between (page ∷ pages) zero key lt low high = (low, high)
  has_between (page ∷ pages) (suc number) key lt low high = has_between pages number key (omega arith) low high

  -- where a page has a key, its first key is among the first keys
  begins : (pages : List (Page V)) (number key : ℕ) → HasKey (slice_get pages number) key
      → slice_get (map (λ (page : Page V). page.from) pages) number ≡ Some (first_key (slice_get pages number))
  begins [] number key has = absurd has
  begins (page ∷ pages) zero key has = refl
  begins (page ∷ pages) (suc number) key has = begins pages number key has

  -- ---- a chain

  places_above : (pages : List (Page V)) (from : ℕ) (places : List (ℕ × ℕ)) → AreChained pages from places
      → AreKeys (λ key. from ≤ key) places
  places_above pages from [] chained = tt
  places_above pages from (place ∷ places) chained =
      let here : place.0 ≡ from = chained.0 in
      let some : from ≤ last_key (slice_get pages place.1) = chained.3 in
      let to = last_key (slice_get pages place.1) in
      let le : from ≤ place.0 = omega arith in
      let rest = places_above pages (to + 1) places chained.4 in
      (le, AreKeys-weaker (λ key. to + 1 ≤ key) (λ key. from ≤ key) places (λ key high. omega arith) rest)

  rows_above : (pages : List (Page V)) (from : ℕ) (places : List (ℕ × ℕ)) → AreChained pages from places
      → AreKeys (λ key. from ≤ key) (rows_along pages (values_of places))
  rows_above pages from [] chained = tt
  rows_above pages from (place ∷ places) chained =
      let page = slice_get pages place.1 in
      let here : first_key page ≡ from = chained.2 in
      let some : from ≤ last_key page = chained.3 in
      let rest = rows_along pages (values_of places) in
      AreKeys-join (λ key. from ≤ key) (rows_in page) rest
      (AreKeys-weaker (λ key. first_key page ≤ key) (λ key. from ≤ key) (rows_in page) (λ key le. omega arith) (page_above page))
      (AreKeys-weaker (λ key. last_key page + 1 ≤ key) (λ key. from ≤ key) rest (λ key le. omega arith)
      (rows_above pages (last_key page + 1) places chained.4))

  chained-ascending : (pages : List (Page V)) (from : ℕ) (places : List (ℕ × ℕ)) → AreChained pages from places
      → IsAscending (rows_along pages (values_of places))
  chained-ascending pages from [] chained = nothing_ascends V
  chained-ascending pages from (place ∷ places) chained =
      let page = slice_get pages place.1 in
      join_ascending (rows_in page) (rows_along pages (values_of places)) (last_key page) (page_ascending page)
      (chained-ascending pages (last_key page + 1) places chained.4) (page_below page)
      (rows_above pages (last_key page + 1) places chained.4)

  -- a page that is found in a chain begins where the chain does, or above
  found_above : (pages : List (Page V)) (from : ℕ) (places : List (ℕ × ℕ)) (number first : ℕ) → AreChained pages from places
      → row_at first places ≡ Some number → from ≤ first
  found_above pages from places number first chained found = elim (cases_lt first from) [
    | inl lt ↦ let none = none_below first from places (places_above pages from places chained) lt in absurd cc
    | inr le ↦ le
  ]

  chained-row : (pages : List (Page V)) (from : ℕ) (places : List (ℕ × ℕ)) (number first key : ℕ) → AreChained pages from places
      → row_at first places ≡ Some number → first ≤ key → key ≤ last_key (slice_get pages number)
      → row_at key (rows_along pages (values_of places)) ≡ row_at key (rows_in (slice_get pages number))
  chained-row pages from [] number first key chained found low high = absurd cc
  chained-row pages from (place ∷ places) number first key chained found low high =
      let page = slice_get pages place.1 in
      let rest = rows_along pages (values_of places) in
      row_at-append key (rows_in page) rest ∙ (elim (found_in place places first number found) [
        | inl here ↦
            let e = ap (λ (n : ℕ). slice_get pages n) here.1 in
            let top : key < last_key page + 1 =
            subst (λ (p : Option (Page V)). key < last_key p + 1) (sym e) (omega arith) in
            let none = none_below key (last_key page + 1) rest (rows_above pages (last_key page + 1) places chained.4) top in
            ap (λ (found : Option V). option_or (row_at key (rows_in page)) found) none ∙ or_none (row_at key (rows_in page))
            ∙ ap (λ (p : Option (Page V)). row_at key (rows_in p)) e
        | inr behind ↦
            let le = found_above pages (last_key page + 1) places number first chained.4 behind.1 in
            let none = none_above key (last_key page) (rows_in page) (page_below page) (omega arith) in
            ap (λ (found : Option V). option_or found (row_at key rest)) none
            ∙ chained-row pages (last_key page + 1) places number first key chained.4 behind.1 low high
      ])

  -- no page begins at a key of another but its first
  chained-within : (pages : List (Page V)) (from : ℕ) (places : List (ℕ × ℕ)) (number first key : ℕ) → AreChained pages from places
      → row_at first places ≡ Some number → first < key → key ≤ last_key (slice_get pages number) → row_at key places ≡ None
  chained-within pages from [] number first key chained found low high = refl
  chained-within pages from (place ∷ places) number first key chained found low high =
      let page = slice_get pages place.1 in
      elim (found_in place places first number found) [
        | inl here ↦
            let e = ap (λ (n : ℕ). slice_get pages n) here.1 in
            let same = here.0 in
            let past : key ≢ place.0 = λ other. omega arith in
            let top : key < last_key page + 1 =
            subst (λ (p : Option (Page V)). key < last_key p + 1) (sym e) (omega arith) in
            row_at-past key place places past
            ∙ none_below key (last_key page + 1) places (places_above pages (last_key page + 1) places chained.4) top
        | inr behind ↦
            let le = found_above pages (last_key page + 1) places number first chained.4 behind.1 in
            let here : place.0 ≡ from = chained.0 in
            let some : from ≤ last_key page = chained.3 in
            let past : key ≢ place.0 = λ other. omega arith in
            row_at-past key place places past
            ∙ chained-within pages (last_key page + 1) places number first key chained.4 behind.1 low high
      ]

  -- where no page begins between two keys, and one begins above the lower, it begins above the higher
  up_to : (pages : List (Page V)) (end : ℕ) (places : List (ℕ × ℕ)) (first key : ℕ) → AreChained pages end places → first < end
      → key < 2 ^ 64 → ((other : ℕ) → other ≤ key → is_some (row_at other places) ≡ true → other ≤ first) → key < end
  up_to pages end [] first key chained lt small greatest = subst (λ (n : ℕ). key < n) (sym chained) small
  up_to pages end (place ∷ places) first key chained lt small greatest = elim (cases_lt key end) [
    | inl less ↦ less
    | inr le ↦
        let here : place.0 ≡ end = chained.0 in
        let low : place.0 ≤ first = greatest place.0 (omega arith) (ap is_some (row_at-here place.0 place places refl)) in
        absurd (omega arith)
  ]

  chained-found : (pages : List (Page V)) (from : ℕ) (places : List (ℕ × ℕ)) (number first key : ℕ) → AreChained pages from places
      → row_at first places ≡ Some number → first ≤ key → key < 2 ^ 64
      → ((other : ℕ) → other ≤ key → is_some (row_at other places) ≡ true → other ≤ first) → HasKey (slice_get pages number) key
  chained-found pages from [] number first key chained found le small greatest = absurd cc
  chained-found pages from (place ∷ places) number first key chained found le small greatest =
      let page = slice_get pages place.1 in
      let others : (other : ℕ) → other ≤ key → is_some (row_at other places) ≡ true → other ≤ first =
      λ other low there. greatest other low (still_there place places other there) in
      elim (found_in place places first number found) [
        | inl here ↦
            let same : first ≡ place.0 = here.0 in
            let at : place.0 ≡ from = chained.0 in
            let begin : first_key page ≡ from = chained.2 in
            let some : from ≤ last_key page = chained.3 in
            let top = up_to pages (last_key page + 1) places first key chained.4 (omega arith) small others in
            subst (λ (n : ℕ). HasKey (slice_get pages n) key) here.1
            (has_between pages place.1 key chained.1 (omega arith) (omega arith))
        | inr behind ↦ chained-found pages (last_key page + 1) places number first key chained.4 behind.1 le small others
      ]

  -- a chain of which the pages keep their keys stays one
  chained-kept : (pages more : List (Page V)) (from : ℕ) (places : List (ℕ × ℕ))
      → ((at : ℕ) → at < length pages → from ≤ first_key (slice_get pages at) → (at < length more)
      × (first_key (slice_get more at) ≡ first_key (slice_get pages at)) × (last_key (slice_get more at) ≡ last_key (slice_get pages at)))
      → AreChained pages from places → AreChained more from places
  chained-kept pages more from [] kept chained = chained
  chained-kept pages more from (place ∷ places) kept chained =
      let to = last_key (slice_get pages place.1) in
      let begin : first_key (slice_get pages place.1) ≡ from = chained.2 in
      let some : from ≤ to = chained.3 in
      let here = kept place.1 chained.1 (omega arith) in (
        chained.0,
        here.0,
        here.1 ∙ begin,
        subst (λ (n : ℕ). from ≤ n) (sym here.2) some,
        subst (λ (n : ℕ). AreChained more (n + 1) places) (sym here.2)
            (chained-kept pages more (to + 1) places (λ at lt le. kept at lt (omega arith)) chained.4),
      )

  along-kept : (pages more : List (Page V)) (from : ℕ) (places : List (ℕ × ℕ))
      → ((at : ℕ) → at < length pages → from ≤ first_key (slice_get pages at) → slice_get more at ≡ slice_get pages at)
      → AreChained pages from places → rows_along more (values_of places) ≡ rows_along pages (values_of places)
  along-kept pages more from [] kept chained = refl
  along-kept pages more from (place ∷ places) kept chained =
      let to = last_key (slice_get pages place.1) in
      let begin : first_key (slice_get pages place.1) ≡ from = chained.2 in
      let some : from ≤ to = chained.3 in
      let here = kept place.1 chained.1 (omega arith) in
      let rest = along-kept pages more (to + 1) places (λ at lt le. kept at lt (omega arith)) chained.4 in
      ap (λ (p : Option (Page V)). rows_in p ++ rows_along more (values_of places)) here
      ∙ ap (λ (rows : List (ℕ × V)). rows_in (slice_get pages place.1) ++ rows) rest

  -- a page that begins elsewhere has another number
  other_page : (pages : List (Page V)) (number at : ℕ) (page : Page V) → slice_get pages number ≡ Some page
      → first_key (slice_get pages at) ≢ page.from → at ≢ number
  other_page pages number at page there apart same = apart (ap (λ (n : ℕ). first_key (slice_get pages n)) same ∙ ap first_key there)

  -- pages without one that begins lower are as they were
  others_kept : (pages : List (Page V)) (from number : ℕ) (old new : Page V) → slice_get pages number ≡ Some old → old.from < from
      → (at : ℕ) → at < length pages → from ≤ first_key (slice_get pages at)
      → slice_get (slice_set pages number new) at ≡ slice_get pages at
  others_kept pages from number old new there below at lt le =
      get_other pages number at new (other_page pages number at old there (λ same. omega arith))

  -- ---- a page that stands in the place of another

  froms_replaced : (pages : List (Page V)) (number : ℕ) (old new : Page V) → slice_get pages number ≡ Some old → new.from ≡ old.from
      → map (λ (page : Page V). page.from) (slice_set pages number new) ≡ map (λ (page : Page V). page.from) pages
  froms_replaced [] number old new there from = refl
  froms_replaced (page ∷ pages) zero old new there from =
      let same : page ≡ old = cc in
      let e : new.from ≡ page.from = from ∙ ap (λ (p : Page V). p.from) (sym same) in
      ap (λ (key : ℕ). key ∷ map (λ (page : Page V). page.from) pages) e
  froms_replaced (page ∷ pages) (suc number) old new there from =
      ap (λ (keys : List ℕ). page.from ∷ keys) (froms_replaced pages number old new there from)

  keys_kept : (pages : List (Page V)) (number : ℕ) (old new : Page V) → slice_get pages number ≡ Some old → new.from ≡ old.from
      → new.to ≡ old.to → (at : ℕ) → at < length pages
      → (at < length (slice_set pages number new))
      × (first_key (slice_get (slice_set pages number new) at) ≡ first_key (slice_get pages at))
      × (last_key (slice_get (slice_set pages number new) at) ≡ last_key (slice_get pages at))
  keys_kept pages number old new there from to at lt =
      let count = length_replaced pages number new in
      elim (cases_eq at number) [
        | inl same ↦
            let is : slice_get (slice_set pages number new) at ≡ Some new =
            ap (slice_get (slice_set pages number new)) same ∙ get_replaced pages number old new there in
            let was : slice_get pages at ≡ Some old = ap (slice_get pages) same ∙ there in (
              omega arith,
              ap first_key is ∙ from ∙ sym (ap first_key was),
              ap last_key is ∙ to ∙ sym (ap last_key was),
            )
        | inr apart ↦
            let is = get_other pages number at new apart in
            (omega arith, ap first_key is, ap last_key is)
      ]

  -- the rows of all, where those of each page stay
  along-same : (pages more : List (Page V)) (numbers : List ℕ)
      → ((at : ℕ) → rows_in (slice_get more at) ≡ rows_in (slice_get pages at)) → rows_along more numbers ≡ rows_along pages numbers
  along-same pages more [] same = refl
  along-same pages more (number ∷ numbers) same =
      ap (λ (rows : List (ℕ × V)). rows ++ rows_along more numbers) (same number)
      ∙ ap (λ (rows : List (ℕ × V)). rows_in (slice_get pages number) ++ rows) (along-same pages more numbers same)

  -- the row of a key, where that of each page stays
  along-row : (pages more : List (Page V)) (numbers : List ℕ) (key : ℕ)
      → ((at : ℕ) → row_at key (rows_in (slice_get more at)) ≡ row_at key (rows_in (slice_get pages at)))
      → row_at key (rows_along more numbers) ≡ row_at key (rows_along pages numbers)
  along-row pages more [] key same = refl
  along-row pages more (number ∷ numbers) key same =
      row_at-append key (rows_in (slice_get more number)) (rows_along more numbers)
      ∙ ap (λ (found : Option V). option_or found (row_at key (rows_along more numbers))) (same number)
      ∙ ap (λ (found : Option V). option_or (row_at key (rows_in (slice_get pages number))) found) (along-row pages more numbers key same)
      ∙ sym (row_at-append key (rows_in (slice_get pages number)) (rows_along pages numbers))

  -- ---- listed pages

  no_page : (pages : List (Page V)) (number key : ℕ) → length pages ≡ 0 → HasKey (slice_get pages number) key → ⊥
  no_page [] number key none has = has
  no_page (page ∷ pages) number key none has = absurd (omega arith)

  all_kept : (pages : List (Page V)) (places : List (ℕ × ℕ)) (number : ℕ) (old new : Page V) → slice_get pages number ≡ Some old
      → new.from ≡ old.from → new.to ≡ old.to → HaveAllKeys pages places → HaveAllKeys (slice_set pages number new) places
  all_kept pages [] number old new there from to chained = length_replaced pages number new ∙ chained
  all_kept pages (place ∷ places) number old new there from to chained =
      chained-kept pages (slice_set pages number new) 0 (place ∷ places) (λ at lt le. keys_kept pages number old new there from to at lt)
      chained

  -- the rows of listed pages ascend
  pub listed-ascending : (pages : List (Page V)) (places : List (ℕ × ℕ)) → AreListed pages places
      → IsAscending (rows_along pages (values_of places))
  listed-ascending pages [] listed = nothing_ascends V
  listed-ascending pages (place ∷ places) listed = chained-ascending pages 0 (place ∷ places) listed.chained

  -- a row is found in the page that has its key
  pub listed-row : (pages : List (Page V)) (places : List (ℕ × ℕ)) (number key : ℕ) → AreListed pages places
      → HasKey (slice_get pages number) key
      → row_at key (rows_along pages (values_of places)) ≡ row_at key (rows_in (slice_get pages number))
  listed-row pages [] number key listed has = absurd (no_page pages number key listed.chained has)
  listed-row pages (place ∷ places) number key listed has =
      let page = slice_get pages number in
      chained-row pages 0 (place ∷ places) number (first_key page) key listed.chained
      (listed.found number (first_key page) (begins pages number key has)) (has_low page key has) (has_high page key has)

  -- no page begins at a key of another but its first
  pub listed-within : (pages : List (Page V)) (places : List (ℕ × ℕ)) (number key : ℕ) (page : Page V) → AreListed pages places
      → slice_get pages number ≡ Some page → page.from < key → key ≤ page.to → row_at key places ≡ None
  listed-within pages [] number key page listed there low high = refl
  listed-within pages (place ∷ places) number key page listed there low high =
      let has = subst (λ (found : Option (Page V)). HasKey found key) (sym there) (omega arith, high) in
      let first : first_key (slice_get pages number) ≡ page.from = ap first_key there in
      let last : last_key (slice_get pages number) ≡ page.to = ap last_key there in
      chained-within pages 0 (place ∷ places) number (first_key (slice_get pages number)) key listed.chained
      (listed.found number (first_key (slice_get pages number)) (begins pages number key has)) (omega arith) (omega arith)

  -- the page that begins last of those that do not begin above a key has the key
  pub listed-found : (pages : List (Page V)) (places : List (ℕ × ℕ)) (number first key : ℕ) → AreListed pages places
      → row_at first places ≡ Some number → first ≤ key → key < 2 ^ 64
      → ((other : ℕ) → other ≤ key → is_some (row_at other places) ≡ true → other ≤ first) → HasKey (slice_get pages number) key
  listed-found pages [] number first key listed found le small greatest = absurd cc
  listed-found pages (place ∷ places) number first key listed found le small greatest =
      chained-found pages 0 (place ∷ places) number first key listed.chained found le small greatest

  -- if there is a page, one begins at the least key
  pub listed-first : (pages : List (Page V)) (places : List (ℕ × ℕ)) → AreListed pages places → 0 < length pages
      → is_some (row_at 0 places) ≡ true
  listed-first pages [] listed some = let none : length pages ≡ 0 = listed.chained in absurd (omega arith)
  listed-first pages (place ∷ places) listed some = ap is_some (row_at-here 0 place places (sym listed.chained.0))

  -- a page with the same keys may stand in the place of another
  pub listed-replaced : (pages : List (Page V)) (places : List (ℕ × ℕ)) (number : ℕ) (old new : Page V) → AreListed pages places
      → slice_get pages number ≡ Some old → new.from ≡ old.from → new.to ≡ old.to → AreListed (slice_set pages number new) places
  listed-replaced pages places number old new listed there from to = record {
    chained = all_kept pages places number old new there from to listed.chained;
    found = subst (λ (keys : List ℕ). ArePlaces keys places) (sym (froms_replaced pages number old new there from)) listed.found;
  }

  -- with the same rows too, the rows of all stay
  pub rows-replaced : (pages : List (Page V)) (places : List (ℕ × ℕ)) (number : ℕ) (old new : Page V)
      → slice_get pages number ≡ Some old → new.rows.items ≡ old.rows.items
      → rows_along (slice_set pages number new) (values_of places) ≡ rows_along pages (values_of places)
  rows-replaced pages places number old new there rows =
      along-same pages (slice_set pages number new) (values_of places) (λ at. elim (cases_eq at number) [
        | inl same ↦
            ap (λ (n : ℕ). rows_in (slice_get (slice_set pages number new) n)) same
            ∙ ap rows_in (get_replaced pages number old new there) ∙ rows
            ∙ sym (ap (λ (n : ℕ). rows_in (slice_get pages n)) same ∙ ap rows_in there)
        | inr apart ↦ ap rows_in (get_other pages number at new apart)
      ])

  -- where a row was put

  put_here : (pages : List (Page V)) (places : List (ℕ × ℕ)) (number key : ℕ) (row : V) (old new : Page V)
      → AreListed (slice_set pages number new) places → slice_get pages number ≡ Some old → HasKey (Some old) key → new.from ≡ old.from
      → new.to ≡ old.to → new.rows.items ≡ insert_entry nat_cmp old.rows.items key row
      → row_at key (rows_along (slice_set pages number new) (values_of places)) ≡ Some row
  put_here pages places number key row old new listed there has from to put =
      let is = get_replaced pages number old new there in
      let low : old.from ≤ key = has.0 in
      let high : key ≤ old.to = has.1 in
      let still : HasKey (Some new) key = (omega arith, omega arith) in
      listed-row (slice_set pages number new) places number key listed
      (subst (λ (p : Option (Page V)). HasKey p key) (sym is) still)
      ∙ ap (λ (p : Option (Page V)). row_at key (rows_in p)) is ∙ ap (row_at key) put ∙ inserted_here old.rows.items key row

  put_apart : (pages : List (Page V)) (number key : ℕ) (row : V) (old new : Page V) (sought : ℕ) → slice_get pages number ≡ Some old
      → new.rows.items ≡ insert_entry nat_cmp old.rows.items key row → sought ≢ key → (at : ℕ)
      → row_at sought (rows_in (slice_get (slice_set pages number new) at)) ≡ row_at sought (rows_in (slice_get pages at))
  put_apart pages number key row old new sought there put apart at = elim (cases_eq at number) [
    | inl same ↦
        ap (λ (n : ℕ). row_at sought (rows_in (slice_get (slice_set pages number new) n))) same
        ∙ ap (λ (p : Option (Page V)). row_at sought (rows_in p)) (get_replaced pages number old new there) ∙ ap (row_at sought) put
        ∙ inserted_apart old.rows.items key row sought apart
        ∙ sym (ap (λ (n : ℕ). row_at sought (rows_in (slice_get pages n))) same
        ∙ ap (λ (p : Option (Page V)). row_at sought (rows_in p)) there)
    | inr other ↦ ap (λ (p : Option (Page V)). row_at sought (rows_in p)) (get_other pages number at new other)
  ]

  -- a row that is put into the page that has its key is put into the rows of all
  pub rows-put : (pages : List (Page V)) (places : List (ℕ × ℕ)) (number key : ℕ) (row : V) (old new : Page V) → AreListed pages places
      → slice_get pages number ≡ Some old → HasKey (Some old) key → new.from ≡ old.from → new.to ≡ old.to
      → new.rows.items ≡ insert_entry nat_cmp old.rows.items key row
      → rows_along (slice_set pages number new) (values_of places) ≡ insert_entry nat_cmp (rows_along pages (values_of places)) key row
  rows-put pages places number key row old new listed there has from to put =
      let more = slice_set pages number new in
      let old_rows = rows_along pages (values_of places) in
      let new_rows = rows_along more (values_of places) in
      let kept = listed-replaced pages places number old new listed there from to in
      one_list new_rows (insert_entry nat_cmp old_rows key row) (listed-ascending more places kept)
      (insert-ascending old_rows key row (listed-ascending pages places listed)) (λ sought. elim (cases_eq sought key) [
        | inl same ↦
            let one : row_at key new_rows ≡ Some row =
            put_here pages places number key row old new kept there has from to put in
            let other : row_at key (insert_entry nat_cmp old_rows key row) ≡ Some row = inserted_here old_rows key row in
            ap (λ (k : ℕ). row_at k new_rows) same ∙ one
            ∙ sym (ap (λ (k : ℕ). row_at k (insert_entry nat_cmp old_rows key row)) same ∙ other)
        | inr apart ↦
            along-row pages more (values_of places) sought (put_apart pages number key row old new sought there put apart)
            ∙ sym (inserted_apart old_rows key row sought apart)
      ])

  -- ---- a page that was cut in two

  cut_length : (pages new : List (Page V)) (number key : ℕ) → ArePagesCut number key pages new → length new ≡ length pages + 1
  cut_length pages new number key cut =
      let count = length_replaced pages number cut.first in
      ap length cut.pages ∙ length_more (slice_set pages number cut.first) cut.next ∙ ap (λ (n : ℕ). n + 1) count

  cut_other : (pages new : List (Page V)) (number key : ℕ) → ArePagesCut number key pages new → (at : ℕ) → at < length pages
      → at ≢ number → slice_get new at ≡ slice_get pages at
  cut_other pages new number key cut at lt apart =
      let count = length_replaced pages number cut.first in
      ap (λ (l : List (Page V)). slice_get l at) cut.pages ∙ get_before (slice_set pages number cut.first) cut.next at (omega arith)
      ∙ get_other pages number at cut.first apart

  pub cut_first : (pages new : List (Page V)) (number key : ℕ) (cut : ArePagesCut number key pages new)
      → slice_get new number ≡ Some cut.first
  cut_first pages new number key cut =
      let count = length_replaced pages number cut.first in
      let lt = slice_get_within pages number cut.page cut.there in
      ap (λ (l : List (Page V)). slice_get l number) cut.pages
      ∙ get_before (slice_set pages number cut.first) cut.next number (omega arith)
      ∙ get_replaced pages number cut.page cut.first cut.there

  pub cut_next : (pages new : List (Page V)) (number key : ℕ) (cut : ArePagesCut number key pages new)
      → slice_get new (length pages) ≡ Some cut.next
  cut_next pages new number key cut =
      ap (λ (l : List (Page V)). slice_get l (length pages)) cut.pages
      ∙ ap (slice_get (slice_set pages number cut.first ++ cut.next ∷ [])) (sym (length_replaced pages number cut.first))
      ∙ get_last (slice_set pages number cut.first) cut.next

  cut_froms : (pages new : List (Page V)) (number key : ℕ) → ArePagesCut number key pages new
      → map (λ (page : Page V). page.from) new ≡ map (λ (page : Page V). page.from) pages ++ key ∷ []
  cut_froms pages new number key cut =
      ap (map (λ (page : Page V). page.from)) cut.pages
      ∙ map-append (λ (page : Page V). page.from) (slice_set pages number cut.first) (cut.next ∷ [])
      ∙ ap (λ (keys : List ℕ). keys ++ cut.next.from ∷ []) (froms_replaced pages number cut.page cut.first cut.there cut.cut.from)
      ∙ ap (λ (k : ℕ). map (λ (page : Page V). page.from) pages ++ k ∷ []) cut.cut.above

  -- the pages above the one that was cut are as they were
  behind_kept : (pages new : List (Page V)) (number key : ℕ) (cut : ArePagesCut number key pages new) (from : ℕ) → cut.page.from < from
      → (at : ℕ) → at < length pages → from ≤ first_key (slice_get pages at) → slice_get new at ≡ slice_get pages at
  behind_kept pages new number key cut from below at lt le =
      cut_other pages new number key cut at lt (other_page pages number at cut.page cut.there (λ same. omega arith))

  -- in a chain, the new page goes right behind the one that was cut
  cut_entry : (pages new : List (Page V)) (number key : ℕ) (cut : ArePagesCut number key pages new) (place : ℕ × ℕ) (places : List (ℕ × ℕ))
      → cut.page.from ≡ place.0 → AreChained pages (cut.page.to + 1) places
      → insert_entry nat_cmp (place ∷ places) key (length pages) ≡ place ∷ (key, length pages) ∷ places
  cut_entry pages new number key cut place places here rest =
      let above = cut.cut.above_first in
      let within = cut.cut.within in
      put_at_gap key (length pages) (place ∷ []) places (omega arith, tt)
      (AreKeys-weaker (λ other. cut.page.to + 1 ≤ other) (λ other. key < other) places (λ other le. omega arith)
      (places_above pages (cut.page.to + 1) places rest))

  cut_chained : (pages new : List (Page V)) (number key : ℕ) (cut : ArePagesCut number key pages new) (from : ℕ) (places : List (ℕ × ℕ))
      → AreChained pages from places → row_at cut.page.from places ≡ Some number
      → AreChained new from (insert_entry nat_cmp places key (length pages))
  cut_chained pages new number key cut from [] chained found = absurd cc
  cut_chained pages new number key cut from (place ∷ places) chained found =
      let page = slice_get pages place.1 in
      let begin : first_key page ≡ from = chained.2 in
      let some : from ≤ last_key page = chained.3 in
      let low : place.0 ≡ from = chained.0 in
      let within : place.1 < length pages = chained.1 in
      let count = cut_length pages new number key cut in
      let above = cut.cut.above_first in
      elim (found_in place places cut.page.from number found) [
        | inl here ↦
            let same = here.0 in
            let was : page ≡ Some cut.page = ap (slice_get pages) here.1 ∙ cut.there in
            let is : slice_get new place.1 ≡ Some cut.first = ap (slice_get new) here.1 ∙ cut_first pages new number key cut in
            let next = cut_next pages new number key cut in
            let rest : AreChained pages (cut.page.to + 1) places =
            subst (λ (p : Option (Page V)). AreChained pages (last_key p + 1) places) was chained.4 in
            let from_here : first_key (slice_get new place.1) ≡ cut.first.from = ap first_key is in
            let to_here : last_key (slice_get new place.1) ≡ cut.first.to = ap last_key is in
            let from_next : first_key (slice_get new (length pages)) ≡ cut.next.from = ap first_key next in
            let to_next : last_key (slice_get new (length pages)) ≡ cut.next.to = ap last_key next in
            let end : cut.first.to + 1 ≡ key = cut.cut.below in
            let begins_at : cut.next.from ≡ key = cut.cut.above in
            let to : cut.next.to ≡ cut.page.to = cut.cut.to in
            let first_from : cut.first.from ≡ cut.page.from = cut.cut.from in
            let high : key ≤ cut.page.to = cut.cut.within in
            let last : AreChained new (last_key (slice_get new (length pages)) + 1) places =
            subst (λ (n : ℕ). AreChained new (n + 1) places) (sym (to_next ∙ to)) (behind_chained rest) in
            let new_here : AreChained new (last_key (slice_get new place.1) + 1) ((key, length pages) ∷ places) =
            (omega arith, omega arith, omega arith, omega arith, last) in
            subst (AreChained new from) (sym (cut_entry pages new number key cut place places same rest))
            (low, omega arith, omega arith, omega arith, new_here)
        | inr behind ↦
            let le = found_above pages (last_key page + 1) places number cut.page.from chained.4 behind.1 in
            let apart : place.1 ≢ number = other_page pages number place.1 cut.page cut.there (λ same. omega arith) in
            let is = cut_other pages new number key cut place.1 within apart in
            let lt : place.0 < key = omega arith in
            subst (AreChained new from) (sym (past_entry place places key (length pages) lt)) (
              low,
              omega arith,
              ap first_key is ∙ begin,
              subst (λ (p : Option (Page V)). from ≤ last_key p) (sym is) some,
              subst (λ (p : Option (Page V)). AreChained new (last_key p + 1) (insert_entry nat_cmp places key (length pages))) (sym is)
                  (cut_chained pages new number key cut (last_key page + 1) places chained.4 behind.1),
            )
      ]
    where
      behind_chained : AreChained pages (cut.page.to + 1) places → AreChained new (cut.page.to + 1) places
      behind_chained rest = chained-kept pages new (cut.page.to + 1) places (λ at lt le.
          let above = cut.cut.above_first in
          let within = cut.cut.within in
          let e = behind_kept pages new number key cut (cut.page.to + 1) (omega arith) at lt le in
          let count = cut_length pages new number key cut in
          (omega arith, ap first_key e, ap last_key e)) rest

  cut_rows : (pages new : List (Page V)) (number key : ℕ) (cut : ArePagesCut number key pages new) (from : ℕ) (places : List (ℕ × ℕ))
      → AreChained pages from places → row_at cut.page.from places ≡ Some number
      → rows_along new (values_of (insert_entry nat_cmp places key (length pages))) ≡ rows_along pages (values_of places)
  cut_rows pages new number key cut from [] chained found = absurd cc
  cut_rows pages new number key cut from (place ∷ places) chained found =
      let page = slice_get pages place.1 in
      let begin : first_key page ≡ from = chained.2 in
      let some : from ≤ last_key page = chained.3 in
      let low : place.0 ≡ from = chained.0 in
      let within : place.1 < length pages = chained.1 in
      let above = cut.cut.above_first in
      let high = cut.cut.within in
      elim (found_in place places cut.page.from number found) [
        | inl here ↦
            let was : page ≡ Some cut.page = ap (slice_get pages) here.1 ∙ cut.there in
            let is : slice_get new place.1 ≡ Some cut.first = ap (slice_get new) here.1 ∙ cut_first pages new number key cut in
            let next = cut_next pages new number key cut in
            let chain : AreChained pages (cut.page.to + 1) places =
            subst (λ (p : Option (Page V)). AreChained pages (last_key p + 1) places) was chained.4 in
            let rest = rows_along new (values_of places) in
            ap (λ (l : List (ℕ × ℕ)). rows_along new (values_of l)) (cut_entry pages new number key cut place places here.0 chain)
            ∙ ap (λ (p : Option (Page V)). rows_in p ++ (rows_in (slice_get new (length pages)) ++ rest)) is
            ∙ ap (λ (p : Option (Page V)). cut.first.rows.items ++ (rows_in p ++ rest)) next
            ∙ sym (append_assoc cut.first.rows.items cut.next.rows.items rest)
            ∙ ap (λ (rows : List (ℕ × V)). rows ++ rest) cut.cut.rows
            ∙ ap (λ (p : Option (Page V)). rows_in p ++ rest) (sym was)
            ∙ ap (λ (rows : List (ℕ × V)). rows_in page ++ rows)
            (along-kept pages new (cut.page.to + 1) places (behind_kept pages new number key cut (cut.page.to + 1) (omega arith)) chain)
        | inr behind ↦
            let le = found_above pages (last_key page + 1) places number cut.page.from chained.4 behind.1 in
            let apart : place.1 ≢ number = other_page pages number place.1 cut.page cut.there (λ same. omega arith) in
            let is = cut_other pages new number key cut place.1 within apart in
            let lt : place.0 < key = omega arith in
            let more = insert_entry nat_cmp places key (length pages) in
            ap (λ (l : List (ℕ × ℕ)). rows_along new (values_of l)) (past_entry place places key (length pages) lt)
            ∙ ap (λ (p : Option (Page V)). rows_in p ++ rows_along new (values_of more)) is
            ∙ ap (λ (rows : List (ℕ × V)). rows_in page ++ rows)
            (cut_rows pages new number key cut (last_key page + 1) places chained.4 behind.1)
      ]

  -- the first key of the page that was cut is found, and that of the new one is new
  cut_found : (pages new : List (Page V)) (places : List (ℕ × ℕ)) (number key : ℕ) (cut : ArePagesCut number key pages new)
      → ArePlaces (map (λ (page : Page V). page.from) pages) places → row_at cut.page.from places ≡ Some number
  cut_found pages new places number key cut found =
      found number cut.page.from (slice_get-map (λ (page : Page V). page.from) pages number
      ∙ ap (option_map (λ (page : Page V). page.from)) cut.there)

  cut_places : (pages new : List (Page V)) (places : List (ℕ × ℕ)) (number key : ℕ) → ArePagesCut number key pages new
      → ArePlaces (map (λ (page : Page V). page.from) pages) places → row_at key places ≡ None
      → ArePlaces (map (λ (page : Page V). page.from) new) (insert_entry nat_cmp places key (length pages))
  cut_places pages new places number key cut found none = λ place first here.
      let froms = map (λ (page : Page V). page.from) pages in
      let more : slice_get (froms ++ key ∷ []) place ≡ Some first =
      ap (λ (keys : List ℕ). slice_get keys place) (sym (cut_froms pages new number key cut)) ∙ here in
      elim (one_of_more froms key place first more) [
        | inl old ↦
            let there = found place first old in
            let apart : first ≢ key = λ same.
            let e : Some place ≡ None = sym there ∙ ap (λ (k : ℕ). row_at k places) same ∙ none in
            cc in
            inserted_apart places key (length pages) first apart ∙ there
        | inr last ↦
            let count : length pages ≡ place = sym (last.0 ∙ length-map pages (λ (page : Page V). page.from)) in
            ap (λ (k : ℕ). row_at k (insert_entry nat_cmp places key (length pages))) (sym last.1)
            ∙ inserted_here places key (length pages) ∙ ap Some count
      ]

  whole_chain : (pages : List (Page V)) (places : List (ℕ × ℕ)) → AreChained pages 0 places → HaveAllKeys pages places
  whole_chain pages [] chained = absurd (omega arith)
  whole_chain pages (place ∷ places) chained = chained

  no_cut : (pages new : List (Page V)) (number key : ℕ) → ArePagesCut number key pages new → length pages ≡ 0 → ⊥
  no_cut pages new number key cut none = let lt = slice_get_within pages number cut.page cut.there in omega arith

  -- where a page was cut in two, and the new one is listed under its first key, the pages are listed
  pub listed-cut : (pages new : List (Page V)) (places : List (ℕ × ℕ)) (number key : ℕ) → AreListed pages places
      → ArePagesCut number key pages new → AreListed new (insert_entry nat_cmp places key (length pages))
  listed-cut pages new [] number key listed cut = absurd (no_cut pages new number key cut listed.chained)
  listed-cut pages new (place ∷ places) number key listed cut =
      let found = cut_found pages new (place ∷ places) number key cut listed.found in
      let high : key ≤ last_key (slice_get pages number) =
      subst (λ (p : Option (Page V)). key ≤ last_key p) (sym cut.there) cut.cut.within in
      let none = chained-within pages 0 (place ∷ places) number cut.page.from key listed.chained found cut.cut.above_first high in
      record {
        chained = whole_chain new (insert_entry nat_cmp (place ∷ places) key (length pages))
            (cut_chained pages new number key cut 0 (place ∷ places) listed.chained found);
        found = cut_places pages new (place ∷ places) number key cut listed.found none;
      }

  -- and the rows of all stay
  pub rows-cut : (pages new : List (Page V)) (places : List (ℕ × ℕ)) (number key : ℕ) → AreListed pages places
      → ArePagesCut number key pages new
      → rows_along new (values_of (insert_entry nat_cmp places key (length pages))) ≡ rows_along pages (values_of places)
  rows-cut pages new [] number key listed cut = absurd (no_cut pages new number key cut listed.chained)
  rows-cut pages new (place ∷ places) number key listed cut =
      cut_rows pages new number key cut 0 (place ∷ places) listed.chained
      (cut_found pages new (place ∷ places) number key cut listed.found)

  -- a single page of all keys is listed
  pub listed-single : (page : Page V) → page.from ≡ 0 → page.to + 1 ≡ 2 ^ 64 → AreListed (page ∷ []) ((0, 0) ∷ [])
  listed-single page from to = record {
    chained = (refl, omega arith, from, omega arith, to);
    found = λ place key here. single place key here;
  }
    where
      single : (place key : ℕ) → slice_get (page.from ∷ []) place ≡ Some key → row_at key ((0, 0) ∷ []) ≡ Some place
      single zero key here = let e : page.from ≡ key = cc in row_at-here key (0, 0) [] (sym e ∙ from)
      single (suc place) key here = absurd cc

  -- a page below those of a chain may be replaced: the chain stays
  pub chained-replaced : (pages : List (Page V)) (from : ℕ) (places : List (ℕ × ℕ)) (number : ℕ) (old new : Page V)
      → AreChained pages from places → slice_get pages number ≡ Some old → old.from < from
      → AreChained (slice_set pages number new) from places
  chained-replaced pages from places number old new chained there below =
      chained-kept pages (slice_set pages number new) from places (λ at lt le.
      let e = others_kept pages from number old new there below at lt le in
      let count = length_replaced pages number new in
      (omega arith, ap first_key e, ap last_key e)) chained

  -- and so do its rows
  pub along-replaced : (pages : List (Page V)) (from : ℕ) (places : List (ℕ × ℕ)) (number : ℕ) (old new : Page V)
      → AreChained pages from places → slice_get pages number ≡ Some old → old.from < from
      → rows_along (slice_set pages number new) (values_of places) ≡ rows_along pages (values_of places)
  along-replaced pages from places number old new chained there below =
      along-kept pages (slice_set pages number new) from places (others_kept pages from number old new there below) chained

  -- a row under a new key is one row more
  pub insert-length : (rows : List (ℕ × V)) (key : ℕ) (row : V) → row_at key rows ≡ None
      → length (insert_entry nat_cmp rows key row) ≡ length rows + 1
  insert-length [] key row none = refl
  insert-length (first ∷ rows) key row none = elim (cases_order key first.0) [
    | inl same ↦ let e : Some first.1 ≡ None = sym (row_at-here key first rows same) ∙ none in absurd cc
    | inr apart ↦ elim apart [
      | inl lt ↦ rw (← nat_cmp_is key first.0 Less lt) (omega arith)
      | inr gt ↦
          let past : key ≢ first.0 = λ same. omega arith in
          let rest = insert-length rows key row (sym (row_at-past key first rows past) ∙ none) in
          rw (← nat_cmp_is key first.0 Greater gt) (omega arith)
    ]
  ]
