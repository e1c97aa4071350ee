-- The pages of a sorted table: the spot of a key, a page that is cut, and what is taken out page by page.
use Rattle.std.proofs.Common.{◌≡◌, ◌<◌, ◌≤◌, ◌+◌, ◌^◌, ◌⊎◌, ◌++◌, Result, Ok, Err, ℕ, zero, suc, get_or, drop}
use Rattle.std.proofs.Common.{List, [], ◌∷◌, length, Option, Some, None, refl, sym, ap, subst, ◌∙◌, inl, inr, arith}
use Rattle.std.specs.Prelude.{OnErr, OnOk, slice_get, slice_set}
use Rattle.std.specs.Map.{values_of}
use Rattle.std.specs.Ordering.{nat_cmp}
use Rattle.std.specs.BTreeMap.{insert_entry}
use Rattle.std.proofs.lemmas.Bool.{cases_lt}
use Rattle.std.proofs.lemmas.List.{append_assoc, append-nil}
use Rattle.std.proofs.lemmas.Option.{get_or_from_slice_get, slice_get_within}
use Rattle.hprof_tables.specs.declared.page.Page.{Page}
use Rattle.hprof_tables.specs.declared.sorted_table.SortedTable.{SortedTable}
use Rattle.hprof_tables.specs.declared.sorted_table.Spot.{Spot}
use Rattle.hprof_tables.specs.Page.{LacksRoomFor}
use Rattle.hprof_tables.specs.PageRows.{GoesTo}
use Rattle.hprof_tables.specs.Pages.{AreChained, AreListed, ArePagesCut, HasKey, HaveAllKeys, first_key, last_key, rows_along, rows_in}
use Rattle.hprof_tables.specs.SortedRows.{merged, row_at, AreKeys}
use Rattle.hprof_tables.specs.SortedTable.{entries_of, GoesIn, IsSpot, LacksRoomThere}
use Rattle.hprof_tables.proofs.PageRows.{goes_new, row_at_place}
use Rattle.hprof_tables.proofs.Pages.{along-replaced, chained-replaced, cut_first, cut_next, get_replaced, listed-cut}
use Rattle.hprof_tables.proofs.Pages.{listed-row, listed-single, rows-cut}

module _ {V : Type 0} where
  -- ---- pages and spots

  -- the page at a number
  pub page_there : (pages : List (Page V)) (number : ℕ) (found page : Page V) → slice_get pages number ≡ Some found
      → page ≡ get_or pages number page → slice_get pages number ≡ Some page
  page_there pages number found page there at =
      let same : page ≡ found = at ∙ get_or_from_slice_get pages number found page there in
      there ∙ ap Some (sym same)

  -- the page that has a key
  pub page_found : (pages : List (Page V)) (number key : ℕ) (page : Page V) → HasKey (slice_get pages number) key
      → page ≡ get_or pages number page → slice_get pages number ≡ Some page
  page_found pages number key page has at = by_found (slice_get pages number) refl has
    where
      by_found : (found : Option (Page V)) → slice_get pages number ≡ found → HasKey found key → slice_get pages number ≡ Some page
      by_found None e has = absurd has
      by_found (Some found) e has = page_there pages number found page e at

  pub page_within : (pages : List (Page V)) (number key : ℕ) → HasKey (slice_get pages number) key → number < length pages
  page_within pages number key has = by_found (slice_get pages number) refl has
    where
      by_found : (found : Option (Page V)) → slice_get pages number ≡ found → HasKey found key → number < length pages
      by_found None e has = absurd has
      by_found (Some found) e has = slice_get_within pages number found e

  -- a row is found in the page that has its key
  pub key_row : (pages : List (Page V)) (places : List (ℕ × ℕ)) (number key : ℕ) (page : Page V) → AreListed pages places
      → HasKey (slice_get pages number) key → page ≡ get_or pages number page
      → row_at key (rows_along pages (values_of places)) ≡ row_at key page.rows.items
  key_row pages places number key page listed has at =
      listed-row pages places number key listed has
      ∙ ap (λ (found : Option (Page V)). row_at key (rows_in found)) (page_found pages number key page has at)

  -- a row that a page has at a place is found, whichever way the page was come by
  pub row_there : (pages : List (Page V)) (places : List (ℕ × ℕ)) (number key place : ℕ) (page again : Page V) (row : ℕ × V)
      → AreListed pages places → HasKey (slice_get pages number) key → page ≡ get_or pages number page → again ≡ get_or pages number again
      → place < length page.rows.items → ((r : ℕ × V) → (get_or page.rows.items place r).0 ≡ key) → row ≡ get_or again.rows.items place row
      → row_at key (rows_along pages (values_of places)) ≡ Some row.1
  row_there pages places number key place page again row listed has at at_again lt keys is =
      let both : Some page ≡ Some again = sym (page_found pages number key page has at) ∙ page_found pages number key again has at_again in
      let same : page ≡ again = cc in
      let here : row ≡ get_or page.rows.items place row =
      subst (λ (p : Page V). row ≡ get_or p.rows.items place row) (sym same) is in
      let one : row.0 ≡ key = ap (λ (r : ℕ × V). r.0) here ∙ keys row in
      key_row pages places number key page listed has at
      ∙ subst (λ (k : ℕ). row_at k page.rows.items ≡ Some row.1) one (row_at_place page.rows.items place row page.sound.ascends lt here)

  -- the page of a spot
  pub spot_page : (pages : List (Page V)) (key : ℕ) (spot : Spot) → IsSpot pages key spot
      → (page : Page V) × (slice_get pages spot.page ≡ Some page) × HasKey (Some page) key × GoesTo key spot.place page.rows.items
  spot_page pages key spot is = by_found (slice_get pages spot.page) refl is
    where
      by_found : (found : Option (Page V)) → slice_get pages spot.page ≡ found → GoesIn found key spot.place
          → (page : Page V) × (slice_get pages spot.page ≡ Some page) × HasKey (Some page) key × GoesTo key spot.place page.rows.items
      by_found None e is = absurd is
      by_found (Some page) e is = (page, e, is.0, is.1)

  pub spot_at : (pages : List (Page V)) (key : ℕ) (spot : Spot) (page : Page V) → IsSpot pages key spot → page ≡ get_or pages spot.page page
      → (slice_get pages spot.page ≡ Some page) × HasKey (Some page) key × GoesTo key spot.place page.rows.items
  spot_at pages key spot page is at =
      let there = spot_page pages key spot is in
      let here = page_there pages spot.page there.0 page there.1 at in
      let same : Some there.0 ≡ Some page = sym there.1 ∙ here in
      let one : there.0 ≡ page = cc in (
        here,
        subst (λ (p : Page V). HasKey (Some p) key) one there.2,
        subst (λ (p : Page V). GoesTo key spot.place p.rows.items) one there.3,
      )

  pub spot_within : (pages : List (Page V)) (key : ℕ) (spot : Spot) → IsSpot pages key spot → spot.page < length pages
  spot_within pages key spot is = let there = spot_page pages key spot is in slice_get_within pages spot.page there.0 there.1

  -- the key of a spot is new
  pub spot_new : (pages : List (Page V)) (places : List (ℕ × ℕ)) (key : ℕ) (spot : Spot) → AreListed pages places → IsSpot pages key spot
      → row_at key (rows_along pages (values_of places)) ≡ None
  spot_new pages places key spot listed is =
      let there = spot_page pages key spot is in
      listed-row pages places spot.page key listed (subst (λ (found : Option (Page V)). HasKey found key) (sym there.1) there.2)
      ∙ ap (λ (found : Option (Page V)). row_at key (rows_in found)) there.1 ∙ goes_new key spot.place there.0.rows.items there.3

  -- a spot in a page
  pub spot_is : (pages : List (Page V)) (key : ℕ) (spot : Spot) (page : Page V) → slice_get pages spot.page ≡ Some page
      → HasKey (Some page) key
      → GoesTo key spot.place page.rows.items → IsSpot pages key spot
  spot_is pages key spot page there has goes =
      subst (λ (found : Option (Page V)). GoesIn found key spot.place) (sym there) (has, goes)

  -- ---- a page that is cut

  -- pages of which one was cut, or not
  pub cut_tried : {T E : Type 0} (r : Result T E) (pages new : List (Page V)) (places after : List (ℕ × ℕ)) (number key : ℕ)
      → AreListed pages places → OnOk r (ArePagesCut number key pages new)
      → OnOk r (after ≡ insert_entry nat_cmp places key (length pages)) → OnErr r (new ≡ pages) → OnErr r (after ≡ places)
      → AreListed new after × (rows_along new (values_of after) ≡ rows_along pages (values_of places))
  cut_tried (Ok x) pages new places after number key listed cut more same kept =
      subst (λ (l : List (ℕ × ℕ)). AreListed new l × (rows_along new (values_of l) ≡ rows_along pages (values_of places))) (sym more)
      (listed-cut pages new places number key listed cut, rows-cut pages new places number key listed cut)
  cut_tried (Err e) pages new places after number key listed cut more same kept =
      subst (λ (l : List (ℕ × ℕ)). AreListed new l × (rows_along new (values_of l) ≡ rows_along pages (values_of places))) (sym kept)
      (subst (λ (l : List (Page V)). AreListed l places × (rows_along l (values_of places) ≡ rows_along pages (values_of places)))
      (sym same)
      (listed, refl))

  -- the key is in the part that has it
  pub cut_has : (pages new : List (Page V)) (number at key : ℕ) (page : Page V) → ArePagesCut number at pages new
      → slice_get pages number ≡ Some page → HasKey (Some page) key
      → (key < at → HasKey (slice_get new number) key) × (at ≤ key → HasKey (slice_get new (length pages)) key)
  cut_has pages new number at key page cut there has =
      let same : Some cut.page ≡ Some page = sym cut.there ∙ there in
      let one : cut.page ≡ page = cc in
      let low = has.0 in
      let high = has.1 in
      let from : cut.first.from ≡ page.from = cut.cut.from ∙ ap (λ (p : Page V). p.from) one in
      let to : cut.next.to ≡ page.to = cut.cut.to ∙ ap (λ (p : Page V). p.to) one in
      let below = cut.cut.below in
      let above = cut.cut.above in (
        λ lt. subst (λ (found : Option (Page V)). HasKey found key) (sym (cut_first pages new number at cut)) (omega arith, omega arith),
        λ le. subst (λ (found : Option (Page V)). HasKey found key) (sym (cut_next pages new number at cut)) (omega arith, omega arith),
      )

  -- a row that goes in front of others does not go behind all
  among : (key place : ℕ) (rows : List (ℕ × V)) → place < length rows → AreKeys (λ other. key < other) (drop place rows)
      → AreKeys (λ other. other < key) rows → ⊥
  among key place [] lt above all = absurd (omega arith)
  among key zero (row ∷ rows) lt above all = let one : key < row.0 = above.0 in let other : row.0 < key = all.0 in absurd (omega arith)
  among key (suc place) (row ∷ rows) lt above all = among key place rows (omega arith) above all.1

  -- a page that does not take a row lacks room for it
  pub lacks_place : (key place : ℕ) (page : Page V) → GoesTo key place page.rows.items → 64 ≤ length page.rows.items
      → (1024 ≤ length page.rows.items) ⊎ (place ≡ length page.rows.items → ⊥) → LacksRoomFor page key
  lacks_place key place page goes some (inl most) = inr (some, inl most)
  lacks_place key place page goes some (inr within) = elim (cases_lt place (length page.rows.items)) [
    | inl lt ↦ inr (some, inr (among key place page.rows.items lt goes.above))
    | inr le ↦ let most : place ≤ length page.rows.items = goes.within in absurd (within (omega arith))
  ]

  -- where it goes
  pub lacks_there : (pages : List (Page V)) (key : ℕ) (spot : Spot) (page : Page V) → IsSpot pages key spot
      → page ≡ get_or pages spot.page page
      → 64 ≤ length page.rows.items → (1024 ≤ length page.rows.items) ⊎ (spot.place ≡ length page.rows.items → ⊥) → LacksRoomThere pages key
  lacks_there pages key spot page is at some within =
      let there = spot_at pages key spot page is at in
      record {
        number = spot.page;
        page = page;
        there = there.0;
        has = there.1;
        lacks = lacks_place key spot.place page there.2 some within;
      }

  -- a spot stays one where its page makes room
  pub spot_stays : (pages : List (Page V)) (key : ℕ) (spot : Spot) (old new : Page V) → IsSpot pages key spot
      → old ≡ get_or pages spot.page old
      → new.from ≡ old.from → new.to ≡ old.to → new.rows.items ≡ old.rows.items → IsSpot (slice_set pages spot.page new) key spot
  spot_stays pages key spot old new is at from to rows =
      let there = spot_at pages key spot old is at in
      let low = there.1.0 in
      let high = there.1.1 in
      spot_is (slice_set pages spot.page new) key spot new (get_replaced pages spot.page old new there.0) (omega arith, omega arith)
      (subst (GoesTo key spot.place) (sym rows) there.2)

  -- ---- what is taken out page by page

  -- pages that have all keys are chained from some key on
  pub some_chain : (pages : List (Page V)) (places : List (ℕ × ℕ)) → HaveAllKeys pages places → (from : ℕ) × AreChained pages from places
  some_chain pages [] all = (2 ^ 64, refl)
  some_chain pages (place ∷ places) all = (0, all)

  -- the rows of the first page of a chain are taken out; the pages behind it stay as they are
  pub taken_page : (pages : List (Page V)) (from : ℕ) (place : ℕ × ℕ) (places : List (ℕ × ℕ)) (page new : Page V)
      → AreChained pages from (place ∷ places) → slice_get pages place.1 ≡ Some page
      → AreChained (slice_set pages place.1 new) (page.to + 1) places
      × (rows_along (slice_set pages place.1 new) (values_of places) ≡ rows_along pages (values_of places))
  taken_page pages from place places page new chained there =
      let first : first_key (slice_get pages place.1) ≡ page.from = ap first_key there in
      let last : last_key (slice_get pages place.1) ≡ page.to = ap last_key there in
      let begin : first_key (slice_get pages place.1) ≡ from = chained.2 in
      let some : from ≤ last_key (slice_get pages place.1) = chained.3 in
      let rest = subst (λ (n : ℕ). AreChained pages (n + 1) places) last chained.4 in
      let below : page.from < page.to + 1 = omega arith in (
        chained-replaced pages (page.to + 1) places place.1 page new rest there below,
        along-replaced pages (page.to + 1) places place.1 page new rest there below,
      )

  -- ---- a single page

  pub single_listed : (before pages : List (Page V)) (places : List (ℕ × ℕ)) (page : Page V) → before ≡ []
      → pages ≡ before ++ page ∷ [] → places ≡ (0, 0) ∷ [] → page.from ≡ 0 → page.to + 1 ≡ 2 ^ 64 → AreListed pages places
  single_listed before pages places page none one other from to = rw (one, none, other) (listed-single page from to)

  pub single_rows : (before pages : List (Page V)) (places : List (ℕ × ℕ)) (page : Page V) → before ≡ []
      → pages ≡ before ++ page ∷ [] → places ≡ (0, 0) ∷ [] → rows_along pages (values_of places) ≡ page.rows.items
  single_rows before pages places page none one other = rw (one, none, other) (append-nil page.rows.items)

  -- ---- rows that are merged

  -- the rows of a table that are moved behind none, and then merged with others behind none, are those of both
  pub all_merged : (table taken : SortedTable V) (fresh before run none all : List (ℕ × V)) → before ≡ [] → taken ≡ table
      → run ≡ before ++ entries_of taken → none ≡ [] → all ≡ none ++ merged run fresh → all ≡ merged (entries_of table) fresh
  all_merged table taken fresh before run none all no_before same moved no_all is =
      let rows : run ≡ entries_of table = moved ∙ ap (λ (l : List (ℕ × V)). l ++ entries_of taken) no_before
      ∙ ap (λ (t : SortedTable V). entries_of t) same in
      is ∙ ap (λ (l : List (ℕ × V)). l ++ merged run fresh) no_all ∙ ap (λ (l : List (ℕ × V)). merged l fresh) rows

-- rows that are moved behind others, with what is to come, are all
pub moved_rows : {X : Type 0} (rows new taken page rest more all : List X) → rows ++ (page ++ rest) ≡ all → new ≡ rows ++ taken
    → taken ≡ page
    → more ≡ rest → new ++ more ≡ all
moved_rows rows new taken page rest more all whole pushed is same =
    ap (λ (l : List _). l ++ more) pushed ∙ ap (λ (l : List _). (rows ++ taken) ++ l) same ∙ append_assoc rows taken rest
    ∙ ap (λ (l : List _). rows ++ (l ++ rest)) is ∙ whole
