-- Pages of rows: the rows of each lie from one key to another, and the pages lie one behind the other.
use Rattle.std.specs.Prelude.{◌≡◌, ◌+◌, ◌++◌, ◌<◌, ◌≤◌, ◌^◌, ◌∷◌, ℕ, List, [], length, map, Option, Some, None, slice_get, slice_set}
use Rattle.std.specs.Coded.{le_prop}
use Rattle.std.proofs.Props.{props}
use Rattle.hprof_tables.specs.declared.page.Page.{Page}
use Rattle.hprof_tables.specs.Places.{ArePlaces, ArePlaces-prop}
use Rattle.hprof_tables.specs.Page.{IsCutAt}

module _ {V : Type 0} where
  -- the first key of a page
  abbrev pub first_key : Option (Page V) → ℕ
  first_key None = 0
  first_key (Some page) = page.from

  -- and its last one
  abbrev pub last_key : Option (Page V) → ℕ
  last_key None = 0
  last_key (Some page) = page.to

  -- its rows
  abbrev pub rows_in : Option (Page V) → List (ℕ × V)
  rows_in None = []
  rows_in (Some page) = page.rows.items

  -- there is a page, and the key is one of its keys
  abbrev pub HasKey : Option (Page V) → ℕ → Type 0
  HasKey None key = ⊥
  HasKey (Some page) key = (page.from ≤ key) × (key ≤ page.to)

  -- the rows of the pages that have these numbers
  abbrev pub rows_along : List (Page V) → List ℕ → List (ℕ × V)
  rows_along pages [] = []
  rows_along pages (number ∷ numbers) = rows_in (slice_get pages number) ++ rows_along pages numbers

  -- from this key on, the pages with these first keys and numbers lie one behind the other, up to the greatest key
  abbrev pub AreChained : List (Page V) → ℕ → List (ℕ × ℕ) → Type 0
  AreChained pages from [] = from ≡ 2 ^ 64
  AreChained pages from (place ∷ places) =
      (place.0 ≡ from) × (place.1 < length pages) × (first_key (slice_get pages place.1) ≡ from)
      × (from ≤ last_key (slice_get pages place.1))
      × AreChained pages (last_key (slice_get pages place.1) + 1) places

  -- the pages have all keys, unless there is none
  abbrev pub HaveAllKeys : List (Page V) → List (ℕ × ℕ) → Type 0
  HaveAllKeys pages [] = length pages ≡ 0
  HaveAllKeys pages (place ∷ places) = AreChained pages 0 (place ∷ places)

  -- what a table keeps of its pages: they have all keys, and each is found by its first key
  pub record AreListed (pages : List (Page V)) (places : List (ℕ × ℕ)) : Type 0 where
    pub chained : HaveAllKeys pages places
    pub found : ArePlaces (map (λ page. page.from) pages) places

  pub AreChained-prop : (pages : List (Page V)) (from : ℕ) (places : List (ℕ × ℕ)) → IsProp (AreChained pages from places)
  AreChained-prop pages from [] = hlevel props
  AreChained-prop pages from (place ∷ places) =
      hlevel (props, le_prop, AreChained-prop pages (last_key (slice_get pages place.1) + 1) places)

  pub HaveAllKeys-prop : (pages : List (Page V)) (places : List (ℕ × ℕ)) → IsProp (HaveAllKeys pages places)
  HaveAllKeys-prop pages [] = hlevel props
  HaveAllKeys-prop pages (place ∷ places) = AreChained-prop pages 0 (place ∷ places)

  -- it has at most one proof
  pub AreListed-prop : (pages : List (Page V)) (places : List (ℕ × ℕ)) → IsProp (AreListed pages places)
  AreListed-prop pages places = hlevel (props, HaveAllKeys-prop pages places, ArePlaces-prop)

  -- the page of that number was cut in two at a key; the part above it stands behind all others
  pub record ArePagesCut (number key : ℕ) (old new : List (Page V)) : Type 0 where
    pub page : Page V
    pub first : Page V
    pub next : Page V
    pub there : slice_get old number ≡ Some page
    pub pages : new ≡ slice_set old number first ++ next ∷ []
    pub cut : IsCutAt key page first next
