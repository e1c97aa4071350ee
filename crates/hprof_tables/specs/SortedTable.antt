-- What a sorted table and its iterator show.
use Rattle.std.specs.Prelude.{◌≡◌, ◌+◌, ◌++◌, ◌⊎◌, ◌^◌, ℕ, List, length, Option, Some, None, slice_get, vec_capacity}
use Rattle.std.specs.Map.{values_of}
use Rattle.hprof_tables.specs.declared.page.Page.{Page}
use Rattle.hprof_tables.specs.declared.sorted_table.SortedTable.{SortedTable}
use Rattle.hprof_tables.specs.declared.sorted_table.Spot.{Spot}
use Rattle.hprof_tables.specs.declared.entries.Entries.{Entries}
use Rattle.hprof_tables.specs.Page.{HasRoom, LacksRoomFor}
use Rattle.hprof_tables.specs.PageRows.{GoesTo}
use Rattle.hprof_tables.specs.Pages.{HasKey, rows_along}

module _ {V : Type 0} where
  -- the rows of its pages, in order of key
  abbrev pub entries_of : SortedTable V → List (ℕ × V)
  entries_of table = rows_along table.pages.items (values_of table.places.entries)

  -- the rows that are still to come
  abbrev pub entries_left : Entries V → List (ℕ × V)
  entries_left entries = entries.rows.now ++ rows_along entries.pages.now entries.numbers

  -- it has space for no row
  abbrev pub HasNoSpace : SortedTable V → Type 0
  HasNoSpace table = (vec_capacity table.pages ≡ 0) × (vec_capacity table.hints.numbers ≡ 0)

  -- the row of a key goes to that place of the page, which has the key
  abbrev pub GoesIn : Option (Page V) → (key place : ℕ) → Type 0
  GoesIn None key place = ⊥
  GoesIn (Some page) key place = HasKey (Some page) key × GoesTo key place page.rows.items

  -- the row of a key goes to that spot
  abbrev pub IsSpot : List (Page V) → ℕ → Spot → Type 0
  IsSpot pages key spot = GoesIn (slice_get pages spot.page) key spot.place

  -- the page has room for one row more
  abbrev pub HasRoomIn : Option (Page V) → Type 0
  HasRoomIn None = ⊥
  HasRoomIn (Some page) = HasRoom page

  -- there is room at that spot
  abbrev pub HasRoomAt : List (Page V) → Spot → Type 0
  HasRoomAt pages spot = HasRoomIn (slice_get pages spot.page)

  -- the page of the key may need memory for a row of it
  pub record LacksRoomThere (pages : List (Page V)) (key : ℕ) : Type 0 where
    pub number : ℕ
    pub page : Page V
    pub there : slice_get pages number ≡ Some page
    pub has : HasKey (Some page) key
    pub lacks : LacksRoomFor page key

  -- a row under the key may need memory: there is no page; or that of the key has no room; or each number but one has a row
  abbrev pub LacksRoom : SortedTable V → ℕ → Type 0
  LacksRoom table key =
      (length table.pages.items ≡ 0) ⊎ LacksRoomThere table.pages.items key ⊎ (length (entries_of table) + 1 ≡ 2 ^ 64)
