-- What a page shows, and where it is cut in two.
use Rattle.std.specs.Prelude.{◌≡◌, ◌+◌, ◌++◌, ◌<◌, ◌≤◌, ◌⊎◌, ℕ, length, take, drop, vec_len, vec_capacity}
use Rattle.hprof_tables.specs.declared.page.Page.{Page}
use Rattle.hprof_tables.specs.declared.page.Cut.{Cut}
use Rattle.hprof_tables.specs.SortedRows.{AreKeys}

module _ {V : Type 0} where
  -- there is room for one row more
  abbrev pub HasRoom : Page V → Type 0
  HasRoom page = vec_len page.rows < vec_capacity page.rows

  -- a row of the key may need memory: there is no room for it; or there are 64 rows, and it does not go behind them; or there are 1,024
  abbrev pub LacksRoomFor : Page V → ℕ → Type 0
  LacksRoomFor page key =
      (vec_capacity page.rows ≤ vec_len page.rows) ⊎ ((64 ≤ length page.rows.items)
      × ((1024 ≤ length page.rows.items) ⊎ (AreKeys (λ other. other < key) page.rows.items → ⊥)))

  -- the page can be cut so: neither part is without keys, and the keys of its rows lie on their sides
  pub record CutsFor (page : Page V) (cut : Cut) : Type 0 where
    pub above : page.from < cut.key
    pub within : cut.key ≤ page.to
    pub place : cut.place ≤ length page.rows.items
    pub before : AreKeys (λ other. other < cut.key) (take cut.place page.rows.items)
    pub behind : AreKeys (λ other. cut.key ≤ other) (drop cut.place page.rows.items)

  -- the page was cut in two at the key
  pub record IsCutAt (key : ℕ) (page first next : Page V) : Type 0 where
    pub above_first : page.from < key
    pub within : key ≤ page.to
    pub from : first.from ≡ page.from
    pub below : first.to + 1 ≡ key
    pub above : next.from ≡ key
    pub to : next.to ≡ page.to
    pub rows : first.rows.items ++ next.rows.items ≡ page.rows.items
