-- A table of rows by key.
use Rattle.std.specs.Prelude.{◌≡◌, ◌≢◌, ◌≤◌, ◌⊎◌, ℕ, List, Some, None, map, vec_capacity, vec_len}
use Rattle.std.specs.Ordering.{nat_cmp}
use Rattle.std.specs.BTreeMap.{is_at, insert_entry}
use Rattle.std.specs.Map.{lookup}
use Rattle.hprof_tables.specs.declared.relation.Relation.{Relation}
use Rattle.hprof_tables.specs.declared.relation.Stated.{Stated}
use Rattle.hprof_tables.specs.declared.relation.Stated.TheVariants.{New, Same, Differs}
use Rattle.hprof_tables.specs.PlacedRows.{rows_at}
use Rattle.hprof_tables.specs.SortedTable.{entries_of, HasNoSpace, LacksRoom}

-- the rows with their keys, in order of key
abbrev pub rows_of : {V : Type 0} → Relation V → List (ℕ × V)
rows_of relation = rows_at relation.rows.items (entries_of relation.places)

-- it has room for no row
abbrev pub HasNoRoom : {V : Type 0} → Relation V → Type 0
HasNoRoom relation = HasNoSpace relation.places × (vec_capacity relation.rows ≡ 0)

-- a row under the key may need memory: for its place, or since there is no room for the row
abbrev pub MayNeedMemory : {V : Type 0} → Relation V → ℕ → Type 0
MayNeedMemory relation key = LacksRoom relation.places key ⊎ (vec_capacity relation.rows ≤ vec_len relation.rows)

-- what stating a content under a key does to the rows: a row is added, or is there with the same content, or with
-- another
module _ {V : Type 0} (content : V → List ℕ) where
  abbrev pub States : List (ℕ × V) → ℕ → List ℕ → Stated → List (ℕ × V) → Type 0
  States old key stated New new = (lookup (is_at (nat_cmp key)) old ≡ None)
      × ((row : V) × (content row ≡ stated) × (new ≡ insert_entry nat_cmp old key row))
  States old key stated Same new = (new ≡ old) × ((row : V) × (lookup (is_at (nat_cmp key)) old ≡ Some row) × (content row ≡ stated))
  States old key stated Differs new = (new ≡ old) × ((row : V) × (lookup (is_at (nat_cmp key)) old ≡ Some row) × (content row ≢ stated))

-- the keys and contents of rows
abbrev pub contents_of : {V : Type 0} → (V → List ℕ) → List (ℕ × V) → List (ℕ × List ℕ)
contents_of content rows = map (λ row. (row.0, content row.1)) rows
