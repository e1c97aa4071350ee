-- What a hinted map shows.
use Rattle.std.specs.Prelude.{ℕ, List, Option, nat_eq}
use Rattle.std.specs.Map.{keys_of, lookup}
use Rattle.hprof_tables.specs.declared.hinted_map.HintedMap.{HintedMap}

module _ {V : Type 0} where
  -- the keys with their values
  abbrev pub rows_in : HintedMap V → List (ℕ × V)
  rows_in map = map.rows.items

  -- the keys
  abbrev pub keys_in : HintedMap V → List ℕ
  keys_in map = keys_of (rows_in map)

  -- the value under a key
  abbrev pub value_in : HintedMap V → ℕ → Option V
  value_in map key = lookup (nat_eq key) (rows_in map)
