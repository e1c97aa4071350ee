use Rattle.std.specs.Map.{keys_of}
use Rattle.hprof_tables.proofs.Places.{found_contained, placed_once}
use Rattle.hprof_tables.proofs.hinted_map.HintedMap.rows.Goals as goal

pub returns-clause-once : goal.returns-clause-once
returns-clause-once g c =
    let map = c.args.self.now in
    rw c.as_slice.ensures.value (placed_once (keys_of map.rows.items) map.places.entries map.sound)

pub returns-clause-found : goal.returns-clause-found
returns-clause-found g c = λ key value.
    let map = c.args.self.now in
    rw c.as_slice.ensures.value (found_contained map.rows.items map.places.entries map.sound key value)
