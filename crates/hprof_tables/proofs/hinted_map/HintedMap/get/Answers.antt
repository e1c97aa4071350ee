use Rattle.hprof_tables.proofs.Places.{found_at}
use Rattle.hprof_tables.proofs.hinted_map.HintedMap.get.Goals as goal

pub returns : goal.returns
returns g c =
    let map = c.args.self.now in
    found_at map.rows.items map.places.entries map.sound c.in_ok-place.place c.args.key c.index.result.now c.in_ok-place.ensures.some
    c.index.ensures
