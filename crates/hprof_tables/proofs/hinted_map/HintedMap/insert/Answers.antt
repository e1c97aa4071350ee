use Rattle.hprof_tables.proofs.Places.{found_replaced, places_replaced}
use Rattle.hprof_tables.proofs.hinted_map.HintedMap.insert.Goals as goal

pub invariant_of-self : goal.invariant_of-self
invariant_of-self g c =
    let map = c.args.self.now in
    record {
      sound = places_replaced map.rows.items map.places.entries map.sound c.in-Some.place c.args.key c.index_mut.result.now c.args.value
          c.in-Some.ensures.some c.index_mut.ensures.value;
    }

pub returns-in-Some-clause-ok : goal.returns-in-Some-clause-ok
returns-in-Some-clause-ok g c =
    let map = c.args.self.now in
    found_replaced map.rows.items map.places.entries map.sound c.in-Some.place c.args.key c.index_mut.result.now c.args.value
    c.in-Some.ensures.some c.index_mut.ensures.value
