use Rattle.hprof_heap.specs.HeapFacts.{facts_of, size_of}
use Rattle.hprof_keeps.proofs.PlacesTaken.{placed_objects}
use Rattle.hprof_keeps.proofs.chosen.object_places_over.Goals as goal

pub returns-in-Ok : goal.returns-in-Ok
returns-in-Ok g c = (
  c.in-Ok.ensures.agree,
  λ all make.
      let ids = size_of c.args.heap.now in
      let facts = facts_of c.args.heap.now in
      let whole = g.met.O.Objects.whole c.args.objects.now ids facts all make in
      let sink = c.new-sink in
      placed_objects c.args.choice c.args.retained.now ids all whole.ordered sink.result c.pass.new.sink sink.ensures.retained
      sink.ensures.choice sink.ensures.places (c.in-Ok.ensures.given all make),
)
