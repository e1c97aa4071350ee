use Rattle.hprof_heap.specs.HeapFacts.{size_of}
use Rattle.hprof_keeps.specs.Chosen.{IsChosen}
use Rattle.hprof_keeps.proofs.LargestPlaces.{are_largest}
use Rattle.hprof_keeps.proofs.chosen_over.chosen_over.Goals as goal

pub returns-then-are_places-clause-nodes : goal.returns-then-are_places-clause-nodes
returns-then-are_places-clause-nodes g c = (
  c.in_ok-places.ensures.0,
  λ all make. are_largest c.args.retained.now (IsChosen all c.args.choice) c.in_ok-places.places.items c.sort_places.new.places.items
      (c.in_ok-places.ensures.1 all make) c.sort_places.ensures.same (size_of c.args.heap.now) all (c.requires.tree all make)
      c.sort_places.ensures.sorted,
)
