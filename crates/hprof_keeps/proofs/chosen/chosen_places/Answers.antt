use Rattle.hprof_heap.specs.HeapFacts.{facts_of, size_of}
use Rattle.hprof_keeps.specs.Chosen.{IsChosen}
use Rattle.hprof_keeps.proofs.LargestPlaces.{all_places, are_largest}
use Rattle.hprof_keeps.proofs.chosen.chosen_places.Goals as goal

pub returns-clause-places : goal.returns-clause-places
returns-clause-places c =
    all_places c.args.retained.now (IsChosen (facts_of c.args.heap.now) c.args.choice) c.in_ok-places.places.items
    c.sort_places.new.places.items c.in_ok-places.ensures c.sort_places.ensures.same

pub returns-clause-nodes : goal.returns-clause-nodes
returns-clause-nodes c =
    are_largest c.args.retained.now (IsChosen (facts_of c.args.heap.now) c.args.choice) c.in_ok-places.places.items
    c.sort_places.new.places.items c.in_ok-places.ensures c.sort_places.ensures.same (size_of c.args.heap.now) (facts_of c.args.heap.now)
    c.requires.retained c.sort_places.ensures.sorted
