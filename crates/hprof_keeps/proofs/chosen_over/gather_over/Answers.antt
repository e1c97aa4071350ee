use Rattle.std.proofs.Common.{◌∙◌, sym}
use Rattle.hprof_heap.specs.HeapFacts.{facts_of, size_of}
use Rattle.hprof_reports.proofs.FoundSo.{found_so}
use Rattle.hprof_keeps.specs.Chosen.{IsChosen}
use Rattle.hprof_keeps.specs.Gathered.{ArePlacesOf, IsChosenObject, IsGiven, IsObjectOrClass}
use Rattle.hprof_keeps.proofs.ChosenNodes.{chosen_objects, chosen_with_classes}
use Rattle.hprof_keeps.proofs.GivenPlaces.{same_places}
use Rattle.hprof_keeps.proofs.chosen_over.gather_over.Goals as goal

pub returns-then-has_class_dumps : goal.returns-then-has_class_dumps
returns-then-has_class_dumps g c =
    let ids = size_of c.args.heap.now in
    let facts = facts_of c.args.heap.now in
    let objects = c.args.objects.now in
    let retained = c.args.retained.now in
    let choice = c.args.choice in
    found_so (g.O.Objects.make_up objects ids facts) (g.O.Objects.agree objects ids facts) (g.O.Objects.tells objects ids facts)
    (λ all places. ArePlacesOf retained (IsObjectOrClass all choice) places.items)
    (λ all places. ArePlacesOf retained (IsChosen all choice) places.items) c.with_classes.result
    (c.with_classes.ensures choice c.in_ok-places.ensures.1)
    (λ all places make are. same_places retained (IsObjectOrClass all choice) (IsChosen all choice) places.items
    (λ node. chosen_with_classes all node choice (sym c.has_class_dumps.ensures ∙ c.if-has_class_dumps.true)) are)

pub returns-else-has_class_dumps : goal.returns-else-has_class_dumps
returns-else-has_class_dumps g c =
    let retained = c.args.retained.now in
    let choice = c.args.choice in (
      c.in_ok-places.ensures.0,
      λ all make. same_places retained (IsGiven (IsChosenObject choice) all) (IsChosen all choice) c.in_ok-places.places.items
          (λ node. chosen_objects all node choice (sym c.has_class_dumps.ensures ∙ c.if-has_class_dumps.false))
          (c.in_ok-places.ensures.1 all make),
    )
