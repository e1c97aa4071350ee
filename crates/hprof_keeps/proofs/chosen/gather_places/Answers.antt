use Rattle.std.proofs.Common.{◌∙◌, sym}
use Rattle.hprof_heap.specs.HeapFacts.{facts_of}
use Rattle.hprof_keeps.specs.Chosen.{IsChosen}
use Rattle.hprof_keeps.specs.Gathered.{IsChosenObject, IsGiven, IsObjectOrClass}
use Rattle.hprof_keeps.proofs.ChosenNodes.{chosen_objects, chosen_with_classes}
use Rattle.hprof_keeps.proofs.GivenPlaces.{same_places}
use Rattle.hprof_keeps.proofs.chosen.gather_places.Goals as goal
use Rattle.hprof_keeps.proofs.chosen.gather_places.Goals.{then-has_class_dumps+in_ok-push_classes, else-has_class_dumps}

pub returns : goal.returns
returns c =
    let facts = facts_of c.args.heap.now in
    let choice = c.args.choice in
    let retained = c.args.retained.now in
    elim c.if-has_class_dumps.branch [
      | then-has_class_dumps+in_ok-push_classes w ↦ rw w.places-is
          (same_places retained (IsObjectOrClass facts choice) (IsChosen facts choice) w.push_classes.new.places.items
          (λ node. chosen_with_classes facts node choice (sym c.has_class_dumps.ensures ∙ w.if-has_class_dumps.true))
          (w.in_ok-push_classes.ensures facts choice (λ node alone. alone.3) c.in_ok-places.ensures))
      | else-has_class_dumps w ↦ rw w.places-is
          (same_places retained (IsGiven (IsChosenObject choice) facts) (IsChosen facts choice) c.in_ok-places.places.items
          (λ node. chosen_objects facts node choice (sym c.has_class_dumps.ensures ∙ w.if-has_class_dumps.false)) c.in_ok-places.ensures)
    ]
