use Rattle.std.specs.Prelude.{slice_set}
use Rattle.std.proofs.Common.{◌≡◌, ◌<◌, ◌∙◌, ◌∷◌, ◌++◌, [], ℕ, Some, refl, sym, ap, subst, arith}
use Rattle.hprof_items.specs.FactValue.{value_of}
use Rattle.hprof_heap.specs.HeapFacts.{facts_of}
use Rattle.hprof_heap.specs.Objects.{IsObject}
use Rattle.hprof_histogram.specs.Histogram.{size_of_object}
use Rattle.hprof_dominators.specs.Tree.{place_of}
use Rattle.hprof_numbers.specs.Numbered.{nodes_in}
use Rattle.hprof_numbers.specs.Places.{number_in}
use Rattle.hprof_numbers.specs.declared.numbered.Numbered.{Numbered}
use Rattle.hprof_numbers.proofs.Placed.{stands}
use Rattle.hprof_by_label.specs.Labelling.{AreLabelled, IsNumberOfFound}
use Rattle.hprof_by_label.specs.NodeLabel.{IsObjectLabel}
use Rattle.hprof_by_label.proofs.Labelled.{labelled_now}
use Rattle.hprof_by_label.proofs.TakenLabels.{numbers_below, takes_no_node, takes_no_place, takes_none}
use Rattle.hprof_by_label.proofs.label_sink.LabelSinkObjectSink.take.Goals as goal

pub returns-in_default-clause-takes : goal.returns-in_default-clause-takes
returns-in_default-clause-takes c =
    takes_none c.args.ids (value_of c.args.object.now) c.args.self.now c.in_default.ensures.none

pub returns-in_default-number_of-clause-takes : goal.returns-in_default-number_of-clause-takes
returns-in_default-number_of-clause-takes c =
    let is = subst (IsObject c.id_of.result) c.in-Some.ensures.found c.id_of.ensures in
    takes_no_node c.args.ids (value_of c.args.object.now) c.args.self.now c.id_of.result is
    (sym (ap (λ (n : Numbered). number_in (nodes_in n) c.id_of.result) c.nodes.ensures) ∙ sym c.number_of.ensures
    ∙ c.in_default-number_of.is)

pub place_by_number-place-requires : goal.place_by_number-place-requires
place_by_number-place-requires c =
    let nodes = nodes_in c.args.self.now.retained.now.nodes in
    (stands nodes c.id_of.result c.in-Some-number_of.number
    (sym (ap (λ (n : Numbered). number_in (nodes_in n) c.id_of.result) c.nodes.ensures) ∙ sym c.in-Some-number_of.ensures)).0

pub returns-then-place-eq0-clause-takes : goal.returns-then-place-eq0-clause-takes
returns-then-place-eq0-clause-takes c =
    let is = subst (IsObject c.id_of.result) c.in-Some.ensures.found c.id_of.ensures in
    takes_no_place c.args.ids (value_of c.args.object.now) c.args.self.now c.id_of.result is c.in-Some-number_of.number
    (sym (ap (λ (n : Numbered). number_in (nodes_in n) c.id_of.result) c.nodes.ensures) ∙ sym c.in-Some-number_of.ensures)
    (sym c.place_by_number-place.ensures ∙ c.if-place-eq0.true)

pub bytes_of_dump-requires : goal.bytes_of_dump-requires
bytes_of_dump-requires c = c.in-Some.ensures.lists c.args.ids c.requires.lists

pub invariant_of-self-2 : goal.invariant_of-self-2
invariant_of-self-2 c =
    let sink = c.args.self.now in
    record {
      sound = λ done. (
        c.in_ok-label.ensures.sound,
        numbers_below sink.labelling.texts.texts.items c.label_of_kind.new.self.texts.texts.items c.in_ok-label.ensures.stays
            sink.of_places.items c.place_by_number-place.result c.in_ok-label.label c.in_ok-label.ensures.within
            (sink.sound c.if-self.false).1,
      );
      as_many = sink.as_many;
      sized = sink.sized;
    }

pub returns-clause-takes : goal.returns-clause-takes
returns-clause-takes c =
    let sink = c.args.self.now in
    let facts = facts_of sink.heap.now in
    let retained = sink.retained.now in
    let object = value_of c.args.object.now in
    let id = c.id_of.result in
    let is = subst (IsObject id) c.in-Some.ensures.found c.id_of.ensures in
    let at = c.in-Some-number_of.number in
    let found = stands (nodes_in retained.nodes) id at
    (sym (ap (λ (n : Numbered). number_in (nodes_in n) id) c.nodes.ensures) ∙ sym c.in-Some-number_of.ensures) in
    let place : c.place_by_number-place.result ≡ place_of retained.tree at = c.place_by_number-place.ensures in
    let placed : 0 < place_of retained.tree at = omega (arith, place, c.if-place-eq0.false) in
    let within = (retained.numbered.new at placed).0 in
    let new = c.label_of_kind.new.self in
    let label = c.in_ok-label.label in
    let size = c.bytes_of_dump.result in
    let size_is : size ≡ size_of_object c.args.ids object =
    c.bytes_of_dump.ensures ∙ ap (size_of_object c.args.ids) c.in-Some.ensures.found in
    record {
      heap = refl;
      names = refl;
      retained = refl;
      so_far = λ named objects so.
          let known = c.in_ok-label.ensures.labelling named so.labelling in
          let text = known.1.0 in
          let here : IsNumberOfFound facts new label (Some object) = (
            text,
            subst (λ o. IsObjectLabel facts o text) c.in-Some.ensures.found (c.kind_of.ensures facts text known.1.1),
            known.1.2,
          ) in
          record {
            labelling = known.0;
            labelled = subst (λ (p : ℕ). AreLabelled c.args.ids facts (objects ++ object ∷ []) retained new
                (slice_set sink.of_places.items p label) (slice_set sink.sizes.items p size)) (sym place)
                (labelled_now c.args.ids facts objects object id is retained sink.labelling sink.of_places.items sink.sizes.items
                so.labelled at found.0 found.1 placed (omega (arith, within, sink.as_many, sink.of_places.ok.0))
                (omega (arith, within, sink.sized, sink.sizes.ok.0)) new label size c.in_ok-label.ensures.stays here size_is);
          };
    }
