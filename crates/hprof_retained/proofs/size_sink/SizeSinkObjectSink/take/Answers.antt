use Rattle.std.specs.Prelude.{slice_index}
use Rattle.std.proofs.Common.{◌≡◌, ◌<◌, ◌∙◌, Some, None, refl, sym, ap, subst, arith}
use Rattle.hprof_items.specs.FactValue.{value_of}
use Rattle.hprof_heap.specs.Objects.{IsObject}
use Rattle.hprof_histogram.specs.Histogram.{size_of_object}
use Rattle.hprof_dominators.specs.Tree.{place_of}
use Rattle.hprof_numbers.specs.Numbered.{nodes_in}
use Rattle.hprof_numbers.specs.Places.{number_in}
use Rattle.hprof_numbers.proofs.Ascending.{one_place}
use Rattle.hprof_numbers.proofs.Placed.{has_place, stands}
use Rattle.hprof_retained.specs.Retained.{size_of_found}
use Rattle.hprof_retained.proofs.SizedNodes.{all_still, found_still, size_put}
use Rattle.hprof_retained.proofs.size_sink.SizeSinkObjectSink.take.Goals as goal

pub returns-in_default-clause-takes : goal.returns-in_default-clause-takes
returns-in_default-clause-takes c =
    let retained = c.args.self.now.retained in
    let object = value_of c.args.object.now in
    record {
      same = λ graph over. over;
      sized = λ objects sized number low placed.
          let node = slice_index (nodes_in retained.nodes) number in
          found_still objects object node
          (λ found. slice_index retained.bytes.items (place_of retained.tree number) ≡ size_of_found c.args.ids found)
          (λ of. c.in_default.ensures.none node of) (sized number low placed);
    }

pub returns-in_default-number_of-clause-takes : goal.returns-in_default-number_of-clause-takes
returns-in_default-number_of-clause-takes c =
    let retained = c.args.self.now.retained in
    let nodes = nodes_in retained.nodes in
    let object = value_of c.args.object.now in
    let is = subst (IsObject c.id_of.result) c.in-Some.ensures.found c.id_of.ensures in
    record {
      same = λ graph over. over;
      sized = λ objects sized. all_still retained objects object c.id_of.result is
          (λ number found. slice_index retained.bytes.items (place_of retained.tree number) ≡ size_of_found c.args.ids found) sized
          (λ number low placed same.
          let found = has_place nodes (slice_index nodes number) retained.nodes.ascend number low refl in
          let clash : None ≡ Some number =
          sym c.in_default-number_of.is ∙ c.number_of.ensures ∙ ap (number_in nodes) same ∙ found in
          absurd cc);
    }

pub returns-then-place-eq0-clause-takes : goal.returns-then-place-eq0-clause-takes
returns-then-place-eq0-clause-takes c =
    let retained = c.args.self.now.retained in
    let nodes = nodes_in retained.nodes in
    let object = value_of c.args.object.now in
    let is = subst (IsObject c.id_of.result) c.in-Some.ensures.found c.id_of.ensures in
    let found = stands nodes c.id_of.result c.in-Some-number_of.number (sym c.in-Some-number_of.ensures) in
    record {
      same = λ graph over. over;
      sized = λ objects sized. all_still retained objects object c.id_of.result is
          (λ number found. slice_index retained.bytes.items (place_of retained.tree number) ≡ size_of_found c.args.ids found) sized
          (λ number low placed same.
          let e = one_place nodes retained.nodes.ascend number c.in-Some-number_of.number low found.0 (sym same ∙ sym found.1) in
          omega (arith, placed, ap (place_of retained.tree) e, c.place_of-place.ensures, c.if-place-eq0.true));
    }

pub returns-clause-takes : goal.returns-clause-takes
returns-clause-takes c =
    let retained = c.args.self.now.retained in
    let nodes = nodes_in retained.nodes in
    let object = value_of c.args.object.now in
    let is = subst (IsObject c.id_of.result) c.in-Some.ensures.found c.id_of.ensures in
    let at = c.in-Some-number_of.number in
    let found = stands nodes c.id_of.result at (sym c.in-Some-number_of.ensures) in
    let size_is : c.bytes_of_dump.result ≡ size_of_object c.args.ids object =
    c.bytes_of_dump.ensures ∙ ap (size_of_object c.args.ids) c.in-Some.ensures.found in
    let placed : 0 < place_of retained.tree at = omega (arith, c.place_of-place.ensures, c.if-place-eq0.false) in
    let within = (retained.numbered.new at placed).0 in
    record {
      same = λ graph over. record { nodes = over.nodes; tree_is = over.tree_is; preorder = over.preorder };
      sized = λ objects sized. rw c.place_of-place.ensures
          (size_put retained c.args.ids objects object c.id_of.result is retained.bytes.items sized at found.0 found.1 placed
          (omega (arith, within, retained.sized, retained.bytes.ok.0)) c.bytes_of_dump.result size_is);
    }

pub bytes_of_dump-requires : goal.bytes_of_dump-requires
bytes_of_dump-requires c = c.in-Some.ensures.lists c.args.ids c.requires.lists
