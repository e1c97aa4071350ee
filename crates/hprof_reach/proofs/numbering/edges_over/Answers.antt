use Rattle.std.proofs.Common.{List, [], ◌∙◌, subst, arith}
use Rattle.hprof_edges.specs.declared.field_place.FieldPlace.{FieldPlace}
use Rattle.hprof_heap.specs.HeapFacts.{facts_of, size_of}
use Rattle.hprof_numbers.specs.Numbered.{nodes_in}
use Rattle.hprof_passes.specs.Passing.{objects_among}
use Rattle.hprof_reach.specs.EdgesMade.{AreKeptEdges}
use Rattle.hprof_reach.proofs.SeenObjects.{all_seen, objects_ascend, stays_over}
use Rattle.hprof_reach.proofs.numbering.edges_over.Goals as goal

pub returns-in-Ok-finish-clause-exact : goal.returns-in-Ok-finish-clause-exact
returns-in-Ok-finish-clause-exact g c =
    let ids = size_of c.args.heap.now in
    let facts = facts_of c.args.heap.now in
    let sink = c.in-Ok.sink in
    let made = c.in-Ok-finish.made in (
      c.in_ok-pass.ensures.agree,
      λ all make.
          let whole = g.met.O.Objects.whole c.args.objects.now ids facts all make in
          let took = c.in_ok-pass.ensures.given all make in
          let stays = stays_over ids (objects_among all) sink c.pass.new.sink took in
          let seen = all_seen ids all [] (objects_among all) 0 sink c.pass.new.sink took (c.in-Ok.ensures.seen all whole)
          (λ number early. absurd (omega (arith, early, c.in-Ok.ensures.none))) (objects_ascend all whole.ordered) in (
            c.in-Ok-finish.ensures.nodes ∙ stays.nodes ∙ c.in-Ok.ensures.nodes,
            subst (λ (fields : List FieldPlace). AreKeptEdges ids all fields (nodes_in made.0) made.1)
                (stays.fields ∙ c.in-Ok.ensures.left_out) (c.in-Ok-finish.ensures.exact ids all whole.ordered seen),
          ),
    )
