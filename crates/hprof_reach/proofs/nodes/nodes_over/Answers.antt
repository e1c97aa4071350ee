use Rattle.hprof_heap.specs.HeapFacts.{facts_of, size_of}
use Rattle.hprof_passes.specs.Passing.{objects_among}
use Rattle.hprof_reach.proofs.SeenObjects.{nodes_given}
use Rattle.hprof_reach.proofs.Wholes.{all_nodes}
use Rattle.hprof_reach.proofs.nodes.nodes_over.Goals as goal

pub returns-in-Ok-sort_once-clause-all : goal.returns-in-Ok-sort_once-clause-all
returns-in-Ok-sort_once-clause-all g c =
    let ids = size_of c.args.heap.now in
    let facts = facts_of c.args.heap.now in (
      c.in_ok-pass.ensures.agree,
      λ all make. all_nodes ids facts all (g.met.O.Objects.whole c.args.objects.now ids facts all make) c.in-Ok.sink.nodes.items
          c.pass.new.sink.nodes.items c.sort_once.new.nodes.items c.in-Ok.ensures
          (nodes_given ids (objects_among all) c.in-Ok.sink c.pass.new.sink (c.in_ok-pass.ensures.given all make))
          c.in-Ok-sort_once.ensures.same,
    )
