use Rattle.std.proofs.Common.{◌∙◌, rules}
use Rattle.hprof_heap.specs.HeapFacts.{facts_of, size_of}
use Rattle.hprof_passes.specs.Passing.{objects_among}
use Rattle.hprof_edges.proofs.KeptEdges.{edges_to}
use Rattle.hprof_edges.proofs.SeenReferrers.{all_put, keeps_same}
use Rattle.hprof_edges.proofs.to_identifier.referrers_over.Goals as goal

pub returns : goal.returns
returns g c =
    let ids = size_of c.args.heap.now in
    let facts = facts_of c.args.heap.now in
    let sink = c.in_ok-sink.sink in
    let new = c.pass.new.sink in (
      c.in_ok-pass.ensures.agree,
      λ all make.
          let whole = g.met.O.Objects.whole c.args.objects.now ids facts all make in
          let took = c.in_ok-pass.ensures.given all make in
          edges_to ids all c.args.id new.set c.sort_edges.new.edges.items c.sort_edges.ensures.ascend c.sort_edges.ensures.same
          (all_put ids facts all whole sink new took (search rules) (search rules))
          (keeps_same ids (objects_among all) sink new took ∙ search rules),
    )
