use Rattle.hprof_heap.specs.HeapFacts.{facts_of, size_of}
use Rattle.hprof_retained.proofs.BorderPassed.{around_over}
use Rattle.hprof_retained.proofs.border_sink.border_over.Goals as goal

pub returns-in-Ok-sort_once-clause-around : goal.returns-in-Ok-sort_once-clause-around
returns-in-Ok-sort_once-clause-around g c =
    let ids = size_of c.args.heap.now in
    let facts = facts_of c.args.heap.now in
    let begun = c.in-Ok.ensures in (
      c.in-Ok-pass.ensures.agree,
      λ all make. around_over ids c.args.retained.now c.args.weak.now facts all
          (g.met.O.Objects.whole c.args.objects.now ids facts all make) c.in-Ok.sink c.pass.new.sink begun.retained begun.weak begun.others
          begun.sources (c.in-Ok-pass.ensures.given all make) c.sort_once.new.nodes.items c.in-Ok-sort_once.ensures.same,
    )
