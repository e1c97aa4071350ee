use Rattle.hprof_heap.specs.HeapFacts.{size_of}
use Rattle.hprof_histogram.proofs.FactCounts.{tally_of_all}
use Rattle.hprof_histogram.proofs.counting.count_objects.Goals as goal

pub returns-in-Ok : goal.returns-in-Ok
returns-in-Ok g c = (
  c.in-Ok.ensures.agree,
  λ all make. tally_of_all (size_of c.args.heap.now) all c.new-tally.result c.pass.new.sink c.new-tally.ensures
      (c.in-Ok.ensures.given all make),
)
