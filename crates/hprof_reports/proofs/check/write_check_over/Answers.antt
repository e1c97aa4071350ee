use Rattle.hprof_heap.specs.HeapFacts.{facts_of, size_of}
use Rattle.hprof_reports.proofs.check.write_check_over.Goals as goal

pub returns-in-Err-write_counts : goal.returns-in-Err-write_counts
returns-in-Err-write_counts g c = (
  c.in-Ok.ensures.agree,
  λ all make.
      let whole = g.met.O.Objects.whole c.args.objects.now (size_of c.args.heap.now) (facts_of c.args.heap.now) all make in
      let front = c.in-Err-write_counts.ensures.bytes all whole (c.in-Ok.ensures.value all make) in
      (front.0, front.2.0, front.2.1, front.1, front.2.2),
  c.in-Err-write_counts.ensures.health,
)
