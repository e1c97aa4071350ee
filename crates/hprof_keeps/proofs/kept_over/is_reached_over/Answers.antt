use Rattle.hprof_rows.proofs.Order.{order_agrees}
use Rattle.hprof_heap.specs.HeapFacts.{facts_of, size_of}
use Rattle.hprof_retained.proofs.KeptFound.{all_kept_on}
use Rattle.hprof_retained.proofs.WeaklyPassed.{reached_told}
use Rattle.hprof_keeps.proofs.kept_over.is_reached_over.Goals as goal

pub returns-clause-told : goal.returns-clause-told
returns-clause-told g c = (
  c.in_ok-reach.ensures.reach.0,
  λ all make.
      let ids = size_of c.args.heap.now in
      let whole = g.met.O.Objects.whole c.args.objects.now ids (facts_of c.args.heap.now) all make in
      reached_told ids all (order_agrees all whole.ordered) c.args.id c.is_reached-is_reached.result
      (c.is_reached-is_reached.ensures ids all (c.in_ok-reach.ensures.reach.1 all make)),
)
