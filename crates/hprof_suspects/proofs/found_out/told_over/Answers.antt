use Rattle.hprof_heap.specs.HeapFacts.{facts_of, size_of}
use Rattle.hprof_rows.proofs.Order.{order_agrees}
use Rattle.hprof_suspects.proofs.found_out.told_over.Goals as goal

pub returns-in-Ok-all_told-clause-told : goal.returns-in-Ok-all_told-clause-told
returns-in-Ok-all_told-clause-told g c =
    let ids = size_of c.args.heap.now in
    let facts = facts_of c.args.heap.now in (
      c.in_ok-labels.ensures.labels.0,
      λ all make.
          let whole = g.met.O.Objects.whole c.args.objects.now ids facts all make in
          let labels = c.in_ok-labels.ensures.labels.1 all make in
          let alone = c.in_ok-alone.ensures.alone.1 all make labels.0 in
          c.in-Ok-all_told.ensures.told ids all (record {
            agree = order_agrees all whole.ordered;
            tree = c.requires all make;
            labelled = labels.0;
            alone = alone;
          }),
    )
