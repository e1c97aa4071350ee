use Rattle.std.proofs.Common.{◌∙◌}
use Rattle.hprof_heap.specs.HeapFacts.{facts_of, size_of}
use Rattle.hprof_by_label.proofs.TakenLabels.{labels_of_all}
use Rattle.hprof_by_label.proofs.labels.labels_over.Goals as goal

pub returns-in-Ok-finish-clause-as_many : goal.returns-in-Ok-finish-clause-as_many
returns-in-Ok-finish-clause-as_many g c = c.in-Ok-finish.ensures.as_many ∙ c.len.ensures

pub returns-in-Ok-finish-clause-labels : goal.returns-in-Ok-finish-clause-labels
returns-in-Ok-finish-clause-labels g c =
    let ids = size_of c.args.heap.now in
    let facts = facts_of c.args.heap.now in
    let made = c.in-Ok.ensures in
    let finished = c.in-Ok-finish.ensures in (
      c.in-Ok-pass.ensures.agree,
      λ all make. labels_of_all ids c.args.heap.now c.args.names.now c.args.retained.now c.holds_of_heap.ensures.agree c.requires all
          (g.met.O.Objects.whole c.args.objects.now ids facts all make) c.in-Ok.sink c.pass.new.sink made.heap made.names made.retained
          (made.so_far c.requires ids) (c.in-Ok-pass.ensures.given all make) c.in-Ok-finish.labels finished.texts finished.of_places
          finished.sizes (finished.as_many ∙ c.len.ensures),
    )
