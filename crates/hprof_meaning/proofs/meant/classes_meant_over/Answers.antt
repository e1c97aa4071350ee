use Rattle.std.proofs.Common.{ap, sym, subst, ◌∙◌}
use Rattle.std.specs.List.Sorted.{IsStrictlyIncreasing}
use Rattle.std.proofs.lemmas.List.Kept.{IsStrictlyIncreasing-filter}
use Rattle.hprof_rows.proofs.Order.{order_agrees}
use Rattle.hprof_heap.specs.HeapFacts.{facts_of, size_of}
use Rattle.hprof_meaning.specs.Judgements.{is_meant, meant_of}
use Rattle.hprof_meaning.proofs.LabelTexts.{labels_exist}
use Rattle.hprof_meaning.proofs.MeantLists.{meant_classes}
use Rattle.hprof_meaning.proofs.WholeLabels.{bare_labels_same}
use Rattle.hprof_meaning.proofs.meant.classes_meant_over.Goals as goal

pub returns-in-Ok-clause-meant : goal.returns-in-Ok-clause-meant
returns-in-Ok-clause-meant g c = λ word meant.
    let ids = size_of c.args.heap.now in
    let facts = facts_of c.args.heap.now in (
      c.in_ok-classes.ensures.all.0,
      λ all make.
          let whole = g.met.O.Objects.whole c.args.objects.now ids facts all make in
          let label = labels_exist all in
          meant_classes all (order_agrees all whole.ordered) word label.0 label.1 c.in_ok-classes.classes.items c.in-Ok.found.items
          (c.in_ok-classes.ensures.all.1 all make)
          (c.in-Ok.ensures word label.0 meant (bare_labels_same ids facts all whole label.0 label.1)
          ∙ ap (meant_of word label.0) c.deref.ensures.value),
    )

pub returns-in-Ok-clause-ascend : goal.returns-in-Ok-clause-ascend
returns-in-Ok-clause-ascend g c = λ word meant.
    let label = labels_exist (facts_of c.args.heap.now) in
    subst IsStrictlyIncreasing
    (sym (c.in-Ok.ensures word label.0 meant label.1 ∙ ap (meant_of word label.0) c.deref.ensures.value))
    (IsStrictlyIncreasing-filter (λ id. is_meant word (label.0 id)) c.in_ok-classes.classes.items c.in_ok-classes.ensures.ascend)
