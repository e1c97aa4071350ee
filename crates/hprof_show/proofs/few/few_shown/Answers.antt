use Rattle.std.proofs.Common.{◌≡◌, ◌∙◌, subst, sym}
use Rattle.hprof_heap.specs.Heap.{heap_of}
use Rattle.hprof_heap.specs.HeapFacts.{facts_of, size_of}
use Rattle.hprof_reports.proofs.FoundSo.{found_so}
use Rattle.hprof_words.specs.Few.{IsFew}
use Rattle.hprof_show.specs.ShownObjects.{HasShownIds}
use Rattle.hprof_words.proofs.Among.{alone}
use Rattle.hprof_show.proofs.FewHeaps.{shown_read}
use Rattle.hprof_show.proofs.few.few_shown.Goals as goal

pub returns-in-Ok-shown_ids : goal.returns-in-Ok-shown_ids
returns-in-Ok-shown_ids g c =
    let ids = size_of c.args.heap.now in
    let facts = facts_of c.args.heap.now in
    let millis = (heap_of c.args.heap.now).millis in
    let objects = c.args.objects.now in
    let id = c.args.id in
    let few = c.in_ok-few.few in
    let some = few.wanted.items in
    let shown = c.in-Ok-shown_ids.shown.items in
    let was = c.in_ok-few.ensures in
    found_so (g.O.Objects.make_up objects ids facts) (g.O.Objects.agree objects ids facts) (g.O.Objects.tells objects ids facts)
    (λ all more. IsFew millis ids all more × (more.wanted.items ≡ shown))
    (λ all more. IsFew millis ids all more × HasShownIds ids all id more.wanted.items) c.few_more.result c.few_more.ensures
    (λ all more make is. (
      is.0,
      subst (HasShownIds ids all id) (sym is.1)
          (shown_read millis ids facts all (g.met.O.Objects.whole objects ids facts all make) few.heap some (was.1 all make).0 id
          (alone some id ((was.1 all make).1 ∙ c.in-Ok.ensures)) shown c.in-Ok-shown_ids.ensures.has),
    ))
