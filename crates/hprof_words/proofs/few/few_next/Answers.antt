use Rattle.std.proofs.Common.{◌≡◌, ℕ, List, subst, sym}
use Rattle.hprof_heap.specs.Heap.{heap_of}
use Rattle.hprof_heap.specs.HeapFacts.{facts_of, size_of}
use Rattle.hprof_reports.proofs.FoundSo.{found_so}
use Rattle.hprof_words.specs.Few.{IsFew}
use Rattle.hprof_words.specs.Words.{HasNextOf}
use Rattle.hprof_words.proofs.WordsHeaps.{next_read}
use Rattle.hprof_words.proofs.few.few_next.Goals as goal

pub returns-in-Ok : goal.returns-in-Ok
returns-in-Ok g c =
    let ids = size_of c.args.heap.now in
    let facts = facts_of c.args.heap.now in
    let millis = (heap_of c.args.heap.now).millis in
    let objects = c.args.objects.now in
    let few = c.args.few in
    let some = few.wanted.items in
    let needed = c.in-Ok.needed.items in
    found_so (g.O.Objects.make_up objects ids facts) (g.O.Objects.agree objects ids facts) (g.O.Objects.tells objects ids facts)
    (λ all more. IsFew millis ids all more × (more.wanted.items ≡ needed))
    (λ all more. IsFew millis ids all more × HasNextOf ids all some more.wanted.items) c.few_more.result c.few_more.ensures
    (λ all more make is. (
      is.0,
      subst (HasNextOf ids all some) (sym is.1)
          (next_read millis ids facts all (g.met.O.Objects.whole objects ids facts all make) few.heap some (c.requires.few all make) needed
          (subst (λ (l : List ℕ). HasNextOf (size_of few.heap) (facts_of few.heap) l needed) c.deref.ensures.value c.in-Ok.ensures.has)),
    ))
