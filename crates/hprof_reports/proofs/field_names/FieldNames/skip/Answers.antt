use Rattle.std.proofs.Common.{ℕ, List, sym, subst}
use Rattle.std.specs.List.{AllByRecursion}
use Rattle.hprof_heap.specs.HeapFacts.{facts_of}
use Rattle.hprof_reports.specs.Skipped.{HasSameLayout}
use Rattle.hprof_reports.proofs.Finding.{all_passed}
use Rattle.hprof_reports.proofs.KnownChains.{same_further}
use Rattle.hprof_reports.proofs.field_names.FieldNames.skip.Goals as goal

pub loop-passed-preserved : goal.loop-passed-preserved
loop-passed-preserved c = λ skips.
    let facts = facts_of c.args.heap.now in
    let before = c.loop-passed.invariant skips in
    let step = c.in-Some.ensures skips in (
      same_further facts c.args.class c.loop-passed.at c.in-Some.next before.0 step,
      subst (λ (l : List ℕ). AllByRecursion (λ (class : ℕ). HasSameLayout facts class c.in-Some.next) l)
          (sym c.in_ok-push-in-Some.ensures.items)
          (all_passed facts c.loop-passed.passed.items c.loop-passed.at c.in-Some.next before.1 step),
    )

pub returns-clause-skips : goal.returns-clause-skips
returns-clause-skips c = λ skips.
    c.in_ok-remember.ensures (subst (λ (l : List ℕ).
    AllByRecursion (λ (class : ℕ). HasSameLayout (facts_of c.args.heap.now) class c.loop-passed.at) l) (sym c.deref.ensures.value)
    (c.loop-passed.invariant skips).1) skips
