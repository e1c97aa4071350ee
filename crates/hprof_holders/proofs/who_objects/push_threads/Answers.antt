use Rattle.std.proofs.Common.{inl, inr}
use Rattle.hprof_heap.specs.HeapFacts.{facts_of}
use Rattle.hprof_histogram.proofs.Members.{in_from_Contains}
use Rattle.hprof_holders.proofs.RootObjects.{grown, no_member, one_done}
use Rattle.hprof_holders.proofs.who_objects.push_threads.Goals as goal

pub loop-root-preserved : goal.loop-root-preserved
loop-root-preserved c =
    let facts = facts_of c.args.heap.now in
    let old = c.loop-root.nodes.items in
    let new = c.push_root_thread.new.nodes.items in
    let was = c.loop-root.invariant in
    let grows = c.in_ok-push_root_thread.ensures.grows in (
      grown c.args.nodes.now.items was.0.0 old grows.0 new was.0.1 grows.1,
      one_done facts c.args.roots.now c.loop-root.rest.now c.in-Some.after.now c.in-Some.root.now old grows.0 new
          c.in-Some.ensures.cases.0 grows.1 was.1 c.in_ok-push_root_thread.ensures.has,
    )

pub returns-clause-has : goal.returns-clause-has
returns-clause-has c = λ root there.
    elim (c.loop-root.invariant.1 root (in_from_Contains c.args.roots.now root there)) [
      | inl left ↦ absurd (no_member c.loop-root.rest.now root c.in_default.ensures.cases left)
      | inr has ↦ has
    ]
