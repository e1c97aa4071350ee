use Rattle.std.proofs.Common.{None, Some, subst}
use Rattle.hprof_edges.specs.LeftOut.{IsKept}
use Rattle.hprof_heap.specs.HeapFacts.{facts_of, size_of}
use Rattle.hprof_reports.proofs.FoundSo.{found_so}
use Rattle.hprof_retained.proofs.KeptFound.{strong_kept_on}
use Rattle.hprof_weak.specs.Weak.{IsStrong}
use Rattle.hprof_why.specs.Paths.{IsPathTo, IsReached, IsWithoutStrong}
use Rattle.hprof_why.proofs.Choosing.{path_same, strong_kept}
use Rattle.hprof_why.proofs.HowReached.{reached_otherwise}
use Rattle.hprof_why.proofs.reached.reached_over.Goals as goal

pub returns-in-Ok-Some-clause-reached : goal.returns-in-Ok-Some-clause-reached
returns-in-Ok-Some-clause-reached g c = (
  c.in_ok-strong.ensures.reach.0,
  λ all make.
      let ids = size_of c.args.heap.now in
      let strong = c.in_ok-strong.ensures.reach.1 all make in
      path_same (IsKept strong.fields all) (IsStrong all) ids all (strong_kept ids all strong.fields strong.weak) c.args.id
      (Some c.in-Ok-Some.path)
      (subst (IsPathTo (IsKept strong.fields all) ids all c.args.id) c.in-Ok-Some.field-0-is
      (c.in-Ok-Some.ensures strong.fields ids all strong.is)),
)

pub returns-in-Ok-None-clause-reached : goal.returns-in-Ok-None-clause-reached
returns-in-Ok-None-clause-reached g c =
    let ids = size_of c.args.heap.now in
    let facts = facts_of c.args.heap.now in
    let objects = c.args.objects.now in
    found_so (g.O.Objects.make_up objects ids facts) (g.O.Objects.agree objects ids facts) (g.O.Objects.tells objects ids facts)
    (λ all. IsWithoutStrong ids all c.args.id) (λ all. IsReached ids all c.args.id) c.reached_without_strong_over.result
    c.reached_without_strong_over.ensures.reached
    (λ all how make is.
    let strong = c.in_ok-strong.ensures.reach.1 all make in
    reached_otherwise ids all c.args.id how
    (path_same (IsKept strong.fields all) (IsStrong all) ids all (strong_kept ids all strong.fields strong.weak) c.args.id None
    (subst (IsPathTo (IsKept strong.fields all) ids all c.args.id) c.in-Ok-None.field-0-is
    (c.in-Ok-None.ensures strong.fields ids all strong.is))) is)
