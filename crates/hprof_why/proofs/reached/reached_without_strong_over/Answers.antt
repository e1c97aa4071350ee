use Rattle.std.proofs.Common.{[], None, Some, subst}
use Rattle.hprof_edges.specs.Edges.{AnyEdge}
use Rattle.hprof_edges.specs.LeftOut.{IsKept}
use Rattle.hprof_heap.specs.HeapFacts.{facts_of, size_of}
use Rattle.hprof_retained.proofs.KeptFound.{all_kept_on}
use Rattle.hprof_why.specs.Paths.{IsPathTo}
use Rattle.hprof_why.proofs.Choosing.{all_kept, path_same, reach_kept}
use Rattle.hprof_why.proofs.reached.reached_without_strong_over.Goals as goal

pub returns-in-Ok-Some-clause-reached : goal.returns-in-Ok-Some-clause-reached
returns-in-Ok-Some-clause-reached g c = (
  c.in_ok-all.ensures.reach.0,
  λ all make.
      let ids = size_of c.args.heap.now in
      let found = c.in-Ok-Some.ensures [] ids all (reach_kept ids all c.in_ok-all.all (c.in_ok-all.ensures.reach.1 all make)) in
      path_same (IsKept [] all) AnyEdge ids all (all_kept ids all) c.args.id (Some c.in-Ok-Some.path)
      (subst (IsPathTo (IsKept [] all) ids all c.args.id) c.in-Ok-Some.field-0-is found),
)

pub returns-in-Ok-None-clause-reached : goal.returns-in-Ok-None-clause-reached
returns-in-Ok-None-clause-reached g c = (
  c.in_ok-all.ensures.reach.0,
  λ all make.
      let ids = size_of c.args.heap.now in
      let found = c.in-Ok-None.ensures [] ids all (reach_kept ids all c.in_ok-all.all (c.in_ok-all.ensures.reach.1 all make)) in
      path_same (IsKept [] all) AnyEdge ids all (all_kept ids all) c.args.id None
      (subst (IsPathTo (IsKept [] all) ids all c.args.id) c.in-Ok-None.field-0-is found),
)
