use Rattle.std.proofs.Common.{[], subst}
use Rattle.std.specs.Prelude.{IfSome}
use Rattle.hprof_heap.specs.HeapFacts.{facts_of, size_of}
use Rattle.hprof_naming.proofs.Namings.{of_text}
use Rattle.hprof_reach.specs.Reaching.{IsReach}
use Rattle.hprof_edges.specs.Edges.{AnyEdge}
use Rattle.hprof_edges.specs.LeftOut.{IsKept}
use Rattle.hprof_why.proofs.Choosing.{all_kept, path_same, reach_kept}
use Rattle.hprof_why.proofs.path.path_by_all.Goals as goal

pub returns-in-Some-clause-path : goal.returns-in-Some-clause-path
returns-in-Some-clause-path c =
    let ids = size_of c.args.heap.now in
    let facts = facts_of c.args.heap.now in
    of_text _ _ c.path_to.result
    (λ path is. path_same (IsKept [] facts) AnyEdge ids facts (all_kept ids facts) c.args.id path (is [] ids facts
    (reach_kept ids facts c.in-Some.reach (subst (λ all. IfSome all (IsReach ids facts)) c.in-Some.is c.requires))))
    c.path_to.ensures

pub returns-clause-path : goal.returns-clause-path
returns-clause-path c =
    let ids = size_of c.args.heap.now in
    let facts = facts_of c.args.heap.now in
    of_text _ _ c.path_to-path.result
    (λ path is. path_same (IsKept [] facts) AnyEdge ids facts (all_kept ids facts) c.args.id path
    (is [] ids facts (reach_kept ids facts c.in_ok-reach.reach c.in_ok-reach.ensures)))
    c.path_to-path.ensures
