use Rattle.std.proofs.Common.{subst}
use Rattle.hprof_edges.specs.Edges.{AnyEdge}
use Rattle.hprof_heap.specs.HeapFacts.{facts_of, size_of}
use Rattle.hprof_why.specs.Paths.{IsPathTo}
use Rattle.hprof_why.proofs.reached.reached_without_strong.Goals as goal

pub returns-in-Some-clause-reached : goal.returns-in-Some-clause-reached
returns-in-Some-clause-reached c =
    subst (IsPathTo AnyEdge (size_of c.args.heap.now) (facts_of c.args.heap.now) c.args.id) c.in-Some.is c.in_ok-weakly.ensures.path

pub returns-in-None-clause-reached : goal.returns-in-None-clause-reached
returns-in-None-clause-reached c =
    subst (IsPathTo AnyEdge (size_of c.args.heap.now) (facts_of c.args.heap.now) c.args.id) c.in-None.is c.in_ok-weakly.ensures.path
