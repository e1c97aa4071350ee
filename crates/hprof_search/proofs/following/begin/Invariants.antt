use Rattle.std.proofs.Common.{None, take}
use Rattle.hprof_search.specs.Finds.{Follows, LeadsTo, finds_of}
use Rattle.hprof_search.proofs.following.begin.Given as goal

abbrev pub invariant-loop-start : goal.invariant-loop-start
invariant-loop-start l =
    Follows (LeadsTo l.numbered.nodes.items None (take l.start-index l.starts)) (finds_of l.initial.trail) (finds_of l.trail)
