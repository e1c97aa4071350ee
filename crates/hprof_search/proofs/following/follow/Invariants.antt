use Rattle.std.proofs.Common.{take}
use Rattle.hprof_search.specs.Finds.{Follows, LeadsFrom, finds_of}
use Rattle.hprof_search.proofs.following.follow.Given as goal

abbrev pub invariant-loop-number : goal.invariant-loop-number
invariant-loop-number l = Follows (LeadsFrom l.from (take l.number-index l.numbers)) (finds_of l.initial.trail) (finds_of l.trail)
