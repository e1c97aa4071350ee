use Rattle.std.proofs.Common.{◌≡◌, ◌++◌, length}
use Rattle.hprof_holders.proofs.PushedThreads.{objects_in}
use Rattle.hprof_holders.proofs.thread_objects.push_held.Given as goal

abbrev pub invariant-loop-held : goal.invariant-loop-held
invariant-loop-held l = l.nodes.items ++ objects_in l.rest ≡ l.fn.nodes.items ++ objects_in l.rows

abbrev pub decreases-loop-held : goal.decreases-loop-held
decreases-loop-held l = length l.rest
