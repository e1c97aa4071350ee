use Rattle.std.proofs.Common.{◌≡◌, length}
use Rattle.hprof_runs.specs.Other.{some_content}
use Rattle.hprof_runs.specs.Picked.{others_behind}
use Rattle.hprof_runs.specs.Places.{rows_lying}
use Rattle.hprof_runs.proofs.others.next_other.Given as goal

abbrev pub invariant-loop-place : goal.invariant-loop-place
invariant-loop-place l =
    others_behind l.key (some_content l.bytes l.content) (rows_lying l.bytes l.rest)
    ≡ others_behind l.fn.key (some_content l.bytes l.fn.content) (rows_lying l.bytes l.places)

abbrev pub decreases-loop-place : goal.decreases-loop-place
decreases-loop-place l = length l.rest
