use Rattle.std.proofs.Common.{length}
use Rattle.hprof_text.proofs.Fronts.{Front}
use Rattle.hprof_text.proofs.decoding.decoded.Given as goal

abbrev pub invariant-loop-unit : goal.invariant-loop-unit
invariant-loop-unit l = Front l.units.items l.bytes l.rest

abbrev pub decreases-loop-unit : goal.decreases-loop-unit
decreases-loop-unit l = length l.rest
