use Rattle.hprof_text.proofs.IdTexts.{Remains}
use Rattle.hprof_text.proofs.identifier.push_id.Given as goal

abbrev pub invariant-loop-rest : goal.invariant-loop-rest
invariant-loop-rest l = Remains l.id l.start l.rest l.digits

abbrev pub decreases-loop-rest : goal.decreases-loop-rest
decreases-loop-rest l = l.rest
