use Rattle.std.proofs.Common.{subst}
use Rattle.hprof_runs.specs.RunFault.{IfReadFailed}
use Rattle.hprof_runs.proofs.PassedOn.{if_error}
use Rattle.hprof_runs.proofs.run_bytes.RunBytes.hold.Goals as goal

pub returns-in_err-fill-clause-read : goal.returns-in_err-fill-clause-read
returns-in_err-fill-clause-read g c =
    if_error _ c.from_residual.result c.in_err-fill.field-0.0
    (subst (λ scratch. IfReadFailed c.in_err-fill.field-0.0 (g.S.Scratch.unreadable scratch)) c.loop-self.invariant.scratch
    c.in_err-fill.ensures.read)
    c.from_residual.ensures.1
