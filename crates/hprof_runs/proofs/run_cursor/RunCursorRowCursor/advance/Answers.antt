use Rattle.std.proofs.Common.{◌≡◌, Some, subst, false, true, sym, ◌∙◌, refl}
use Rattle.hprof_runs.specs.RunFault.{IfReadFailed}
use Rattle.hprof_runs.proofs.Going.{goes_no_further, goes_on, in_order}
use Rattle.hprof_runs.proofs.PassedOn.{if_error}
use Rattle.hprof_runs.proofs.run_cursor.RunCursorRowCursor.advance.Goals as goal

pub returns-in_err-next-clause-fails : goal.returns-in_err-next-clause-fails
returns-in_err-next-clause-fails g c =
    let old = c.args.self.now in
    let shown : old.shown ≡ Some c.in-Some.header = sym c.take.ensures.value ∙ c.in-Some.is in
    let fault = c.in_err-next.field-0.0 in
    if_error _ c.from_residual.result fault
    (record {
      damaged = goes_no_further g.S.Target.written old c.in-Some.header shown c.pass.new.self c.pass.ensures.bytes fault
          c.in_err-next.ensures.fault;
      read = subst (λ scratch. IfReadFailed fault (g.S.Scratch.unreadable scratch)) c.pass.ensures.scratch c.in_err-next.ensures.read;
    })
    c.from_residual.ensures.1

pub returns-then-not-is_below-clause-fails : goal.returns-then-not-is_below-clause-fails
returns-then-not-is_below-clause-fails g c =
    let old = c.args.self.now in
    let shown : old.shown ≡ Some c.in-Some.header = sym c.take.ensures.value ∙ c.in-Some.is in
    record {
      damaged = in_order g.S.Target.written old c.in-Some.header shown c.pass.new.self c.pass.ensures.bytes c.in_ok-next.next
          c.read.new.bytes c.in_ok-next.ensures.rows (λ up. let t : false ≡ true = c.if-not-is_below.ensures.1 up in cc);
      read = tt;
    }

pub returns-clause-goes : goal.returns-clause-goes
returns-clause-goes g c =
    let old = c.args.self.now in
    let shown : old.shown ≡ Some c.in-Some.header = sym c.take.ensures.value ∙ c.in-Some.is in
    goes_on g.S.Target.written old c.in-Some.header shown c.pass.new.self c.pass.ensures.bytes c.in_ok-next.next c.read.new.bytes
    c.in_ok-next.ensures.rows _ refl refl (c.if-not-is_below.ensures.0 refl) (c.in_ok-next.ensures.scratch ∙ c.pass.ensures.scratch)
