use Rattle.std.proofs.Common.{subst, sym}
use Rattle.hprof_objects.specs.declared.object_fault.ObjectFault.{ObjectFault}
use Rattle.hprof_objects.specs.MergedObjects.{TellsChange}
use Rattle.hprof_objects.proofs.OpeningFaults.{part_tells, scratch_tells}
use Rattle.hprof_objects.proofs.stored_objects.StoredObjects.open.Goals as goal

pub returns-in-Err-clause-again : goal.returns-in-Err-clause-again
returns-in-Err-clause-again g c =
    let told = g.P.Parts.bytes c.args.parts.now in
    subst (λ (s : ObjectFault g.row.F.Denot). TellsChange g.S.Target.written g.S.Target.health c.args.limits told c.args.self.now s)
    (sym c.scratch_stop.ensures)
    (scratch_tells g.row.F.Denot g.S.Target.written g.S.Target.health c.args.limits told c.args.self.now c.in-Err.fault
    c.in-Err.ensures.fault)

pub returns-clause-again : goal.returns-clause-again
returns-clause-again g c =
    let told = g.P.Parts.bytes c.args.parts.now in
    let fault = c.in-Err-open_stretches in
    subst (λ (s : ObjectFault g.row.F.Denot). TellsChange g.S.Target.written g.S.Target.health c.args.limits told c.args.self.now s)
    (sym c.part_stop.ensures)
    (part_tells g.row.F.Denot g.S.Target.written g.S.Target.health c.args.limits told c.args.self.now c.deref.result.now fault.part
    fault.fault
    c.deref.ensures.value fault.ensures.fault)
