use Rattle.std.proofs.Common.{◌∷◌, [], ◌++◌, subst, List}
use Rattle.std.proofs.lemmas.List.{take_all}
use Rattle.hprof_engine.specs.declared.salvaged.FaultedPart.{FaultedPart}
use Rattle.hprof_tool.specs.Telling.{TellsFaults}
use Rattle.hprof_tool.proofs.Ends.{on_an_error}
use Rattle.std.proofs.KnownBytes.{Appends-trans}
use Rattle.hprof_tool.specs.Telling.{line_end}
use Rattle.hprof_tool.proofs.Telling.{stopped_at, told_and_kept, told_at}
use Rattle.hprof_tool.proofs.program.salvaging.tell_faults.Goals as goal

pub loop-fault-preserved : goal.loop-fault-preserved
loop-fault-preserved g c =
    let told = c.loop-fault.invariant.told in
    let line = c.in_ok-tell_fault.ensures.told in
    record {
      told = (
        told.0 ++ (line.0 ++ line_end ∷ []),
        told_at c.args.faults.now c.loop-fault.fault-index _ told.0 line.0 c.loop-fault-test.true told.1 line.1,
        Appends-trans (g.O.Write.contents c.args.output.now) (g.O.Write.contents c.loop-fault.output)
            (g.O.Write.contents c.tell_fault.new.output) told.0 (line.0 ++ line_end ∷ []) told.2 line.2,
      );
    }

pub returns-in_err-tell_fault-clause-front : goal.returns-in_err-tell_fault-clause-front
returns-in_err-tell_fault-clause-front g c =
    let told = c.loop-fault.invariant.told in
    let front = c.in_err-tell_fault.ensures.front in
    on_an_error _ c.from_residual.result (stopped_at c.args.faults.now c.loop-fault.fault-index _ told.0 front.0
    (g.O.Write.contents c.args.output.now) (g.O.Write.contents c.loop-fault.output) (g.O.Write.contents c.tell_fault.new.output)
    c.loop-fault-test.true told.1 told.2 front.1 front.2)

pub returns-then-is_err-clause-front : goal.returns-then-is_err-clause-front
returns-then-is_err-clause-front g c =
    let told = c.loop-fault.invariant.told in
    let all = subst (λ (faults : List FaultedPart). TellsFaults faults told.0)
    (take_all c.loop-fault.fault-index c.args.faults.now c.loop-fault-test.false) told.1 in
    told_and_kept c.args.faults.now told.0 (g.O.Write.contents c.args.output.now) (g.O.Write.contents c.loop-fault.output)
    (g.O.Write.contents c.flush.new.self) all told.2 c.flush.ensures.bytes
