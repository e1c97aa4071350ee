use Rattle.std.proofs.Common.{inl, inr, refl, List, subst}
use Rattle.hprof_engine.specs.declared.salvaged.FaultedPart.{FaultedPart}
use Rattle.hprof_tool.specs.Telling.{TellsFaults, TellsSomeFaults}
use Rattle.hprof_tool.proofs.program.salvage.Goals as goal

pub returns-in-Err-clause-refused : goal.returns-in-Err-clause-refused
returns-in-Err-clause-refused g c = λ refused. (c.in-Err.why, inl (c.in-Err.ensures.refused, refl, refl), c.refuse.ensures.told)

pub returns-in-Ok-tell_faults-clause-done : goal.returns-in-Ok-tell_faults-clause-done
returns-in-Ok-tell_faults-clause-done g c = λ done.
    let told = c.in-Ok-tell_faults.ensures.told in (
      c.in-Ok.written.salvaged,
      (c.in-Ok.written.writer, refl, c.in-Ok.ensures.ok),
      (told.0, subst (λ (faults : List FaultedPart). TellsFaults faults told.0) c.deref.ensures.value told.1, told.2),
    )

pub returns-clause-refused : goal.returns-clause-refused
returns-clause-refused g c = λ refused. (
  c.in-Err-tell_faults.why,
  inr (record {
    salvaged = c.in-Ok.written.salvaged;
    written = c.in-Ok.written.writer;
    given_back = refl;
    saved = c.in-Ok.ensures.ok;
    told = subst (λ (faults : List FaultedPart). TellsSomeFaults faults (g.O.Write.contents c.args.output.now)
        (g.O.Write.contents c.tell_faults.new.output)) c.deref.ensures.value c.in-Err-tell_faults.ensures.front;
    failed = c.in-Err-tell_faults.ensures.failed;
  }),
  c.refuse-in-Err-tell_faults.ensures.told,
)
