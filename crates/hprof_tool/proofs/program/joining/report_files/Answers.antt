use Rattle.std.proofs.Common.{List, [], length, Some, inl, refl, sym, ap, subst, ◌∙◌}
use Rattle.hprof_tool.specs.Folder.{AreOpened}
use Rattle.hprof_tool.specs.declared.program.refused.Refused.{Refused}
use Rattle.hprof_tool.specs.Streams.{IsFrontOfFiles, RefusesReport}
use Rattle.hprof_tool.proofs.Making.{none_added}
use Rattle.hprof_tool.proofs.Ends.{if_ok_more, if_err_more}
use Rattle.hprof_tool.proofs.Files.{opening_reports, of_reporting}
use Rattle.hprof_tool.proofs.Streams.{stream_refusal, stream_kind, stream_no_parts, stream_left, kept_at_opening}
use Rattle.hprof_tool.proofs.program.joining.report_files.Goals as goal

pub returns-clause-ok : goal.returns-clause-ok
returns-clause-ok g c =
    let answered = g.F.Folder.answered c.args.files.now in
    let opened = subst (λ (parts : List _). AreOpened answered c.args.names.now parts) (sym c.deref_mut.ensures.value)
    c.in-Ok.ensures.opened in
    if_ok_more _ _ c.write_through_buffer.result
    (λ written makes. record { parts = c.deref_mut.result.now; opened = opened; holds = (makes.1.ok refl).1 })
    c.write_through_buffer.ensures.ok

pub returns-clause-no_parts : goal.returns-clause-no_parts
returns-clause-no_parts g c = if_err_more _ _ c.write_through_buffer.result
    (λ stopped stops same. sym c.in-Ok.ensures.count ∙ ap length (sym c.deref_mut.ensures.value)
    ∙ stream_no_parts _ _ _ _ _ _ _ _ stopped.why stopped.writer stops same) c.write_through_buffer.ensures.stops

pub returns-clause-refused : goal.returns-clause-refused
returns-clause-refused g c =
    let making = g.P.Made.making c.args.report.now in
    let answered = g.F.Folder.answered c.args.files.now in
    let left = g.F.Part.Source.left in
    let parts = c.deref_mut.result.now in
    let opened = subst (λ (parts : List _). AreOpened answered c.args.names.now parts) (sym c.deref_mut.ensures.value)
    c.in-Ok.ensures.opened in
    if_err_more _ _ c.write_through_buffer.result (λ stopped stops. (
      of_reporting making answered left g.F.Part.Source.health g.F.Part.Source.pulls c.args.names.now
          parts
          c.write_through_buffer.new.readers opened stopped.why
          (stream_kind _ _ _ _ _ making _ _ stopped.why stopped.writer stops)
          (stream_refusal _ _ _ _ _ making _ _ stopped.why stopped.writer stops),
      stream_left _ _ _ _ _ making _ _ (IsFrontOfFiles making.IsMade answered left c.args.names.now)
          (λ held holds writes. record { parts = parts; opened = opened; holds = writes }) stopped.why stopped.writer stops,
    )) c.write_through_buffer.ensures.stops

pub returns-in-Err-clause-refused : goal.returns-in-Err-clause-refused
returns-in-Err-clause-refused g c =
    let making = g.P.Made.making c.args.report.now in
    let answered = g.F.Folder.answered c.args.files.now in (
      opening_reports making answered g.F.Part.Source.left g.F.Part.Source.health g.F.Part.Source.pulls c.args.names.now c.in-Err.why
          c.in-Err.ensures.kind,
      kept_at_opening g.O.Write.contents (IsFrontOfFiles making.IsMade answered g.F.Part.Source.left c.args.names.now) answered
          c.args.names.now c.in-Err.why c.args.output c.in-Err.ensures.kind,
    )

pub returns-in-Err-again_for-clause-refused : goal.returns-in-Err-again_for-clause-refused
returns-in-Err-again_for-clause-refused g c =
    subst (λ (why : Refused). RefusesReport (g.P.Made.making c.args.report.now) (g.F.Folder.answered c.args.files.now) g.F.Part.Source.left
    g.F.Part.Source.health g.F.Part.Source.pulls g.O.Write.contents c.args.names.now c.args.output why (Some c.args.output))
    (sym c.in-Err-again_for.ensures.refused) (tt, ([], inl (none_added (g.O.Write.contents c.args.output))))
