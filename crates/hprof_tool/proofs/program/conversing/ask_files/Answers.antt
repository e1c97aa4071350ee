use Rattle.std.proofs.Common.{List, refl, sym, subst}
use Rattle.hprof_stored.specs.StoredMaking.{stored_dump_making}
use Rattle.hprof_tool.specs.Conversing.{OverFiles, OverReaders, SaysOfReaders}
use Rattle.hprof_tool.specs.Folder.{AreOpened}
use Rattle.hprof_tool.specs.Program.{IsReportRefusal}
use Rattle.hprof_tool.proofs.Conversing.{cannot_ask, leaves_over, over_files, says_files}
use Rattle.hprof_tool.proofs.Ends.{if_ok_more, if_err_more}
use Rattle.hprof_tool.proofs.program.conversing.ask_files.Goals as goal

pub ask_through_buffer-requires-clause-leave : goal.ask_through_buffer-requires-clause-leave
ask_through_buffer-requires-clause-leave g c =
    let answered = g.F.Folder.answered c.args.files.now in
    let opened = subst (λ (parts : List _). AreOpened answered c.args.names.now parts) (sym c.deref_mut.ensures.value)
    c.in-Ok.ensures.opened in
    c.requires.leave c.deref_mut.result.now opened

pub returns-clause-ok : goal.returns-clause-ok
returns-clause-ok g c =
    let answered = g.F.Folder.answered c.args.files.now in
    let opened = subst (λ (parts : List _). AreOpened answered c.args.names.now parts) (sym c.deref_mut.ensures.value)
    c.in-Ok.ensures.opened in
    if_ok_more _ _ c.ask_through_buffer.result
    (λ written all. over_files answered g.F.Part.Source.left g.Q.Asker.left g.O.Write.contents c.args.names.now c.args.questions.now
    c.args.output c.deref_mut.result.now opened g.Q.Asker.left c.args.questions.now refl _ all) c.ask_through_buffer.ensures.ok

pub returns-clause-refused : goal.returns-clause-refused
returns-clause-refused g c =
    let answered = g.F.Folder.answered c.args.files.now in
    let tells = g.F.Part.Source.left in
    let asked = g.Q.Asker.left in
    let contents = g.O.Write.contents in
    let names = c.args.names.now in
    let source = c.args.questions.now in
    let parts = c.deref_mut.result.now in
    let read = c.ask_through_buffer.new.readers in
    let opened = subst (λ (parts : List _). AreOpened answered names parts) (sym c.deref_mut.ensures.value) c.in-Ok.ensures.opened in
    if_err_more _ _ c.ask_through_buffer.result
    (λ stopped leaves. leaves_over contents c.args.output (OverReaders tells asked parts source)
    (OverFiles answered tells asked contents names source c.args.output)
    (over_files answered tells asked contents names source c.args.output parts opened asked source refl)
    (SaysOfReaders tells g.F.Part.Source.health g.F.Part.Source.pulls parts read)
    (IsReportRefusal stored_dump_making answered tells g.F.Part.Source.health g.F.Part.Source.pulls names)
    (says_files answered tells g.F.Part.Source.health g.F.Part.Source.pulls names parts read opened) stopped.why stopped.writer leaves)
    c.ask_through_buffer.ensures.stops

pub returns-in-Err-clause-refused : goal.returns-in-Err-clause-refused
returns-in-Err-clause-refused g c =
    let answered = g.F.Folder.answered c.args.files.now in
    cannot_ask answered g.F.Part.Source.left g.F.Part.Source.health g.F.Part.Source.pulls g.O.Write.contents c.args.names.now c.args.output
    (OverFiles answered g.F.Part.Source.left g.Q.Asker.left g.O.Write.contents c.args.names.now c.args.questions.now c.args.output)
    c.in-Err.why c.in-Err.ensures.kind
