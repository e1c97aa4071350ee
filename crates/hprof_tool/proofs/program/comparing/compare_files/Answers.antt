use Rattle.std.proofs.Common.{List, sym, subst}
use Rattle.std.specs.Prelude.{IfSome}
use Rattle.hprof_tool.specs.Again.{IsReadyFor}
use Rattle.hprof_tool.specs.Comparing.{IsOneOpened}
use Rattle.hprof_tool.proofs.Comparing.{dumps_refused, newer_unopened, older_unopened, over_dumps}
use Rattle.hprof_tool.proofs.Ends.{if_err_more, if_ok_more}
use Rattle.hprof_tool.proofs.program.comparing.compare_files.Goals as goal

pub returns-in-Err-clause-refused : goal.returns-in-Err-clause-refused
returns-in-Err-clause-refused g c =
    older_unopened (g.F.Folder.answered c.args.files.now) g.F.Part.Source.left g.F.Part.Source.health g.F.Part.Source.pulls
    c.args.older.now c.args.newer.now g.O.Write.contents
    c.args.output c.in-Err.why c.in-Err.ensures.kind

pub returns-in-Err-open_dump-clause-refused : goal.returns-in-Err-open_dump-clause-refused
returns-in-Err-open_dump-clause-refused g c =
    newer_unopened (g.F.Folder.answered c.args.files.now) g.F.Part.Source.left g.F.Part.Source.health g.F.Part.Source.pulls
    c.args.older.now c.args.newer.now g.O.Write.contents
    c.args.output c.in-Ok.dump.parts.items c.in-Ok.ensures.opened c.in-Err-open_dump.why c.in-Err-open_dump.ensures.kind

pub compare_readers-requires-clause-olds_again : goal.compare_readers-requires-clause-olds_again
compare_readers-requires-clause-olds_again g c =
    subst (λ (parts : List _). IfSome c.in-Ok.dump.again (IsReadyFor g.F.Part.Source.left g.F.Handle.ReadAt.bytes
    g.F.Scratch.Target.written g.F.Scratch.Target.health parts)) (sym c.deref_mut.ensures.value) c.in-Ok.ensures.ready

pub compare_readers-requires-clause-news_again : goal.compare_readers-requires-clause-news_again
compare_readers-requires-clause-news_again g c =
    subst (λ (parts : List _). IfSome c.in-Ok-open_dump.dump.again (IsReadyFor g.F.Part.Source.left g.F.Handle.ReadAt.bytes
    g.F.Scratch.Target.written g.F.Scratch.Target.health parts)) (sym c.deref_mut-2.ensures.value) c.in-Ok-open_dump.ensures.ready

pub returns-clause-ok : goal.returns-clause-ok
returns-clause-ok g c =
    let answered = g.F.Folder.answered c.args.files.now in
    let opened = subst (λ (parts : List _). IsOneOpened answered c.args.older.now parts) (sym c.deref_mut.ensures.value)
    c.in-Ok.ensures.opened in
    let opened_too = subst (λ (parts : List _). IsOneOpened answered c.args.newer.now parts) (sym c.deref_mut-2.ensures.value)
    c.in-Ok-open_dump.ensures.opened in
    if_ok_more _ _ c.compare_readers.result
    (λ written all. over_dumps answered g.F.Part.Source.left g.F.Part.Source.health g.F.Part.Source.pulls c.args.older.now
    c.args.newer.now g.O.Write.contents c.args.output
    c.deref_mut.result.now c.deref_mut-2.result.now opened opened_too _ all) c.compare_readers.ensures.ok

pub returns-clause-refused : goal.returns-clause-refused
returns-clause-refused g c =
    let answered = g.F.Folder.answered c.args.files.now in
    let opened = subst (λ (parts : List _). IsOneOpened answered c.args.older.now parts) (sym c.deref_mut.ensures.value)
    c.in-Ok.ensures.opened in
    let opened_too = subst (λ (parts : List _). IsOneOpened answered c.args.newer.now parts) (sym c.deref_mut-2.ensures.value)
    c.in-Ok-open_dump.ensures.opened in
    if_err_more _ _ c.compare_readers.result
    (λ stopped stops. dumps_refused answered g.F.Part.Source.left g.F.Part.Source.health g.F.Part.Source.pulls c.args.older.now
    c.args.newer.now g.O.Write.contents c.args.output
    c.deref_mut.result.now c.deref_mut-2.result.now opened opened_too c.compare_readers.new.olds c.compare_readers.new.news stopped.why
    stopped.writer stops) c.compare_readers.ensures.stops
