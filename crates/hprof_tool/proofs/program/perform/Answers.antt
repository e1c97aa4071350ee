use Rattle.std.proofs.Common.{refl, List, subst, sym}
use Rattle.std.specs.Borrow.{Bor}
use Rattle.hprof_engine.specs.Makes.{IsMadeOf}
use Rattle.hprof_tool.specs.Again.{report_of_parts}
use Rattle.hprof_tool.specs.Conversing.{RefusesQuestions}
use Rattle.hprof_tool.specs.Folder.{MayCreateBehind}
use Rattle.hprof_tool.specs.Program.{IsFilesRefusal, IsMadeInFile}
use Rattle.hprof_tool.specs.SalvagedFiles.{IsSalvagedFile}
use Rattle.hprof_tool.specs.Streams.{RefusesReport}
use Rattle.hprof_tool.specs.Tasks.{new_file_making}
use Rattle.hprof_tool.specs.Telling.{RefusesSalvage}
use Rattle.hprof_tool.specs.Words.{is_new_file}
use Rattle.hprof_tool.proofs.program.perform.Goals as goal

pub write_dump-status-requires : goal.write_dump-status-requires
write_dump-status-requires g c =
    let answered = g.F.Folder.answered c.args.files.now in
    subst (λ (names : List (Bor (List _))). MayCreateBehind answered names c.in-Write.out.name.now) (sym c.deref.ensures.value)
    (rw c.in-Write.is at c.requires.folder)

pub returns-in-Write-clause-done : goal.returns-in-Write-clause-done
returns-in-Write-clause-done g c = λ done.
    let answered = g.F.Folder.answered c.args.files.now in
    let it = c.write_dump-status.ensures.done done in
    let made = subst (λ (names : List (Bor (List _))). IsMadeInFile (IsMadeOf (is_new_file c.in-Write.product)) answered
    g.F.Part.Source.left g.F.Out.Write.contents names c.in-Write.out.name.now it.0) c.deref.ensures.value it.2 in
    (c.args.output, refl, rw c.in-Write.is ((it.0, it.1, made), refl))

pub returns-in-Write-clause-refused : goal.returns-in-Write-clause-refused
returns-in-Write-clause-refused g c = λ refused.
    let answered = g.F.Folder.answered c.args.files.now in
    let it = c.write_dump-status.ensures.refused refused in
    let says = subst (λ (names : List (Bor (List _))). IsFilesRefusal (new_file_making c.in-Write.product) answered g.F.Part.Source.left
    g.F.Part.Source.health g.F.Part.Source.pulls names c.in-Write.out.name.now it.1.0) c.deref.ensures.value it.1.1 in
    (it.1.0, rw c.in-Write.is (says, refl, it.0), it.1.2)

pub salvage-status-requires : goal.salvage-status-requires
salvage-status-requires g c =
    let answered = g.F.Folder.answered c.args.files.now in
    subst (λ (names : List (Bor (List _))). MayCreateBehind answered names c.in-Salvage.out.name.now) (sym c.deref-in-Salvage.ensures.value)
    (rw c.in-Salvage.is at c.requires.folder)

pub returns-in-Salvage-clause-done : goal.returns-in-Salvage-clause-done
returns-in-Salvage-clause-done g c = λ done.
    let it = c.salvage-status.ensures.done done in
    let saved = subst (λ (names : List (Bor (List _))). IsSalvagedFile (g.F.Folder.answered c.args.files.now) g.F.Part.Source.left
    g.F.Part.Source.health g.F.Part.Source.pulls g.F.Out.Write.contents names c.in-Salvage.out.name.now it.0 it.1.0)
    c.deref-in-Salvage.ensures.value it.1.2 in
    (c.salvage-status.new.output, refl, rw c.in-Salvage.is (it.0, (it.1.0, it.1.1, saved), it.2))

pub returns-in-Salvage-clause-refused : goal.returns-in-Salvage-clause-refused
returns-in-Salvage-clause-refused g c = λ refused.
    let it = c.salvage-status.ensures.refused refused in
    let says = subst (λ (names : List (Bor (List _))). RefusesSalvage (g.F.Folder.answered c.args.files.now) g.F.Part.Source.left
    g.F.Part.Source.health g.F.Part.Source.pulls g.F.Out.Write.contents names c.in-Salvage.out.name.now g.O.Write.contents
    c.salvage-status.result.file c.args.output c.salvage-status.new.output it.0) c.deref-in-Salvage.ensures.value it.1 in
    (it.0, rw c.in-Salvage.is (c.salvage-status.new.output, refl, says), it.2)

pub returns-in-Report-clause-refused : goal.returns-in-Report-clause-refused
returns-in-Report-clause-refused g c = λ refused.
    let it = c.report-ended.ensures.refused refused in
    let why = it.2.0 in
    let refuses = subst (λ (names : List (Bor (List _))). RefusesReport (report_of_parts it.0) (g.F.Folder.answered c.args.files.now)
    g.F.Part.Source.left g.F.Part.Source.health g.F.Part.Source.pulls g.O.Write.contents names c.args.output why
    c.report-ended.result.output)
    c.deref-in-Report.ensures.value it.2.1 in
    (why, rw c.in-Report.is (it.0, it.1, refuses), it.2.2)

pub returns-in-Ask-clause-refused : goal.returns-in-Ask-clause-refused
returns-in-Ask-clause-refused g c = λ refused.
    let it = c.converse.ensures.refused refused in
    let refuses = subst (λ (names : List (Bor (List _))). RefusesQuestions (g.F.Folder.answered c.args.files.now) g.F.Part.Source.left
    g.I.Source.left g.O.Write.contents names c.args.input c.args.output g.F.Part.Source.health g.F.Part.Source.pulls it.0
    c.converse.result.output) c.deref-in-Ask.ensures.value it.1 in
    (it.0, rw c.in-Ask.is (refuses, it.2), it.3)
