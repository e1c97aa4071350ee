use Rattle.std.proofs.Common.{ap}
use Rattle.hprof_stored.specs.StoredMaking.{stored_dump_making}
use Rattle.hprof_tool.specs.declared.program.refused.Stopped.{Stopped}
use Rattle.hprof_tool.specs.Conversing.{HasFailed, OverFiles, RefusesQuestions}
use Rattle.hprof_tool.specs.Program.{IsReportRefusal}
use Rattle.hprof_tool.specs.declared.program.prompting.Prompting.{Prompting}
use Rattle.hprof_tool.specs.Telling.{TellsRefusal}
use Rattle.hprof_tool.proofs.Conversing.{leaves_over, same_questions}
use Rattle.hprof_tool.proofs.Ends.{done_of_stream, if_err_both, if_err_more, if_ok_more, refused_of_stream}
use Rattle.hprof_tool.proofs.program.converse.Goals as goal

pub returns-clause-done : goal.returns-clause-done
returns-clause-done g c =
    let answered = g.F.Folder.answered c.args.files.now in
    done_of_stream _ c.ask_files.result c.answer_stream.result
    (if_ok_more _ _ c.ask_files.result (λ written all. same_questions answered g.F.Part.Source.left g.I.Source.left
    (λ (it : Prompting _ _). g.I.Source.left it.questions) g.O.Write.contents c.args.names.now c.args.input c.new-questions.result
    c.args.output
    (ap g.I.Source.left c.new-questions.ensures) _ all) c.ask_files.ensures.ok)
    c.answer_stream.ensures.status c.answer_stream.ensures.output

pub returns-clause-refused : goal.returns-clause-refused
returns-clause-refused g c =
    let answered = g.F.Folder.answered c.args.files.now in
    let tells = g.F.Part.Source.left in
    let health = g.F.Part.Source.health in
    let pulls = g.F.Part.Source.pulls in
    let left = g.I.Source.left in
    let asked = λ (it : Prompting _ _). left it.questions in
    let contents = g.O.Write.contents in
    let names = c.args.names.now in
    let refusal = IsReportRefusal stored_dump_making answered tells health pulls names in
    let refuses = λ (stopped : Stopped _). RefusesQuestions answered tells left contents names c.args.input c.args.output health pulls
    stopped.why stopped.writer in
    let failed = λ (stopped : Stopped _). HasFailed g.I.Source.health g.I.Source.pulls stopped.why in
    let told = refused_of_stream
    (λ why left_over. RefusesQuestions answered tells left contents names c.args.input c.args.output health pulls
    why left_over × HasFailed g.I.Source.health g.I.Source.pulls why)
    (λ why. TellsRefusal why (g.E.Write.contents c.args.errors.now) (g.E.Write.contents c.answer_stream.new.errors))
    c.ask_files.result c.answer_stream.result
    (if_err_both refuses failed c.ask_files.result
    (if_err_more _ _ c.ask_files.result (λ stopped leaves. leaves_over contents c.args.output
    (OverFiles answered tells asked contents names c.new-questions.result c.args.output)
    (OverFiles answered tells left contents names c.args.input c.args.output)
    (same_questions answered tells left asked contents names c.args.input c.new-questions.result c.args.output
    (ap left c.new-questions.ensures)) refusal refusal (λ refused says. says) stopped.why stopped.writer leaves)
    c.ask_files.ensures.refused)
    (if_err_more _ _ c.ask_files.result (λ stopped cause same. (c.ask_files.new.questions.questions, cause same))
    c.ask_files.ensures.cause))
    c.answer_stream.ensures.status c.answer_stream.ensures.output c.answer_stream.ensures.told in
    λ status. let it = told status in (it.0, it.1.0, it.1.1, it.2)
