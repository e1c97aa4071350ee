use Rattle.std.proofs.Common.{ℕ, List, subst}
use Rattle.hprof_questions.specs.Asked.{AsksReport}
use Rattle.hprof_tool.specs.Again.{report_of_parts}
use Rattle.hprof_tool.specs.Streams.{RefusesReport}
use Rattle.hprof_tool.specs.Telling.{TellsRefusal}
use Rattle.hprof_tool.proofs.Ends.{done_of_stream, refused_of_stream}
use Rattle.hprof_tool.proofs.program.report.Goals as goal

pub returns-in-Ok-clause-done : goal.returns-in-Ok-clause-done
returns-in-Ok-clause-done g c = λ done. (
  c.in-Ok.report,
  subst (λ (text : List ℕ). AsksReport c.args.word text c.in-Ok.report) c.as_bytes.ensures.value c.in-Ok.ensures,
  done_of_stream _ c.report_files.result c.answer_stream.result c.report_files.ensures.ok c.answer_stream.ensures.status
      c.answer_stream.ensures.output done,
)

pub returns-in-Ok-clause-refused : goal.returns-in-Ok-clause-refused
returns-in-Ok-clause-refused g c = λ refused. (
  c.in-Ok.report,
  subst (λ (text : List ℕ). AsksReport c.args.word text c.in-Ok.report) c.as_bytes.ensures.value c.in-Ok.ensures,
  refused_of_stream (λ why left. RefusesReport (report_of_parts c.in-Ok.report) (g.F.Folder.answered c.args.files.now) g.F.Part.Source.left
      g.F.Part.Source.health g.F.Part.Source.pulls g.O.Write.contents c.args.names.now c.args.output why left)
      (λ why. TellsRefusal why (g.E.Write.contents c.args.errors.now) (g.E.Write.contents c.answer_stream.new.errors)) c.report_files.result
      c.answer_stream.result c.report_files.ensures.refused c.answer_stream.ensures.status c.answer_stream.ensures.output
      c.answer_stream.ensures.told refused,
)
