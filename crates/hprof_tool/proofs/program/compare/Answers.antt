use Rattle.hprof_tool.specs.Comparing.{RefusesDiff}
use Rattle.hprof_tool.specs.Telling.{TellsRefusal}
use Rattle.hprof_tool.proofs.Ends.{done_of_stream, refused_of_stream}
use Rattle.hprof_tool.proofs.program.compare.Goals as goal

pub returns-clause-done : goal.returns-clause-done
returns-clause-done g c = done_of_stream _ c.compare_files.result c.answer_stream.result c.compare_files.ensures.ok
    c.answer_stream.ensures.status c.answer_stream.ensures.output

pub returns-clause-refused : goal.returns-clause-refused
returns-clause-refused g c =
    refused_of_stream (λ why left. RefusesDiff (g.F.Folder.answered c.args.files.now) g.F.Part.Source.left c.args.older.now c.args.newer.now
    g.O.Write.contents c.args.output g.F.Part.Source.health g.F.Part.Source.pulls why left)
    (λ why. TellsRefusal why (g.E.Write.contents c.args.errors.now) (g.E.Write.contents c.answer_stream.new.errors)) c.compare_files.result
    c.answer_stream.result c.compare_files.ensures.refused c.answer_stream.ensures.status c.answer_stream.ensures.output
    c.answer_stream.ensures.told
