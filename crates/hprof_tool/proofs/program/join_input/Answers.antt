use Rattle.hprof_tool.specs.Streams.{RefusesStream}
use Rattle.hprof_tool.specs.Telling.{TellsRefusal}
use Rattle.hprof_tool.proofs.Ends.{done_of_stream, refused_of_stream}
use Rattle.hprof_tool.proofs.program.join_input.Goals as goal

pub returns-clause-done : goal.returns-clause-done
returns-clause-done g c = done_of_stream _ c.join_stream.result c.answer_stream.result c.join_stream.ensures.ok
    c.answer_stream.ensures.status c.answer_stream.ensures.output

pub returns-clause-refused : goal.returns-clause-refused
returns-clause-refused g c =
    refused_of_stream (λ why left. RefusesStream g.I.Source.left g.I.Source.health g.I.Source.pulls g.O.Write.contents c.args.input
    c.args.output why left)
    (λ why. TellsRefusal why (g.E.Write.contents c.args.errors.now) (g.E.Write.contents c.answer_stream.new.errors)) c.join_stream.result
    c.answer_stream.result c.join_stream.ensures.refused c.answer_stream.ensures.status c.answer_stream.ensures.output
    c.answer_stream.ensures.told
