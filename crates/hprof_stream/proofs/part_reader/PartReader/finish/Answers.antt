use Rattle.std.proofs.Common.{sym, ◌∙◌}
use Rattle.hprof_stream.proofs.Finishing.{Finishes-read}
use Rattle.hprof_stream.proofs.part_reader.PartReader.finish.Goals as goal

pub returns-in-Some-clause-finished : goal.returns-in-Some-clause-finished
returns-in-Some-clause-finished c =
    λ limits bytes facts read. Finishes-read limits bytes facts c.args.self read c.in-Some.header c.in-Some.is
    (sym c.is_empty.ensures ∙ c.if-is_empty.true) c.if-progress-eq0.true
