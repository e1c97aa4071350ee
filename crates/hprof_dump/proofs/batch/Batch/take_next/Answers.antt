use Rattle.std.proofs.Common.{◌∙◌}
use Rattle.hprof_dump.proofs.Batches.{writes_behind}
use Rattle.hprof_dump.proofs.batch.Batch.take_next.Goals as goal

pub returns-clause-bytes : goal.returns-clause-bytes
returns-clause-bytes g c =
    writes_behind _ _ _ c.write-2.result _ _ _ c.in_ok-write.ensures.bytes c.write-2.ensures.bytes
    (c.puts.ensures.not c.if-puts.false ∙ c.in_ok-write.ensures.none)
