use Rattle.std.proofs.Common.{inl}
use Rattle.hprof_runs.specs.RowsIn.{sorted_in}
use Rattle.hprof_runs.proofs.Picked.{firsts_has}
use Rattle.hprof_objects.proofs.giving.give_one.Goals as goal

pub returns-in-Ok-clause-gives : goal.returns-in-Ok-clause-gives
returns-in-Ok-clause-gives g c =
    let bytes = c.in-Some.bytes.now in
    inl (bytes, inl (firsts_has (sorted_in c.args.rows.now) (c.args.id, bytes) c.in-Some.ensures), c.in-Ok.ensures.steps)

pub returns-in-Err-clause-gives : goal.returns-in-Err-clause-gives
returns-in-Err-clause-gives g c =
    let bytes = c.in-Some.bytes.now in
    (bytes, inl (firsts_has (sorted_in c.args.rows.now) (c.args.id, bytes) c.in-Some.ensures), c.in-Err.ensures.refuses)
