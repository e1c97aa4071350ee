use Rattle.std.proofs.Common.{arith}
use Rattle.std.proofs.lemmas.Result.{IfOk-weaker, on_err_weaker}
use Rattle.std.proofs.lemmas.Grind.{common_steps}
use Rattle.hprof_byte_tables.specs.BytesTable.{byte_rows}
use Rattle.hprof_tables.proofs.Missing.{missing_lacks, lacks_none}
use Rattle.hprof_tables.proofs.Contents.{bytes_missing}
use Rattle.hprof_byte_tables.proofs.bytes_table.BytesTable.join.Goals as goal

pub returns-then-is_err-clause-absent : goal.returns-then-is_err-clause-absent
returns-then-is_err-clause-absent c =
    on_err_weaker c.take_rows-taken.result
    (missing_lacks (λ row. row.0.now) (byte_rows c.args.self.now) (byte_rows c.args.other.now) c.in_ok-missing.missing.items
    (bytes_missing _ _ (byte_rows c.args.self.now) (byte_rows c.args.other.now) _ c.rows.ensures.all c.rows-2.ensures.all
    c.in_ok-missing.ensures.ok))
    c.take_rows-taken.ensures.some

pub returns-else-is_err-clause-unchanged : goal.returns-else-is_err-clause-unchanged
returns-else-is_err-clause-unchanged c =
    IfOk-weaker c.take_rows-taken.result _ _
    (λ done same lacks. same (lacks_none (λ row. row.0.now) (byte_rows c.args.self.now) (byte_rows c.args.other.now)
    c.in_ok-missing.missing.items
    (bytes_missing _ _ (byte_rows c.args.self.now) (byte_rows c.args.other.now) _ c.rows.ensures.all c.rows-2.ensures.all
    c.in_ok-missing.ensures.ok) lacks))
    c.take_rows-taken.ensures.unchanged

pub returns-then-is_err-clause-err : goal.returns-then-is_err-clause-err
returns-then-is_err-clause-err c = grind (arith, common_steps)

pub returns-then-is_err-clause-kept : goal.returns-then-is_err-clause-kept
returns-then-is_err-clause-kept c = grind (arith, common_steps)
