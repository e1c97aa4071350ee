use Rattle.std.proofs.Common.{arith}
use Rattle.std.proofs.lemmas.Result.{err_from_is_err_and}
use Rattle.hprof_dump.proofs.dump101.write_v101.Goals as goal

pub returns-in_err-write_dump-clause-too_long : goal.returns-in_err-write_dump-clause-too_long
returns-in_err-write_dump-clause-too_long g c =
    let p = err_from_is_err_and c.from_residual.result c.from_residual.ensures.1 in
    (λ e. absurd cc, λ over. absurd (omega (arith, over, c.in-Some.ensures.len, c.in-Some.ensures.most)))

pub returns-clause-too_long : goal.returns-clause-too_long
returns-clause-too_long g c = (λ e. absurd cc, λ over. absurd (omega (arith, over, c.in-Some.ensures.len, c.in-Some.ensures.most)))
