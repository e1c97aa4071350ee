use Rattle.std.proofs.Common.{rules, arith}
use Rattle.std.proofs.lemmas.Grind.{common_steps}
use Rattle.hprof_rows.proofs.sub_rows.SubRows.next.Goals as goal

pub returns-in-Some : goal.returns-in-Some
returns-in-Some c = search rules

pub returns-in-Some-next : goal.returns-in-Some-next
returns-in-Some-next c = search rules

pub returns-in_err-id : goal.returns-in_err-id
returns-in_err-id c = grind (arith, common_steps)
