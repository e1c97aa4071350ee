use Rattle.std.proofs.Common.{rules}
use Rattle.hprof_text.proofs.decoding.units.Goals as goal

pub returns-in-Err-clause-ok : goal.returns-in-Err-clause-ok
returns-in-Err-clause-ok c = search rules

pub returns-in_default-clause-err : goal.returns-in_default-clause-err
returns-in_default-clause-err c = search rules
