use Rattle.std.proofs.Common.{rules}
use Rattle.hprof_rows.proofs.sub_rows.SubRows.new.Goals as goal

pub returns-clause-all : goal.returns-clause-all
returns-clause-all c = search rules

pub returns-clause-ids : goal.returns-clause-ids
returns-clause-ids c = search rules
