use Rattle.std.proofs.Common.{rules}
use Rattle.hprof_tables.specs.PlacedRows.{AreWithin, rows_at}
use Rattle.hprof_tables.proofs.relation.Relation.new.Goals as goal

pub returns-clause-none : goal.returns-clause-none
unfolding rows_at
returns-clause-none g c = search rules

pub invariant_of-result : goal.invariant_of-result
unfolding AreWithin
invariant_of-result g c = search rules
