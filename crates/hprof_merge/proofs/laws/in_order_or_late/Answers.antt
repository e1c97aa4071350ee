use Rattle.hprof_merge.proofs.Late.{rows_in_order-ascends, late_rows-low, in_order_and_late, ascending_in_order}
use Rattle.hprof_merge.proofs.laws.in_order_or_late.Goals as goal

pub returns-clause-ascend : goal.returns-clause-ascend
returns-clause-ascend c = rows_in_order-ascends

pub returns-clause-late : goal.returns-clause-late
returns-clause-late c = late_rows-low

pub returns-clause-all : goal.returns-clause-all
returns-clause-all c = in_order_and_late

pub returns-clause-ascending : goal.returns-clause-ascending
returns-clause-ascending c = ascending_in_order
