use Rattle.hprof_rows.proofs.Order.{one_order, order_agrees}
use Rattle.hprof_heap.proofs.laws.one_order.Goals as goal

pub returns-clause-one : goal.returns-clause-one
returns-clause-one c = one_order

pub returns-clause-agree : goal.returns-clause-agree
returns-clause-agree c = order_agrees
