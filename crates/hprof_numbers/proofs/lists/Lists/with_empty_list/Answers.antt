use Rattle.hprof_numbers.specs.Numbers.{items_in}
use Rattle.hprof_numbers.proofs.Behind.{row_and_empty, rows_and_empty}
use Rattle.hprof_numbers.proofs.lists.Lists.with_empty_list.Goals as goal

pub invariant_of-result : goal.invariant_of-result
invariant_of-result c =
    let lists = c.args.self in
    let rows = rows_and_empty (items_in lists.ends) (items_in lists.items)
    (record { within = lists.within; ascend = lists.ascend; whole = lists.whole }) in
    rw (c.in_ok-push_or_widen.ensures, c.len.ensures) (record { within = rows.within; ascend = rows.ascend; whole = rows.whole })

pub returns-clause-same : goal.returns-clause-same
returns-clause-same c = λ number one.
    let lists = c.args.self in
    rw (c.in_ok-push_or_widen.ensures, c.len.ensures)
    (row_and_empty (items_in lists.ends) (items_in lists.items)
    (record { within = lists.within; ascend = lists.ascend; whole = lists.whole }) number one)
