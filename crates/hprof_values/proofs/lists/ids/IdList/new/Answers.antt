use Rattle.std.proofs.Common.{arith, rules}
use Rattle.hprof_values.proofs.IdLists.{ids_found, ids_again, whole_by, cut_by}
use Rattle.hprof_values.proofs.lists.ids.IdList.new.Goals as goal

pub returns-then-bytes-width-ne0-clause-only : goal.returns-then-bytes-width-ne0-clause-only
returns-then-bytes-width-ne0-clause-only c = λ identifiers list. cut_by c.args.ids _ identifiers c.args.bytes.now c.width.ensures
    c.if-bytes-width-ne0.true list

pub returns-clause-found : goal.returns-clause-found
returns-clause-found c =
    ids_found c.args.ids c.args.bytes.now (λ i. omega (arith, c.type_inv.bytes i))
    (whole_by c.args.ids _ c.args.bytes.now c.width.ensures c.if-bytes-width-ne0.false)

pub returns-clause-only : goal.returns-clause-only
returns-clause-only c = λ identifiers list. (ids_again c.args.ids identifiers c.args.bytes.now list).1

pub returns-clause-size : goal.returns-clause-size
returns-clause-size c = search rules

pub returns-then-bytes-width-ne0-clause-found : goal.returns-then-bytes-width-ne0-clause-found
returns-then-bytes-width-ne0-clause-found c = search rules

pub returns-then-bytes-width-ne0-clause-size : goal.returns-then-bytes-width-ne0-clause-size
returns-then-bytes-width-ne0-clause-size c = search rules
