use Rattle.std.proofs.Common.{arith}
use Rattle.std.proofs.lemmas.List.{nil_from_length}
use Rattle.hprof_text.proofs.Rows.{one_byte_is, no_unit_from_nil, no_unit_from_first}
use Rattle.hprof_text.proofs.decoding.first_unit.Goals as goal

pub returns-in_err-first-clause-none : goal.returns-in_err-first-clause-none
returns-in_err-first-clause-none c =
    rw (c.from_residual.ensures, nil_from_length c.args.bytes.now c.in_err-first.ensures.cases) no_unit_from_nil

pub returns-in-1-to-127-clause-found : goal.returns-in-1-to-127-clause-found
returns-in-1-to-127-clause-found c =
    rw (c.in_ok-first.ensures.cases.0, c.from.ensures)
    (one_byte_is c.in_ok-first.first.now c.in_ok-first.rest.now (omega arith) (omega arith))

pub returns-in_default-clause-none : goal.returns-in_default-clause-none
returns-in_default-clause-none c =
    rw c.in_ok-first.ensures.cases.0
    (no_unit_from_first c.in_ok-first.first.now c.in_ok-first.rest.now (grind arith))
