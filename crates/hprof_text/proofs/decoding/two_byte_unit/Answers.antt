use Rattle.std.proofs.Common.{◌≡◌, ◌+◌, arith}
use Rattle.hprof_text.proofs.Rows.{two_bytes_are, no_unit_from_second, no_unit_from_two}
use Rattle.hprof_text.proofs.decoding.two_byte_unit.Goals as goal

pub returns-in_err-low-clause-none : goal.returns-in_err-low-clause-none
returns-in_err-low-clause-none c =
    rw c.from_residual.ensures
    (no_unit_from_second c.args.first c.args.rest.now c.requires.low c.requires.high c.in_err-low.ensures.none)

pub returns-then-unit-ge-LEAST_OF_TWO-clause-found : goal.returns-then-unit-ge-LEAST_OF_TWO-clause-found
returns-then-unit-ge-LEAST_OF_TWO-clause-found c =
    let first : 0xc0 + c.from.result ≡ c.args.first = omega arith in
    rw (← first, c.in_ok-low.ensures.found)
    (two_bytes_are c.from.result c.in_ok-low.low c.in_ok-low.rest.now (omega arith) c.in_ok-low.ensures.small (grind arith))

pub returns-else-unit-ge-LEAST_OF_TWO-clause-none : goal.returns-else-unit-ge-LEAST_OF_TWO-clause-none
returns-else-unit-ge-LEAST_OF_TWO-clause-none c =
    rw c.in_ok-low.ensures.found
    (no_unit_from_two c.args.first c.in_ok-low.low c.in_ok-low.rest.now c.requires.low c.requires.high c.in_ok-low.ensures.small
    (omega arith) (omega arith))
