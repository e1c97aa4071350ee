use Rattle.std.proofs.Common.{◌≡◌, ◌+◌, arith}
use Rattle.hprof_text.proofs.Rows.{three_bytes_are, no_unit_from_middle, no_unit_from_last, no_unit_from_three}
use Rattle.hprof_text.proofs.decoding.three_byte_unit.Goals as goal

pub returns-in_err-middle-clause-none : goal.returns-in_err-middle-clause-none
returns-in_err-middle-clause-none c =
    rw c.from_residual.ensures
    (no_unit_from_middle c.args.first c.args.rest.now c.requires.low c.requires.high c.in_err-middle.ensures.none)

pub returns-in_err-low-clause-none : goal.returns-in_err-low-clause-none
returns-in_err-low-clause-none c =
    rw (c.from_residual-in_err-low.ensures, c.in_ok-middle.ensures.found)
    (no_unit_from_last c.args.first _ c.in_ok-middle.rest.now c.requires.low c.requires.high c.in_err-low.ensures.none)

pub returns-then-unit-ge-LEAST_OF_THREE-clause-found : goal.returns-then-unit-ge-LEAST_OF_THREE-clause-found
returns-then-unit-ge-LEAST_OF_THREE-clause-found c =
    let first : 0xe0 + c.from.result ≡ c.args.first = omega arith in
    rw (← first, c.in_ok-middle.ensures.found, c.in_ok-low.ensures.found)
    (three_bytes_are c.from.result c.in_ok-middle.middle c.in_ok-low.low c.in_ok-low.rest.now c.in_ok-middle.ensures.small
    c.in_ok-low.ensures.small (omega arith))

pub returns-else-unit-ge-LEAST_OF_THREE-clause-none : goal.returns-else-unit-ge-LEAST_OF_THREE-clause-none
returns-else-unit-ge-LEAST_OF_THREE-clause-none c =
    rw (c.in_ok-middle.ensures.found, c.in_ok-low.ensures.found)
    (no_unit_from_three c.args.first c.in_ok-middle.middle c.in_ok-low.low c.in_ok-low.rest.now c.requires.low c.requires.high
    c.in_ok-middle.ensures.small c.in_ok-low.ensures.small (omega arith))
