use Rattle.std.proofs.Common.{sym, rules}
use Rattle.hprof_text.proofs.Rows.{rest_is_shorter}
use Rattle.hprof_text.proofs.Fronts.{front_all, front_stop, ended, not_ended}
use Rattle.hprof_text.proofs.decoding.decoded.Goals as goal

pub loop-unit-smaller : goal.loop-unit-smaller
loop-unit-smaller c = rest_is_shorter _ _ _ c.in-Some.ensures.found

pub returns-then-is_empty : goal.returns-then-is_empty
returns-then-is_empty c =
    let done = ended c.loop-unit.rest.now (sym c.if-is_empty.ensures) in
    front_all c.loop-unit.units.items c.args.bytes.now (rw done at c.loop-unit.invariant)

pub returns-else-is_empty : goal.returns-else-is_empty
returns-else-is_empty c = λ has.
    not_ended c.loop-unit.rest.now (sym c.if-is_empty.ensures)
    (front_stop c.loop-unit.units.items c.args.bytes.now c.loop-unit.rest.now c.loop-unit.invariant c.in_default.ensures.none has)

pub returns-in_err-push : goal.returns-in_err-push
returns-in_err-push c = search rules

pub returns-in_err-units : goal.returns-in_err-units
returns-in_err-units c = search rules
