use Rattle.std.proofs.Common.{◌≡◌, ◌++◌, [], rules}
use Rattle.hprof_text.specs.Printed.{printed_unit}
use Rattle.hprof_text.proofs.Prints.{prints_none, prints_plain, prints_unit, prints_if_units, plain_is_shorter}
use Rattle.hprof_text.proofs.printing.push_units.Goals as goal

pub loop-unit-init : goal.loop-unit-init
loop-unit-init c =
    let text : c.extend_from_slice.new.self.items ≡ [] ++ c.split_plain.result.0.now = search rules in
    rw text
    (prints_plain c.args.bytes.now c.args.bytes.now c.split_plain.result.1.now [] c.split_plain.result.0.now
    (prints_none c.args.bytes.now) c.split_plain.ensures.whole c.split_plain.ensures.plain)

pub loop-unit-smaller : goal.loop-unit-smaller
loop-unit-smaller c =
    plain_is_shorter _ _ _ _ _ c.in-Some.ensures.found c.split_plain-in-Some.ensures.whole

pub loop-unit-preserved : goal.loop-unit-preserved
loop-unit-preserved c =
    let before = c.loop-unit.text.items in
    let plain = c.split_plain-in-Some.result.0.now in
    let unit = prints_unit c.args.bytes.now c.loop-unit.rest.now c.in-Some.after.now before c.in-Some.unit c.loop-unit.invariant
    (search rules) c.in-Some.ensures.found in
    let text : c.extend_from_slice-in-Some.new.self.items ≡ before ++ printed_unit c.in-Some.unit ++ plain = search rules in
    rw text
    (prints_plain c.args.bytes.now c.in-Some.after.now c.split_plain-in-Some.result.1.now (before ++ printed_unit c.in-Some.unit) plain
    unit c.split_plain-in-Some.ensures.whole c.split_plain-in-Some.ensures.plain)

pub returns : goal.returns
returns c =
    prints_if_units c.args.bytes.now c.loop-unit.rest.now c.loop-unit.text.items c.is_empty.result c.loop-unit.invariant
    c.in_default.ensures.none c.is_empty.ensures
