use Rattle.std.proofs.Common.{◌-◌, ◌∙◌, sym, arith}
use Rattle.hprof_naming.specs.Units.{units_of}
use Rattle.hprof_describe.proofs.FirstUnits.{printed_all, printed_enough, printed_more}
use Rattle.hprof_describe.proofs.quotes.push_first.Goals as goal

pub returns-in_default : goal.returns-in_default
returns-in_default c =
    sym (printed_all c.loop.text.items (units_of c.args.units.coding c.loop.rest.now) (100 - c.loop.counter) c.in_default.ensures)
    ∙ c.loop.invariant

pub loop-preserved : goal.loop-preserved
loop-preserved c =
    let coding = c.args.units.coding in
    printed_more c.loop.text.items c.push_unit.new.text.items c.in-Some.unit (units_of coding c.loop.rest.now)
    (units_of coding c.in-Some.after.now) c.loop.counter (omega arith) c.in_ok-push_unit.ensures c.in-Some.ensures ∙ c.loop.invariant

pub returns : goal.returns
returns c =
    sym (printed_enough c.loop.text.items (units_of c.args.units.coding c.loop.rest.now) (100 - c.loop.counter) (omega arith))
    ∙ c.loop.invariant
