use Rattle.std.proofs.Common.{◌++◌, subst, sym}
use Rattle.std.proofs.lemmas.Result.{err_from_is_err_and}
use Rattle.hprof_devices.proofs.Writes.{Pushed, Pushed-more}
use Rattle.hprof_naming.specs.Units.{units_of}
use Rattle.hprof_lines.proofs.TextWriting.{pushed_stops, pushed_stops_within}
use Rattle.hprof_lines.specs.Printed.{printed_units}
use Rattle.hprof_lines.proofs.PrintedPieces.{kept_last, kept_more, pushed_then}
use Rattle.hprof_lines.proofs.units.write_units.Goals as goal

pub returns-in_err-push_unit-clause-bytes : goal.returns-in_err-push_unit-clause-bytes
returns-in_err-push_unit-clause-bytes g c =
    let p = err_from_is_err_and c.from_residual.result c.from_residual.ensures.1 in
    let coding = c.args.units.coding in
    pushed_stops c.from_residual.result p.0 p.1 (g.W.Target.written c.args.target.now) (g.W.Target.written c.loop-unit.target)
    (printed_units (units_of coding c.args.units.bytes.now))
    (c.loop-unit.text.items ++ printed_units (units_of coding c.loop-unit.rest.now))
    c.loop-unit.invariant.pushed

pub returns-in_err-pass_on-clause-bytes : goal.returns-in_err-pass_on-clause-bytes
returns-in_err-pass_on-clause-bytes g c =
    let r = c.from_residual-in_err-pass_on.result in
    let p = err_from_is_err_and r c.from_residual-in_err-pass_on.ensures.1 in
    let coding = c.args.units.coding in
    pushed_stops_within r p.0 p.1 (g.W.Target.written c.args.target.now) (g.W.Target.written c.loop-unit.target)
    (printed_units (units_of coding c.args.units.bytes.now))
    (c.loop-unit.text.items ++ printed_units (units_of coding c.loop-unit.rest.now))
    c.loop-unit.invariant.pushed (g.W.Target.written c.pass_on.new.target) c.push_unit.new.text.items
    (printed_units (units_of coding c.in-Some.after.now))
    (kept_more c.loop-unit.text.items c.push_unit.new.text.items c.in-Some.unit (units_of coding c.loop-unit.rest.now)
    (units_of coding c.in-Some.after.now) c.in_ok-push_unit.ensures c.in-Some.ensures) c.in_err-pass_on.ensures.bytes

pub loop-unit-preserved-in_ok-pass_on : goal.loop-unit-preserved-in_ok-pass_on
loop-unit-preserved-in_ok-pass_on g c =
    let coding = c.args.units.coding in
    let all = printed_units (units_of coding c.args.units.bytes.now) in
    let after = printed_units (units_of coding c.in-Some.after.now) in
    record {
      pushed = subst (λ text. Pushed (g.W.Target.written c.args.target.now) (g.W.Target.written c.pass_on.new.target) all (text ++ after))
          (sym c.pass_on.ensures.empty)
          (Pushed-more (g.W.Target.written c.args.target.now) (g.W.Target.written c.loop-unit.target)
          (g.W.Target.written c.pass_on.new.target)
          all (c.loop-unit.text.items ++ printed_units (units_of coding c.loop-unit.rest.now)) c.push_unit.new.text.items after
          c.loop-unit.invariant.pushed
          (kept_more c.loop-unit.text.items c.push_unit.new.text.items c.in-Some.unit (units_of coding c.loop-unit.rest.now)
          (units_of coding c.in-Some.after.now) c.in_ok-push_unit.ensures c.in-Some.ensures) c.in_ok-pass_on.ensures.bytes);
      well = c.in_ok-pass_on.ensures.health;
    }

pub returns-clause-bytes : goal.returns-clause-bytes
returns-clause-bytes g c =
    let coding = c.args.units.coding in
    let all = printed_units (units_of coding c.args.units.bytes.now) in
    let left = units_of coding c.loop-unit.rest.now in
    pushed_then c.pass_on-2.result (g.W.Target.written c.args.target.now) (g.W.Target.written c.loop-unit.target)
    (g.W.Target.written c.pass_on-2.new.target) all c.loop-unit.text.items
    (subst (Pushed (g.W.Target.written c.args.target.now) (g.W.Target.written c.loop-unit.target) all)
    (kept_last c.loop-unit.text.items left c.in_default.ensures) c.loop-unit.invariant.pushed) c.pass_on-2.ensures.bytes
