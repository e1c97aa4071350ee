use Rattle.std.proofs.Common.{◌+◌, ◌++◌, get_or, drop}
use Rattle.hprof_show.specs.Shown.{field_referents, referent}
use Rattle.hprof_show.proofs.PushedIds.{all_pushed, field_next, no_field_next, one_pushed}
use Rattle.hprof_show.proofs.ToldFields.{no_field}
use Rattle.hprof_show.proofs.shown.push_values.Goals as goal

pub loop-value-preserved : goal.loop-value-preserved
loop-value-preserved c =
    let values = c.args.values.now in
    let place = c.loop-value.value-index in
    let value = get_or values place no_field in
    one_pushed c.loop-value.ids.items c.push.new.self.items (field_referents (drop place values))
    (field_referents (drop (place + 1) values)) (c.args.ids.now.items ++ field_referents values) c.referent.result
    (referent value.basic value.bits) c.in_ok-push.ensures.items c.referent.ensures
    (field_next values place c.loop-value-test.true) c.loop-value.invariant

pub returns : goal.returns
returns c =
    let values = c.args.values.now in
    let place = c.loop-value.value-index in
    all_pushed c.loop-value.ids.items (field_referents (drop place values)) (c.args.ids.now.items ++ field_referents values)
    (no_field_next values place c.loop-value-test.false) c.loop-value.invariant
