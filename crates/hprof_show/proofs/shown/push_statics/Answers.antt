use Rattle.std.specs.Prelude.{map}
use Rattle.std.proofs.Common.{◌≡◌, ◌++◌, ◌∙◌, List, ap}
use Rattle.hprof_values.specs.declared.entry.Entry.{Entry}
use Rattle.hprof_values.specs.declared.lists.entry_list.EntryIterator.{EntryIterator}
use Rattle.hprof_values.specs.declared.value.Static.{Static}
use Rattle.hprof_values.specs.Lists.{entries_left, entries_of}
use Rattle.hprof_show.specs.Shown.{referent, static_referents}
use Rattle.hprof_show.proofs.PushedIds.{all_pushed, one_pushed}
use Rattle.hprof_show.proofs.shown.push_statics.Goals as goal

pub loop-field-init : goal.loop-field-init
loop-field-init c =
    let there : entries_left c.into_iter-field-iterator.result ≡ entries_of c.args.statics =
    ap (λ (it : EntryIterator _ _). entries_left it) c.into_iter-field-iterator.ensures.into_iter_gives
    ∙ c.iter-field-items.ensures.all in
    ap (λ (left : List Entry). c.args.ids.now.items ++ static_referents left) there

pub loop-field-preserved : goal.loop-field-preserved
loop-field-preserved c =
    let value = c.in-Some.field.value in
    one_pushed c.loop-field.ids.items c.push.new.self.items (static_referents (entries_left c.loop-field.field-iterator))
    (static_referents (entries_left c.next.new.self))
    (c.args.ids.now.items ++ static_referents (entries_of c.args.statics))
    c.referent.result (referent value.basic value.bits) c.in_ok-push.ensures.items c.referent.ensures
    (ap (map (λ (field : Static). referent field.value.basic field.value.bits)) c.in-Some.ensures.steps) c.loop-field.invariant

pub returns : goal.returns
returns c =
    all_pushed c.loop-field.ids.items (static_referents (entries_left c.loop-field.field-iterator))
    (c.args.ids.now.items ++ static_referents (entries_of c.args.statics))
    (ap (map (λ (field : Static). referent field.value.basic field.value.bits)) c.in-None.ensures.steps.0) c.loop-field.invariant
