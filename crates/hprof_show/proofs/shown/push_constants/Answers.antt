use Rattle.std.specs.Prelude.{map}
use Rattle.std.proofs.Common.{◌≡◌, ◌++◌, ◌∙◌, List, ap}
use Rattle.hprof_values.specs.declared.entry.Entry.{Entry}
use Rattle.hprof_values.specs.declared.lists.entry_list.EntryIterator.{EntryIterator}
use Rattle.hprof_values.specs.declared.value.Constant.{Constant}
use Rattle.hprof_values.specs.Lists.{entries_left, entries_of}
use Rattle.hprof_show.specs.Shown.{referent, constant_referents}
use Rattle.hprof_show.proofs.PushedIds.{all_pushed, one_pushed}
use Rattle.hprof_show.proofs.shown.push_constants.Goals as goal

pub loop-constant-init : goal.loop-constant-init
loop-constant-init c =
    let there : entries_left c.into_iter-constant-iterator.result ≡ entries_of c.args.constants =
    ap (λ (it : EntryIterator _ _). entries_left it) c.into_iter-constant-iterator.ensures.into_iter_gives
    ∙ c.iter-constant-items.ensures.all in
    ap (λ (left : List Entry). c.args.ids.now.items ++ constant_referents left) there

pub loop-constant-preserved : goal.loop-constant-preserved
loop-constant-preserved c =
    let value = c.in-Some.constant.value in
    one_pushed c.loop-constant.ids.items c.push.new.self.items (constant_referents (entries_left c.loop-constant.constant-iterator))
    (constant_referents (entries_left c.next.new.self))
    (c.args.ids.now.items ++ constant_referents (entries_of c.args.constants))
    c.referent.result (referent value.basic value.bits) c.in_ok-push.ensures.items c.referent.ensures
    (ap (map (λ (constant : Constant). referent constant.value.basic constant.value.bits)) c.in-Some.ensures.steps)
    c.loop-constant.invariant

pub returns : goal.returns
returns c =
    all_pushed c.loop-constant.ids.items (constant_referents (entries_left c.loop-constant.constant-iterator))
    (c.args.ids.now.items ++ constant_referents (entries_of c.args.constants))
    (ap (map (λ (constant : Constant). referent constant.value.basic constant.value.bits)) c.in-None.ensures.steps.0)
    c.loop-constant.invariant
