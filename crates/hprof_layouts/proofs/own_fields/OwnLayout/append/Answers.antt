use Rattle.std.proofs.Common.{◌+◌, ◌<◌, ◌≤◌, ◌++◌, List, length, get_or, ap, subst, ◌∙◌, arith}
use Rattle.hprof_layouts.specs.declared.own_fields.OwnReference.{OwnReference}
use Rattle.hprof_layouts.specs.Plan.{reference_behind}
use Rattle.hprof_layouts.proofs.Joined.{appended_all, appended_one, are_joined, behind_from}
use Rattle.hprof_layouts.proofs.own_fields.OwnLayout.append.Goals as goal

pub loop-reference-preserved : goal.loop-reference-preserved
loop-reference-preserved c =
    let items = c.deref-reference-items.ensures.value in
    let first : OwnReference = record { offset = 0; place = 0 } in
    let others = c.args.others.now.references.items in
    let at = c.loop-reference.reference-index in
    let start = c.saturating_add-start.result in
    let before = c.saturating_add-before.result in
    let within : at < length others = subst (λ (l : List OwnReference). at < length l) items c.loop-reference-test.true in
    ap (λ (l : List OwnReference). l ++ behind_from start before others (at + 1)) c.in_ok-push.ensures.items
    ∙ appended_one start before others c.loop-reference.self.references.items
    (c.args.self.now.references.items ++ behind_from start before others 0) at c.behind.result first within
    (c.behind.ensures ∙ ap (λ (l : List OwnReference). reference_behind start before (get_or l at first)) items)
    c.loop-reference.invariant

pub returns : goal.returns
returns c = λ ids slots between behind are none are_too e f fits.
    let items = c.deref-reference-items.ensures.value in
    let others = c.args.others.now.references.items in
    let at = c.loop-reference.reference-index in
    let start = c.saturating_add-start.result in
    let before = c.saturating_add-before.result in
    let over : length others ≤ at =
    let lengths = ap (λ (l : List OwnReference). length l) items in
    let ends = c.loop-reference-test.false in omega arith in
    are_joined ids slots between behind c.args.self.now c.args.others.now
    (record { width = c.saturating_add-self.result; count = c.saturating_add-self-2.result; references = c.loop-reference.self.references })
    c.args.offset c.args.place start before are none are_too e f fits c.saturating_add-start.ensures c.saturating_add-before.ensures
    c.saturating_add-self.ensures c.saturating_add-self-2.ensures
    (appended_all start before others c.loop-reference.self.references.items
    (c.args.self.now.references.items ++ behind_from start before others 0) at over c.loop-reference.invariant)
