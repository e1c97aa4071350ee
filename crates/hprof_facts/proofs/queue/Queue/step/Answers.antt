use Rattle.std.proofs.Common.{◌≡◌, ℕ, List, ◌+◌, ◌-◌, ◌<◌, drop, length, subst, refl, Some, ap, arith, rules}
use Rattle.std.specs.List.{slice_get}
use Rattle.std.proofs.lemmas.List.{length-drop}
use Rattle.hprof_facts.specs.declared.kept.Slot.{Slot}
use Rattle.hprof_facts.proofs.Queues.{gone_to, goes_under, none_left}
use Rattle.hprof_facts.proofs.queue.Queue.step.Goals as goal

pub returns-then-self-len-clause-some : goal.returns-then-self-len-clause-some
returns-then-self-len-clause-some c = λ fact facts holds.
    let its = c.args.self.now in
    let below : its.given < length its.slots.items = search rules in
    let gone = gone_to its.begun its.bytes.items its.slots.items its.given fact facts holds.1 in
    let back : its.given ≡ its.given + 1 - 1 = omega arith in (
      refl,
      (omega (arith, below), goes_under its.begun its.bytes.items its.slots.items its.given fact facts gone),
      record {
        ids = gone.ids;
        slot = gone.first.slot;
        begun = gone.is;
        some = omega arith;
        stands = subst (λ (n : ℕ). slice_get its.slots.items n ≡ Some gone.first.slot) back gone.first.stands;
        keeps = gone.first.keeps;
      },
      refl,
    )

pub returns-then-self-len-clause-none : goal.returns-then-self-len-clause-none
returns-then-self-len-clause-none c = λ holds.
    let its = c.args.self.now in
    let below : its.given < length its.slots.items = search rules in
    let none = ap (λ (l : List Slot). length l) (none_left its.begun its.bytes.items (drop its.given its.slots.items) holds.1) in
    absurd (omega (arith, below, none, length-drop its.given its.slots.items))
