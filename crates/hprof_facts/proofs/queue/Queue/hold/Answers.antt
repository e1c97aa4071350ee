use Rattle.std.proofs.Common.{◌≡◌, ◌≤◌, ◌++◌, ℕ, List, drop, length, sym, subst, refl, rules}
use Rattle.hprof_facts.specs.declared.kept.Slot.{Slot}
use Rattle.hprof_facts.specs.Kept.{AreKeptUnder}
use Rattle.hprof_facts.proofs.Queues.{are_kept_under_more, held_under}
use Rattle.hprof_facts.proofs.queue.Queue.hold.Goals as goal

pub returns-clause-holds : goal.returns-clause-holds
returns-clause-holds c = λ ids facts fact begun keeps holds.
    held_under c.args.self.now.begun ids c.args.self.now.bytes.items c.args.bytes.now c.extend_from_slice.new.self.items
    c.args.self.now.slots.items c.push.new.self.items c.args.self.now.given facts
    (record { form = c.args.form; at = c.len.result; len = length c.args.bytes.now }) fact begun c.in-Ok.ensures.items
    c.in-Ok-push.ensures.items holds.0 holds.1 (search rules) refl keeps

pub returns-in_default-push-clause-kept : goal.returns-in_default-push-clause-kept
returns-in_default-push-clause-kept c = λ facts holds.
    let its = c.args.self.now in
    let slots_are : its.slots.items ≡ c.push.new.self.items = search rules in
    let bytes_are : its.bytes.items ++ c.args.bytes.now ≡ c.extend_from_slice.new.self.items = sym c.in-Ok.ensures.items in (
      subst (λ (l : List Slot). its.given ≤ length l) slots_are holds.0,
      subst (λ (l : List Slot). AreKeptUnder its.begun c.extend_from_slice.new.self.items (drop its.given l) facts) slots_are
          (subst (λ (b : List ℕ). AreKeptUnder its.begun b (drop its.given its.slots.items) facts) bytes_are
          (are_kept_under_more its.begun its.bytes.items c.args.bytes.now (drop its.given its.slots.items) facts holds.1)),
    )
