use Rattle.std.proofs.Common.{◌≡◌, ℕ, true, false, List, [], ◌∷◌, refl, sym, subst, ◌∙◌}
use Rattle.hprof_items.specs.FactValue.{FactValue}
use Rattle.hprof_heap.specs.Classes.{HasNoDump}
use Rattle.hprof_heap.specs.ClassDump.{class_value}
use Rattle.hprof_layouts.specs.Known.{AreWoken, HasDumpMore, Knows, plan_of}
use Rattle.hprof_layouts.specs.Waking.{CanWake, IsWaking}
use Rattle.hprof_layouts.proofs.Comings.{are_woken, waits_then, wakes_first, wakes_then, waking_ends, zero_comes}
use Rattle.hprof_layouts.proofs.Wakings.{woke_none}
use Rattle.hprof_layouts.proofs.known.KnownLayouts.add_class.Goals as goal
use Rattle.hprof_layouts.proofs.known.KnownLayouts.add_class.Goals.{then-is_ready+in_ok-wake_below+in_ok-wake_all, else-is_ready}

pub returns-then-dump-eq0-clause-ok : goal.returns-then-dump-eq0-clause-ok
returns-then-dump-eq0-clause-ok c = λ facts more knows new are.
    zero_comes c.args.ids facts more c.args.self.now knows (class_value c.args.dump.now) new are c.if-dump-eq0.true

pub returns-then-dump-eq0-clause-woken : goal.returns-then-dump-eq0-clause-woken
returns-then-dump-eq0-clause-woken c = λ facts more knows new are.
    let known = c.args.self.now in
    subst (AreWoken facts more) (sym c.new-woken.ensures.items)
    (are_woken c.args.ids facts more known known [] knows
    (zero_comes c.args.ids facts more known knows (class_value c.args.dump.now) new are c.if-dump-eq0.true) (woke_none (plan_of known)))

-- in the end no class is to be woken
waking_is_over : (c : goal.Joined-is_ready) (facts more : List FactValue) → Knows c.args.ids facts c.args.self.now
    → HasNoDump facts c.args.dump.now.id → HasDumpMore facts (class_value c.args.dump.now) more
    → IsWaking c.args.ids more (plan_of c.args.self.now) c.if-is_ready.self c.if-is_ready.woken.items []
waking_is_over c facts more knows new are =
    let ids = c.args.ids in
    let known = c.args.self.now in
    let other = record known { waiting = c.add.new.self } in
    let dump = class_value c.args.dump.now in
    let before = plan_of known in
    let none = c.new-woken.ensures.items in
    elim c.if-is_ready.branch [
      | then-is_ready+in_ok-wake_below+in_ok-wake_all w ↦
          let ready : CanWake (plan_of other) c.args.dump.now.parent = c.is_ready.ensures.0 w.if-is_ready.true in
          let wakes = wakes_then ids facts more known knows dump new are other c.in_ok-own.own c.in_ok-own.ensures c.if-dump-eq0.false
          refl c.in_ok-add.ensures in
          let below = w.in_ok-wake_below.ensures.ok ids more before [] ready
          (subst (λ (l : List ℕ). IsWaking ids more before other l (c.args.dump.now.parent ∷ [])) (sym none) wakes) in
          let first = wakes_first ids more before w.wake_below.new.self c.new-woken.result.items w.wake_below.new.woken.items none below in
          let all = w.in_ok-wake_all.ensures ids more before first in
          rw (w.self-is, w.woken-is) all
      | else-is_ready w ↦
          let unready : CanWake (plan_of other) c.args.dump.now.parent → ⊥ = λ ready.
          let clash : true ≡ false = sym (c.is_ready.ensures.1 ready) ∙ w.if-is_ready.false in cc in
          let waits = waits_then ids facts more known knows dump new are other c.in_ok-own.own c.in_ok-own.ensures c.if-dump-eq0.false
          refl c.in_ok-add.ensures unready in
          rw (w.self-is, w.woken-is, none) waits
    ]

pub returns-clause-ok : goal.returns-clause-ok
returns-clause-ok c = λ facts more knows new are.
    (waking_ends c.args.ids facts more c.args.self.now c.if-is_ready.self c.if-is_ready.woken.items knows
    (waking_is_over c facts more knows new are)).0

pub returns-clause-woken : goal.returns-clause-woken
returns-clause-woken c = λ facts more knows new are.
    (waking_ends c.args.ids facts more c.args.self.now c.if-is_ready.self c.if-is_ready.woken.items knows
    (waking_is_over c facts more knows new are)).1
