use Rattle.std.proofs.Common.{◌+◌, ◌-◌, ℕ, List, Option, drop, vec_len}
use Rattle.hprof_values.specs.declared.ids.IdSize.{IdSize}
use Rattle.hprof_items.specs.FactValue.{FactValue}
use Rattle.hprof_layouts.specs.declared.plan.Plan.{Plan}
use Rattle.hprof_layouts.specs.Waking.{IsWaking, number_waiting}
use Rattle.hprof_layouts.proofs.known.KnownLayouts.wake_all.Given as goal

abbrev pub invariant-loop-next : goal.invariant-loop-next
invariant-loop-next l = (ids : IdSize) (facts : List FactValue) (before : ℕ → Option Plan)
    → IsWaking ids facts before l.fn.self l.fn.woken.items l.fn.woken.items
    → IsWaking ids facts before l.self l.woken.items (drop l.next l.woken.items)

abbrev pub decreases-loop-next : goal.decreases-loop-next
decreases-loop-next l = number_waiting l.self + vec_len l.woken - l.next
