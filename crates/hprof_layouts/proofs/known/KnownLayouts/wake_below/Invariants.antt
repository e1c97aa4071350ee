use Rattle.std.specs.Vec.Iter.{into_iter_items}
use Rattle.std.proofs.Common.{◌≡◌, ℕ, ◌+◌, List, [], ◌∷◌, length, vec_len, Option}
use Rattle.hprof_values.specs.declared.ids.IdSize.{IdSize}
use Rattle.hprof_items.specs.FactValue.{FactValue}
use Rattle.hprof_layouts.specs.declared.plan.Plan.{Plan}
use Rattle.hprof_layouts.specs.Known.{plan_of, waiting_below}
use Rattle.hprof_layouts.specs.Waking.{CanWake, IsWaking, number_waiting}
use Rattle.hprof_layouts.proofs.Hands.{InHand}
use Rattle.hprof_layouts.proofs.known.KnownLayouts.wake_below.Given as goal

abbrev pub invariant-loop-below : goal.invariant-loop-below
invariant-loop-below l = record {
  taken : waiting_below l.self l.fn.class ≡ [];
  counted : number_waiting l.self + vec_len l.woken + length (into_iter_items l.below-iterator)
      ≡ number_waiting l.fn.self + vec_len l.fn.woken;
  hand : (ids : IdSize) (facts : List FactValue) (before : ℕ → Option Plan) (pending : List ℕ) → CanWake (plan_of l.fn.self) l.fn.class
      → IsWaking ids facts before l.fn.self l.fn.woken.items (l.fn.class ∷ pending)
      → InHand ids facts before l.fn.class pending l.fn.woken.items (plan_of l.self) (waiting_below l.self) l.woken.items
      (into_iter_items l.below-iterator);
}
