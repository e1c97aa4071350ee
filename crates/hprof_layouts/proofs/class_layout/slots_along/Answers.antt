use Rattle.std.specs.Prelude.{IfNone}
use Rattle.std.proofs.Common.{◌≡◌, ℕ, ◌++◌, Option, Some, None, refl, subst, arith}
use Rattle.hprof_heap.specs.declared.class_dump.ClassDump.{ClassDump}
use Rattle.hprof_heap.specs.HeapFacts.{facts_of}
use Rattle.hprof_heap.specs.ClassDump.{class_value}
use Rattle.hprof_layouts.specs.Layout.{own_slots}
use Rattle.hprof_layouts.proofs.Walks.{Gathering, gathering_some, gathered_more}
use Rattle.hprof_layouts.proofs.class_layout.slots_along.Goals as goal

-- what holds where there is none
if_none : (row : Option ClassDump) (P : Type 0) → ((there : ClassDump) → row ≡ Some there → ⊥) → IfNone row P → P
if_none None P none p = p
if_none (Some there) P none p = absurd (none there refl)

pub unreachable-requires : goal.unreachable-requires
unreachable-requires c =
    gathering_some (facts_of c.args.heap.now) c.args.class _ _ _ c.loop-passed.invariant (omega arith)
    (if_none c.find_class.result _ c.in_default.not-Some c.find_class.ensures.none)

pub loop-passed-preserved : goal.loop-passed-preserved
loop-passed-preserved c =
    let more = gathered_more (facts_of c.args.heap.now) c.args.class _ _ _ (class_value c.in-Some.dump) c.loop-passed.invariant
    (omega arith)
    (λ other has is. c.in-Some.ensures.only other has is) in
    rw c.in_ok-push_own_slots.ensures (subst (λ (left : ℕ). Gathering (facts_of c.args.heap.now) c.args.class c.in-Some.dump.parent left
    (c.loop-passed.slots.items ++ own_slots (class_value c.in-Some.dump))) (omega arith) more)
