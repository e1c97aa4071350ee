use Rattle.std.proofs.Common.{List, vec_len}
use Rattle.hprof_items.specs.FactValue.{FactValue}
use Rattle.hprof_layouts.specs.declared.slot.Slot.{Slot}
use Rattle.hprof_weak.specs.Links.{AreFlags, Extends, Leads, nexts_in}
use Rattle.hprof_weak.proofs.LinkLists.{LeadsBehind}
use Rattle.hprof_weak.proofs.links.Links.put_own.Given as goal

abbrev pub invariant-loop-is_referent : goal.invariant-loop-is_referent
invariant-loop-is_referent l = record {
  extends : Extends (nexts_in l.fn.self) (nexts_in l.self);
  leads : (facts : List FactValue) (own slots : List Slot) → AreFlags facts l.fn.flags.items own
      → Leads facts (nexts_in l.fn.self) l.fn.above slots → LeadsBehind facts (nexts_in l.self) l.left.items own slots l.first;
}

abbrev pub decreases-loop-is_referent : goal.decreases-loop-is_referent
decreases-loop-is_referent l = vec_len l.left
