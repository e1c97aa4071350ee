use Rattle.std.proofs.Common.{◌-◌, ◌+◌, ◌≤◌, List, Some, length}
use Rattle.hprof_items.specs.FactValue.{FactValue}
use Rattle.hprof_layouts.specs.declared.slot.Slot.{Slot}
use Rattle.hprof_weak.specs.Links.{Leads, nexts_in}
use Rattle.hprof_weak.proofs.Pushing.{Pushing}
use Rattle.hprof_weak.proofs.links.Links.push_referents.Given as goal

abbrev pub invariant-loop-place : goal.invariant-loop-place
invariant-loop-place l = record {
  pushing : (facts : List FactValue) (slots : List Slot) → Leads facts (nexts_in l.self) (Some l.fn.first) slots
      → Pushing facts (nexts_in l.self) l.class slots l.fn.fields.items l.fields.items l.place l.number;
  few : length l.fields.items ≤ length l.fn.fields.items + l.room;
  fewer : length l.fields.items ≤ length l.fn.fields.items + l.place;
}

abbrev pub decreases-loop-place : goal.decreases-loop-place
decreases-loop-place l = l.room - l.place
