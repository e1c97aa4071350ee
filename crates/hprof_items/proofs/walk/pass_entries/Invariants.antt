use Rattle.std.proofs.Common.{◌≤◌, length}
use Rattle.hprof_items.specs.declared.walk.Walk.TheVariants.{Entries}
use Rattle.hprof_items.specs.Walk.{FindsSame}
use Rattle.hprof_items.proofs.walk.pass_entries.Given as goal

abbrev pub invariant-loop-left : goal.invariant-loop-left
invariant-loop-left l = record {
  placed : l.at ≤ length l.item.bytes.now;
  kept : FindsSame l.ids l.item (Entries l.kind l.left l.at) (Entries l.kind l.fn.left l.fn.at);
}

abbrev pub decreases-loop-left : goal.decreases-loop-left
decreases-loop-left l = l.left
