use Rattle.std.proofs.Common.{◌≤◌, length}
use Rattle.hprof_items.specs.declared.walk.Walk.TheVariants.{Entries}
use Rattle.hprof_items.specs.Walk.{FindsSame}
use Rattle.hprof_items.proofs.Walks.{lists_behind}
use Rattle.hprof_items.proofs.walk.pass_lists.Given as goal

abbrev pub invariant-loop-end : goal.invariant-loop-end
invariant-loop-end l = record {
  placed : l.at ≤ length l.item.bytes.now;
  kept : FindsSame l.ids l.item (Entries l.kind l.left l.at) (Entries l.fn.kind l.fn.left l.fn.at);
}

abbrev pub decreases-loop-end : goal.decreases-loop-end
decreases-loop-end l = lists_behind l.kind
