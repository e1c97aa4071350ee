use Rattle.std.proofs.Common.{◌≡◌, ◌≤◌, length}
use Rattle.hprof_values.specs.Entries.{entries_end}
use Rattle.hprof_values.specs.BoundedBytes.{bounds_of}
use Rattle.hprof_values.proofs.entry_span.entries_end.Given as goal

abbrev pub invariant-loop-left : goal.invariant-loop-left
invariant-loop-left l = record {
  same : entries_end l.ids l.kind (bounds_of l.item) l.item.bytes.now l.left l.end ≡ entries_end l.ids l.kind (bounds_of l.item)
      l.item.bytes.now l.fn.count l.fn.at;
  there : l.end ≤ length l.item.bytes.now;
}

abbrev pub decreases-loop-left : goal.decreases-loop-left
decreases-loop-left l = l.left
