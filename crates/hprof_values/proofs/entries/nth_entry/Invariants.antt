use Rattle.std.proofs.Common.{◌≡◌}
use Rattle.std.specs.Prelude.{slice_get}
use Rattle.hprof_values.specs.Entries.{entries_bytes, entries_in}
use Rattle.hprof_values.proofs.entries.nth_entry.Given as goal

abbrev pub invariant-loop-left : goal.invariant-loop-left
invariant-loop-left l = record {
  spelled : l.rest ≡ entries_bytes l.ids l.kind (entries_in l.ids l.kind l.left l.rest);
  same : slice_get (entries_in l.ids l.kind l.left l.rest) l.before ≡ slice_get (entries_in l.ids l.kind l.count l.bytes) l.place;
}

abbrev pub decreases-loop-left : goal.decreases-loop-left
decreases-loop-left l = l.left
