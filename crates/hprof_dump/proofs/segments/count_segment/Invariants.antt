use Rattle.std.proofs.Common.{◌≡◌, ◌∷◌, length}
use Rattle.hprof_rows.specs.SubRow.{sub_fact}
use Rattle.hprof_rows.specs.SubRows.{subs_left, subs_ids}
use Rattle.hprof_dump.proofs.Counting.{Counts}
use Rattle.hprof_dump.proofs.segments.count_segment.Given as goal

abbrev pub invariant-loop-row : goal.invariant-loop-row
invariant-loop-row l = record {
  counts : Counts (subs_ids l.fn.ahead) (sub_fact (subs_ids l.fn.ahead) l.first ∷ subs_left l.fn.ahead) l.count l.len (subs_left l.ahead);
  has_ids : subs_ids l.ahead ≡ subs_ids l.fn.ahead;
}

abbrev pub decreases-loop-row : goal.decreases-loop-row
decreases-loop-row l = length (subs_left l.ahead)
