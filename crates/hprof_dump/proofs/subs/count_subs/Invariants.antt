use Rattle.std.proofs.Common.{◌≡◌, ◌≤◌, length}
use Rattle.hprof_rows.specs.SubFacts.{sub_facts}
use Rattle.hprof_rows.specs.SubRows.{subs_left, subs_ids}
use Rattle.hprof_heap.specs.Heap.{heap_of}
use Rattle.hprof_dump.proofs.Counting101.{Counts}
use Rattle.hprof_dump.proofs.subs.count_subs.Given as goal

abbrev pub invariant-loop-row : goal.invariant-loop-row
invariant-loop-row l =
    let heap = heap_of l.heap in
    record {
      counts : Counts heap.ids (sub_facts heap.facts) l.len (subs_left l.rows);
      short : l.len ≤ l.most;
      has_ids : subs_ids l.rows ≡ heap.ids;
    }

abbrev pub decreases-loop-row : goal.decreases-loop-row
decreases-loop-row l = length (subs_left l.rows)
