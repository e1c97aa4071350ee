use Rattle.std.proofs.Common.{◌≡◌, ◌++◌, List, length}
use Rattle.std.specs.List.{flat_map}
use Rattle.hprof_items.specs.FactValue.{FactValue}
use Rattle.hprof_items.specs.SubRecord.{dump_bytes}
use Rattle.hprof_rows.specs.SubFacts.{sub_facts}
use Rattle.hprof_rows.specs.SubRows.{subs_left, subs_ids}
use Rattle.hprof_heap.specs.Heap.{heap_of}
use Rattle.hprof_stored101.specs.ByteCounter.{capped}
use Rattle.hprof_stored101.proofs.body_len.own_len.Given as goal

abbrev pub invariant-loop-row : goal.invariant-loop-row
invariant-loop-row l =
    let heap = heap_of l.heap in
    record {
      done : List FactValue;
      split : sub_facts heap.facts ≡ done ++ subs_left l.rows;
      counted : l.len ≡ capped (length (flat_map (dump_bytes heap.ids) done));
      has_ids : subs_ids l.rows ≡ heap.ids;
    }

abbrev pub decreases-loop-row : goal.decreases-loop-row
decreases-loop-row l = length (subs_left l.rows)
