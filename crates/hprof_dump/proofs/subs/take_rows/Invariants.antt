use Rattle.std.proofs.Common.{◌≡◌, length}
use Rattle.hprof_devices.specs.declared.health.Health.TheVariants.{Well}
use Rattle.hprof_items.specs.SubRecord.{dump_bytes}
use Rattle.hprof_rows.specs.SubFacts.{sub_facts}
use Rattle.hprof_rows.specs.SubRows.{subs_left, subs_ids}
use Rattle.hprof_heap.specs.Heap.{heap_of}
use Rattle.hprof_dump.specs.Batch.{batch_bytes}
use Rattle.hprof_dump.proofs.Batches.{Taken}
use Rattle.hprof_dump.proofs.subs.take_rows.Given as goal

abbrev pub invariant-loop-row : goal.invariant-loop-row
invariant-loop-row g l =
    let heap = heap_of l.heap in
    record {
      taken : Taken (dump_bytes heap.ids) (g.W.Target.written l.fn.target) (g.W.Target.written l.target)
          (batch_bytes l.fn.batch) (batch_bytes l.batch) (sub_facts heap.facts) (subs_left l.rows);
      has_ids : subs_ids l.rows ≡ heap.ids;
      well : g.W.Target.health l.target ≡ Well;
    }

abbrev pub decreases-loop-row : goal.decreases-loop-row
decreases-loop-row g l = length (subs_left l.rows)
