use Rattle.std.proofs.Common.{◌≡◌, ◌++◌, List, length, map}
use Rattle.hprof_devices.specs.declared.health.Health.TheVariants.{Well}
use Rattle.hprof_items.specs.FactValue.{FactValue}
use Rattle.hprof_items.specs.SubRecord.{dump_bytes}
use Rattle.hprof_rows.specs.SubFacts.{sub_facts}
use Rattle.hprof_rows.specs.SubRows.{subs_left, subs_ids}
use Rattle.hprof_heap.specs.Heap.{heap_of}
use Rattle.hprof_segments.specs.Taking.{HasTaken}
use Rattle.hprof_segments.specs.Writer.{held_bytes}
use Rattle.hprof_stored.proofs.dumping.take_subs.Given as goal

abbrev pub invariant-loop-row : goal.invariant-loop-row
invariant-loop-row g l =
    let heap = heap_of l.heap in
    record {
      done : List FactValue;
      split : sub_facts heap.facts ≡ done ++ subs_left l.rows;
      taken : HasTaken (g.W.Target.written l.fn.target) (g.W.Target.written l.target) (held_bytes l.writer)
          (map (dump_bytes heap.ids) done);
      has_ids : subs_ids l.rows ≡ heap.ids;
      well : g.W.Target.health l.target ≡ Well;
      sound : l.buffer.health ≡ Well;
    }

abbrev pub decreases-loop-row : goal.decreases-loop-row
decreases-loop-row g l = length (subs_left l.rows)
