use Rattle.std.proofs.Common.{◌≡◌, length}
use Rattle.std.specs.Prelude.{IfSome}
use Rattle.hprof_devices.specs.declared.health.Health.TheVariants.{Well}
use Rattle.hprof_rows.specs.SubFacts.{sub_facts}
use Rattle.hprof_dump.specs.Dump.{segments_of, segment_bytes}
use Rattle.hprof_heap.specs.Heap.{heap_of}
use Rattle.hprof_rows.specs.SubRow.{IsWritable}
use Rattle.hprof_dump.specs.Counted.{with_taken}
use Rattle.hprof_rows.specs.SubRows.{subs_left, subs_ids}
use Rattle.hprof_devices.proofs.OneByOne.{Wrote}
use Rattle.hprof_dump.proofs.segments.write_segments.Given as goal

abbrev pub invariant-loop-next : goal.invariant-loop-next
invariant-loop-next g l =
    let heap = heap_of l.heap in
    record {
      wrote : Wrote (segment_bytes heap.ids) (g.W.Target.written l.fn.target) (g.W.Target.written l.target)
          (segments_of heap.ids (sub_facts heap.facts))
          (segments_of heap.ids (subs_left l.rows));
      ahead : with_taken heap.ids l.next (subs_left l.ahead) ≡ subs_left l.rows;
      writable : IfSome l.next (IsWritable heap.ids);
      has_ids : subs_ids l.rows ≡ heap.ids;
      ahead_ids : subs_ids l.ahead ≡ heap.ids;
      well : g.W.Target.health l.target ≡ Well;
    }

abbrev pub decreases-loop-next : goal.decreases-loop-next
decreases-loop-next g l = length (subs_left l.rows)
