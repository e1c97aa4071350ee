use Rattle.std.proofs.Common.{◌≡◌, ◌++◌, List, length}
use Rattle.std.specs.List.{flat_map}
use Rattle.std.specs.Io.KnownBytes.{Appends}
use Rattle.hprof_devices.specs.declared.health.Health.TheVariants.{Well}
use Rattle.hprof_items.specs.FactValue.{FactValue}
use Rattle.hprof_items.specs.SubRecord.{dump_bytes}
use Rattle.hprof_rows.specs.SubFacts.{sub_facts}
use Rattle.hprof_rows.specs.SubRows.{subs_left, subs_ids}
use Rattle.hprof_heap.specs.Heap.{heap_of}
use Rattle.hprof_stored101.proofs.dumping101.write_subs.Given as goal

abbrev pub invariant-loop-row : goal.invariant-loop-row
invariant-loop-row g l =
    let heap = heap_of l.heap in
    record {
      done : List FactValue;
      split : sub_facts heap.facts ≡ done ++ subs_left l.rows;
      wrote : Appends (g.W.Target.written l.fn.target) (g.W.Target.written l.target) (flat_map (dump_bytes heap.ids) done);
      has_ids : subs_ids l.rows ≡ heap.ids;
      well : g.W.Target.health l.target ≡ Well;
    }

abbrev pub decreases-loop-row : goal.decreases-loop-row
decreases-loop-row g l = length (subs_left l.rows)
