use Rattle.std.proofs.Common.{◌≡◌, take, drop}
use Rattle.hprof_devices.specs.declared.health.Health.TheVariants.{Well}
use Rattle.hprof_items.specs.SubRecord.{dump_bytes}
use Rattle.hprof_rows.specs.SubRows.{subs_left, subs_ids}
use Rattle.hprof_dump.specs.Batch.{batch_bytes}
use Rattle.hprof_dump.proofs.Batches.{Taken}
use Rattle.hprof_dump.proofs.segments.take_rows.Given as goal

abbrev pub invariant-loop-left : goal.invariant-loop-left
invariant-loop-left g l = record {
  taken : Taken (dump_bytes (subs_ids l.fn.rows)) (g.W.Target.written l.fn.target) (g.W.Target.written l.target)
      (batch_bytes l.fn.batch) (batch_bytes l.batch)
      (take l.count (subs_left l.fn.rows)) (take l.left (subs_left l.rows));
  behind : drop l.count (subs_left l.fn.rows) ≡ drop l.left (subs_left l.rows);
  has_ids : subs_ids l.rows ≡ subs_ids l.fn.rows;
  well : g.W.Target.health l.target ≡ Well;
}

abbrev pub decreases-loop-left : goal.decreases-loop-left
decreases-loop-left g l = l.left
