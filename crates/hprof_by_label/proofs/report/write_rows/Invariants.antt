use Rattle.std.proofs.Common.{◌≡◌, drop}
use Rattle.hprof_devices.specs.declared.health.Health.TheVariants.{Well}
use Rattle.hprof_devices.proofs.Writes.{Pushed}
use Rattle.hprof_by_label.proofs.RowLines.{lines_of}
use Rattle.hprof_by_label.proofs.report.write_rows.Given as goal

abbrev pub invariant-loop-row : goal.invariant-loop-row
invariant-loop-row g l = record {
  pushed : Pushed (g.W.Target.written l.fn.target) (g.W.Target.written l.target) (lines_of l.rows) (lines_of (drop l.row-index l.rows));
  well : g.W.Target.health l.target ≡ Well;
}
