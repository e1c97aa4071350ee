use Rattle.std.proofs.Common.{◌≡◌, drop}
use Rattle.hprof_devices.specs.declared.health.Health.TheVariants.{Well}
use Rattle.hprof_devices.proofs.Writes.{Pushed}
use Rattle.hprof_reports.specs.Check.{part_lines}
use Rattle.hprof_reports.proofs.check.write_parts.Given as goal

abbrev pub invariant-loop-number : goal.invariant-loop-number
invariant-loop-number g l = record {
  pushed : Pushed (g.W.Target.written l.fn.target) (g.W.Target.written l.target) (part_lines 0 l.parts)
      (part_lines l.number (drop l.number l.parts));
  well : g.W.Target.health l.target ≡ Well;
}
