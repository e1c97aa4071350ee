use Rattle.std.proofs.Common.{◌≡◌, drop, map}
use Rattle.hprof_devices.specs.declared.health.Health.TheVariants.{Well}
use Rattle.hprof_devices.proofs.Writes.{Pushed}
use Rattle.hprof_diff.specs.Changes.{change_value}
use Rattle.hprof_diff.specs.DifferenceText.{changes_text}
use Rattle.hprof_diff.proofs.report.write_all.Given as goal

abbrev pub invariant-loop-change : goal.invariant-loop-change
invariant-loop-change g l = record {
  pushed : Pushed (g.W.Target.written l.fn.target) (g.W.Target.written l.target) (changes_text (map change_value l.changes))
      (changes_text (map change_value (drop l.change-index l.changes)));
  well : g.W.Target.health l.target ≡ Well;
}
