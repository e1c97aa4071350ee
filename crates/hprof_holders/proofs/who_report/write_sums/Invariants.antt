use Rattle.std.proofs.Common.{◌≡◌, length, map}
use Rattle.std.specs.List.{flat_map}
use Rattle.hprof_devices.specs.declared.health.Health.TheVariants.{Well}
use Rattle.hprof_devices.proofs.Writes.{Pushed}
use Rattle.hprof_holders.specs.SumCounts.{sum_value}
use Rattle.hprof_holders.specs.WhoText.{sum_line}
use Rattle.hprof_holders.proofs.who_report.write_sums.Given as goal

abbrev pub invariant-loop-sum : goal.invariant-loop-sum
invariant-loop-sum g l = record {
  pushed : Pushed (g.W.Target.written l.fn.target) (g.W.Target.written l.target) (flat_map sum_line (map sum_value l.sums))
      (flat_map sum_line (map sum_value l.rest));
  well : g.W.Target.health l.target ≡ Well;
}

abbrev pub decreases-loop-sum : goal.decreases-loop-sum
decreases-loop-sum g l = length l.rest
