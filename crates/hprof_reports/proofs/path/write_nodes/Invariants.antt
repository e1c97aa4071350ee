use Rattle.std.proofs.Common.{◌≡◌, length}
use Rattle.hprof_devices.specs.declared.health.Health.TheVariants.{Well}
use Rattle.hprof_devices.proofs.Writes.{Pushed}
use Rattle.hprof_reports.specs.PathText.{nodes_text}
use Rattle.hprof_reports.proofs.path.write_nodes.Given as goal

abbrev pub invariant-loop-node : goal.invariant-loop-node
invariant-loop-node g l = record {
  pushed : Pushed (g.W.Target.written l.fn.target) (g.W.Target.written l.target) (nodes_text l.nodes) (nodes_text l.rest);
  well : g.W.Target.health l.target ≡ Well;
}

abbrev pub decreases-loop-node : goal.decreases-loop-node
decreases-loop-node g l = length l.rest
