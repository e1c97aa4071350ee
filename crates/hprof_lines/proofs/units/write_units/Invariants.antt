use Rattle.std.proofs.Common.{◌≡◌, ◌++◌, length}
use Rattle.hprof_devices.specs.declared.health.Health.TheVariants.{Well}
use Rattle.hprof_devices.proofs.Writes.{Pushed}
use Rattle.hprof_naming.specs.Units.{units_of}
use Rattle.hprof_lines.specs.Printed.{printed_units}
use Rattle.hprof_lines.proofs.units.write_units.Given as goal

abbrev pub invariant-loop-unit : goal.invariant-loop-unit
invariant-loop-unit g l = record {
  pushed : Pushed (g.W.Target.written l.fn.target) (g.W.Target.written l.target)
      (printed_units (units_of l.units.coding l.units.bytes.now)) (l.text.items ++ printed_units (units_of l.units.coding l.rest));
  well : g.W.Target.health l.target ≡ Well;
}

abbrev pub decreases-loop-unit : goal.decreases-loop-unit
decreases-loop-unit g l = length (units_of l.units.coding l.rest)
