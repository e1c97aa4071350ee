use Rattle.std.proofs.Common.{◌≡◌, length}
use Rattle.hprof_devices.specs.declared.health.Health.TheVariants.{Well}
use Rattle.hprof_devices.proofs.Writes.{Pushed}
use Rattle.hprof_lines.specs.ObjectsText.{objects_text}
use Rattle.hprof_lines.proofs.objects.write_object_lines.Given as goal

abbrev pub invariant-loop-object : goal.invariant-loop-object
invariant-loop-object g l = record {
  pushed : Pushed (g.W.Target.written l.fn.target) (g.W.Target.written l.target) (objects_text l.objects) (objects_text l.rest);
  well : g.W.Target.health l.target ≡ Well;
}

abbrev pub decreases-loop-object : goal.decreases-loop-object
decreases-loop-object g l = length l.rest
