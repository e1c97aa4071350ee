use Rattle.std.proofs.Common.{◌≡◌, length}
use Rattle.hprof_devices.specs.declared.health.Health.TheVariants.{Well}
use Rattle.hprof_devices.proofs.Writes.{Pushed}
use Rattle.hprof_heap.specs.HeapFacts.{facts_of, size_of}
use Rattle.hprof_describe.specs.Findings.{AreFindings, Findings}
use Rattle.hprof_meaning.specs.NamedText.{class_lines}
use Rattle.hprof_meaning.proofs.named.write_classes.Given as goal

abbrev pub invariant-loop-class : goal.invariant-loop-class
invariant-loop-class g l = record {
  pushed : (found : Findings) → AreFindings (size_of l.heap) (facts_of l.heap) found
      → Pushed (g.W.Target.written l.fn.target) (g.W.Target.written l.target) (class_lines found l.classes) (class_lines found l.rest);
  well : g.W.Target.health l.target ≡ Well;
}

abbrev pub decreases-loop-class : goal.decreases-loop-class
decreases-loop-class g l = length l.rest
