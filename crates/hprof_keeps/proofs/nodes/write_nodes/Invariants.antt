use Rattle.std.proofs.Common.{◌≡◌, drop}
use Rattle.hprof_devices.specs.declared.health.Health.TheVariants.{Well}
use Rattle.hprof_devices.proofs.Writes.{Pushed}
use Rattle.hprof_heap.specs.HeapFacts.{facts_of, size_of}
use Rattle.hprof_describe.specs.Findings.{AreFindings, Findings}
use Rattle.hprof_keeps.proofs.Told.{nodes_text}
use Rattle.hprof_keeps.proofs.nodes.write_nodes.Given as goal

abbrev pub invariant-loop-place : goal.invariant-loop-place
invariant-loop-place g l = record {
  pushed : (found : Findings) → AreFindings (size_of l.heap) (facts_of l.heap) found
      → Pushed (g.W.Target.written l.fn.target) (g.W.Target.written l.target)
      (nodes_text found l.retained l.front l.places)
      (nodes_text found l.retained l.front (drop l.place-index l.places));
  well : g.W.Target.health l.target ≡ Well;
}
