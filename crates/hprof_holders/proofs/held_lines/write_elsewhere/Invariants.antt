use Rattle.std.proofs.Common.{◌≡◌, length}
use Rattle.hprof_devices.specs.declared.health.Health.TheVariants.{Well}
use Rattle.hprof_devices.proofs.Writes.{Pushed}
use Rattle.hprof_heap.specs.HeapFacts.{facts_of, size_of}
use Rattle.hprof_describe.specs.Findings.{AreFindings, Findings}
use Rattle.hprof_holders.specs.ThreadsText.{elsewhere_text}
use Rattle.hprof_holders.proofs.LeftRows.{left_text}
use Rattle.hprof_holders.proofs.held_lines.write_elsewhere.Given as goal

abbrev pub invariant-loop-held : goal.invariant-loop-held
invariant-loop-held g l = record {
  pushed : (found : Findings) → AreFindings (size_of l.heap) (facts_of l.heap) found
      → Pushed (g.W.Target.written l.fn.target) (g.W.Target.written l.target) (elsewhere_text found l.rows)
      (left_text found l.before l.rest);
  well : g.W.Target.health l.target ≡ Well;
}

abbrev pub decreases-loop-held : goal.decreases-loop-held
decreases-loop-held g l = length l.rest
