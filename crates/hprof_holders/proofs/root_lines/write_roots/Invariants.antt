use Rattle.std.proofs.Common.{◌≡◌, length}
use Rattle.hprof_devices.specs.declared.health.Health.TheVariants.{Well}
use Rattle.hprof_devices.proofs.Writes.{Pushed}
use Rattle.hprof_heap.specs.HeapFacts.{facts_of, size_of}
use Rattle.hprof_describe.specs.Findings.{AreFindings, Findings}
use Rattle.hprof_holders.specs.RootsText.{roots_text}
use Rattle.hprof_holders.specs.ThreadFindings.{AreThreadFindings, ThreadFindings}
use Rattle.hprof_holders.proofs.root_lines.write_roots.Given as goal

abbrev pub invariant-loop-root : goal.invariant-loop-root
invariant-loop-root g l = record {
  pushed : (found : Findings) (threads : ThreadFindings) → AreFindings (size_of l.view.heap.now) (facts_of l.view.heap.now) found
      → AreThreadFindings (facts_of l.view.heap.now) found.naming threads
      → Pushed (g.W.Target.written l.fn.target) (g.W.Target.written l.target) (roots_text found threads l.roots)
      (roots_text found threads l.rest);
  well : g.W.Target.health l.target ≡ Well;
}

abbrev pub decreases-loop-root : goal.decreases-loop-root
decreases-loop-root g l = length l.rest
