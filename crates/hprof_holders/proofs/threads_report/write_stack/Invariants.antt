use Rattle.std.proofs.Common.{◌≡◌, ◌+◌, ℕ, length}
use Rattle.hprof_values.specs.Lists.{identifiers_left, identifiers_of}
use Rattle.hprof_devices.specs.declared.health.Health.TheVariants.{Well}
use Rattle.hprof_devices.proofs.Writes.{Pushed}
use Rattle.hprof_heap.specs.HeapFacts.{facts_of, size_of}
use Rattle.hprof_threads.specs.Held.{AreHeldBy}
use Rattle.hprof_describe.specs.Findings.{AreFindings, Findings}
use Rattle.hprof_holders.specs.ThreadFindings.{AreThreadFindings, ThreadFindings}
use Rattle.hprof_holders.specs.ThreadsText.{stack_text}
use Rattle.hprof_holders.proofs.threads_report.write_stack.Given as goal

abbrev pub invariant-loop-frame : goal.invariant-loop-frame
invariant-loop-frame g l = record {
  pushed : (found : Findings) (threads : ThreadFindings) (serial : ℕ) → AreFindings (size_of l.heap) (facts_of l.heap) found
      → AreThreadFindings (facts_of l.heap) found.naming threads → AreHeldBy (facts_of l.heap) serial l.rows
      → Pushed (g.W.Target.written l.fn.target) (g.W.Target.written l.target)
      (stack_text found threads 0 l.rows (identifiers_of l.fn.frames))
      (stack_text found threads l.number l.rows (identifiers_left l.frame-iterator));
  well : g.W.Target.health l.target ≡ Well;
  count : l.number + length (identifiers_left l.frame-iterator) ≡ length (identifiers_of l.fn.frames);
}
