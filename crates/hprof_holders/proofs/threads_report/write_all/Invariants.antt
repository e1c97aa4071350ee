use Rattle.std.proofs.Common.{◌≡◌, ℕ, List, length}
use Rattle.std.specs.List.{flat_map}
use Rattle.hprof_devices.specs.declared.health.Health.TheVariants.{Well}
use Rattle.hprof_devices.proofs.Writes.{Pushed}
use Rattle.hprof_heap.specs.HeapFacts.{facts_of, size_of}
use Rattle.hprof_threads.specs.Held.{AreHeldBy}
use Rattle.hprof_threads.specs.declared.held.Held.{Held}
use Rattle.hprof_describe.specs.Findings.{AreFindings, Findings}
use Rattle.hprof_holders.specs.ThreadFindings.{AreThreadFindings, ThreadFindings}
use Rattle.hprof_holders.specs.ThreadsText.{thread_text}
use Rattle.hprof_holders.proofs.threads_report.write_all.Given as goal

abbrev pub invariant-loop-serial : goal.invariant-loop-serial
invariant-loop-serial g l = record {
  pushed : (found : Findings) (threads : ThreadFindings) (rows : ℕ → List Held)
      → AreFindings (size_of l.heap) (facts_of l.heap) found → AreThreadFindings (facts_of l.heap) found.naming threads
      → ((serial : ℕ) → AreHeldBy (facts_of l.heap) serial (rows serial))
      → Pushed (g.W.Target.written l.fn.target) (g.W.Target.written l.target)
      (flat_map (λ serial. thread_text found threads serial (rows serial)) l.serials)
      (flat_map (λ serial. thread_text found threads serial (rows serial)) l.rest);
  well : g.W.Target.health l.target ≡ Well;
}

abbrev pub decreases-loop-serial : goal.decreases-loop-serial
decreases-loop-serial g l = length l.rest
