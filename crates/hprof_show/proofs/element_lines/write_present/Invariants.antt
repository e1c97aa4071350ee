use Rattle.std.proofs.Common.{◌≡◌, ◌≤◌, ◌+◌, length}
use Rattle.hprof_devices.specs.declared.health.Health.TheVariants.{Well}
use Rattle.hprof_devices.proofs.Writes.{Pushed}
use Rattle.hprof_values.specs.Lists.{identifiers_left, identifiers_of}
use Rattle.hprof_heap.specs.HeapFacts.{facts_of, size_of}
use Rattle.hprof_describe.specs.Findings.{AreFindings, Findings}
use Rattle.hprof_show.specs.ElementLines.{present_from, present_text}
use Rattle.hprof_show.proofs.ToldElements.{told_text}
use Rattle.hprof_show.proofs.element_lines.write_present.Given as goal

abbrev pub invariant-loop-id : goal.invariant-loop-id
invariant-loop-id g l = record {
  pushed : (found : Findings) → AreFindings (size_of l.heap) (facts_of l.heap) found
      → Pushed (g.W.Target.written l.fn.target) (g.W.Target.written l.target) (present_text found (identifiers_of l.elements))
      (told_text found l.present l.place (identifiers_left l.id-iterator));
  well : g.W.Target.health l.target ≡ Well;
  few : l.present ≤ l.place;
  places : l.place + length (identifiers_left l.id-iterator) ≡ length (identifiers_of l.elements);
  count : l.present + length (present_from l.place (identifiers_left l.id-iterator)) ≡ length (present_from 0 (identifiers_of l.elements));
}
