use Rattle.std.specs.Prelude.{map}
use Rattle.std.proofs.Common.{◌≡◌, ◌+◌, length}
use Rattle.hprof_devices.specs.declared.health.Health.TheVariants.{Well}
use Rattle.hprof_devices.proofs.Writes.{Pushed}
use Rattle.hprof_values.specs.Lists.{entries_left, entries_of}
use Rattle.hprof_heap.specs.HeapFacts.{facts_of, size_of}
use Rattle.hprof_lines.specs.Line.{each_line, text_of_lines}
use Rattle.hprof_describe.specs.Findings.{AreFindings, Findings}
use Rattle.hprof_show.proofs.entries.write_entries.Given as goal

abbrev pub invariant-loop-entry : goal.invariant-loop-entry
invariant-loop-entry g l = record {
  pushed : (found : Findings) → AreFindings (size_of l.heap) (facts_of l.heap) found
      → Pushed (g.W.Target.written l.fn.target) (g.W.Target.written l.target)
      (text_of_lines (each_line (g.E.Part.line_at found) 0 (map g.E.ListEntry.of (entries_of l.entries))))
      (text_of_lines (each_line (g.E.Part.line_at found) l.place (map g.E.ListEntry.of (entries_left l.entry-iterator))));
  well : g.W.Target.health l.target ≡ Well;
  count : l.place + length (map g.E.ListEntry.of (entries_left l.entry-iterator)) ≡ length (entries_of l.entries);
}
