use Rattle.std.proofs.Common.{◌≡◌, ◌+◌, length}
use Rattle.hprof_devices.specs.declared.health.Health.TheVariants.{Well}
use Rattle.hprof_devices.proofs.Writes.{Pushed}
use Rattle.hprof_heap.specs.HeapFacts.{facts_of, size_of}
use Rattle.hprof_naming.specs.Naming.{Naming, IsNaming}
use Rattle.hprof_lines.specs.Line.{each_line, text_of_lines}
use Rattle.hprof_reports.proofs.entries.write_entries.Given as goal

abbrev pub invariant-loop-place : goal.invariant-loop-place
invariant-loop-place g l = record {
  counted : l.place + length (g.L.Entries.left l.entries) ≡ l.len;
  pushed : (naming : Naming) → IsNaming (facts_of l.heap) naming → Pushed (g.W.Target.written l.fn.target) (g.W.Target.written l.target)
      (text_of_lines (each_line (g.L.Item.Entry.line_at naming (size_of l.heap)) 0 (g.L.Entries.left l.fn.entries)))
      (text_of_lines (each_line (g.L.Item.Entry.line_at naming (size_of l.heap)) l.place (g.L.Entries.left l.entries)));
  well : g.W.Target.health l.target ≡ Well;
}
