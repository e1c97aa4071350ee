use Rattle.std.proofs.Common.{◌≡◌, ◌+◌, ◌-◌, ◌*◌, ◌/◌}
use Rattle.std.specs.List.{flat_map, range_with_len}
use Rattle.hprof_devices.specs.declared.health.Health.TheVariants.{Well}
use Rattle.hprof_devices.proofs.Writes.{Pushed}
use Rattle.hprof_heap.specs.HeapFacts.{facts_of, size_of}
use Rattle.hprof_describe.specs.Findings.{AreFindings, Findings}
use Rattle.hprof_show.specs.NumberLines.{row_line, rows_text}
use Rattle.hprof_show.proofs.number_lines.write_rows.Given as goal

abbrev pub invariant-loop-row : goal.invariant-loop-row
invariant-loop-row g l = record {
  pushed : (found : Findings) → AreFindings (size_of l.heap) (facts_of l.heap) found
      → Pushed (g.W.Target.written l.fn.target) (g.W.Target.written l.target) (rows_text found l.elem l.bytes l.count)
      (flat_map (λ row. row_line found l.elem l.bytes l.count (row * 16)) (range_with_len l.row ((l.count + 15) / 16 - l.row)));
  well : g.W.Target.health l.target ≡ Well;
}
