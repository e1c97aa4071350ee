use Rattle.std.proofs.Common.{List, ℕ, refl, subst}
use Rattle.hprof_heap.specs.HeapFacts.{facts_of}
use Rattle.hprof_naming.proofs.Namings.{naming_exists}
use Rattle.hprof_lines.specs.Line.{text_of_lines}
use Rattle.hprof_reports.specs.RefsText.{edge_line}
use Rattle.hprof_lines.specs.Stopping.{WritesText}
use Rattle.hprof_lines.proofs.TextWriting.{lines_without_places}
use Rattle.hprof_reports.proofs.refs.write_refs.Goals as goal

pub returns-clause-bytes : goal.returns-clause-bytes
returns-clause-bytes g c =
    let naming = naming_exists (facts_of c.args.heap.now) in
    subst (λ (lines : List (List ℕ)). WritesText (g.W.Target.written c.args.target.now) (g.W.Target.written c.write_entries.new.target)
    c.write_entries.result (text_of_lines lines)) (lines_without_places edge_line 0 c.args.edges.now)
    (c.write_entries.ensures.bytes naming.0 c.args.edges.now naming.1 refl)
