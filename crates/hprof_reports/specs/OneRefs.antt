-- The report `refs` is one text.
use Rattle.std.specs.Prelude.{map}
use Rattle.std.proofs.Common.{◌≡◌, ℕ, List, sym, ap, ◌∙◌}
use Rattle.hprof_values.specs.declared.ids.IdSize.{IdSize}
use Rattle.hprof_items.specs.FactValue.{FactValue}
use Rattle.hprof_edges.specs.declared.edge.Edge.{Edge}
use Rattle.hprof_edges.proofs.SortedEdges.{one_list}
use Rattle.hprof_lines.specs.Line.{text_of_lines}
use Rattle.hprof_reports.specs.RefsText.{IsRefsText, edge_line}

pub one_refs : (ids : IdSize) (facts : List FactValue) (id : ℕ) (one other : List ℕ) → IsRefsText ids facts id one
    → IsRefsText ids facts id other → one ≡ other
one_refs ids facts id one other is is_too =
    let edges = one_list ids facts (λ edge. edge.to ≡ id) is.edges is_too.edges is.are_referrers is_too.are_referrers in
    is.is ∙ ap (λ (l : List Edge). text_of_lines (map edge_line l)) edges ∙ sym is_too.is
