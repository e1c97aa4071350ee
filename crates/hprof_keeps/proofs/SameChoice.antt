-- The report `biggest` is the same on choices of the same nodes.
use Rattle.std.proofs.Common.{ℕ, List, ◌↔◌}
use Rattle.hprof_values.specs.declared.ids.IdSize.{IdSize}
use Rattle.hprof_items.specs.FactValue.{FactValue}
use Rattle.hprof_keeps.specs.BiggestText.{IsBiggestText}

pub biggest_alike : (ids : IdSize) (facts : List FactValue) (One Other : ℕ → Type 0) → ((node : ℕ) → One node ↔ Other node)
    → (text : List ℕ) → IsBiggestText ids facts One text → IsBiggestText ids facts Other text
biggest_alike ids facts One Other same text is = record {
  agree = is.agree;
  found = is.found;
  are_found = is.are_found;
  retained = is.retained;
  are_retained = is.are_retained;
  nodes = is.nodes;
  are_nodes = record {
    ordered = is.are_nodes.ordered;
    exact = λ node. (
      (λ has. let both = (is.are_nodes.exact node).0 has in (both.0, (same node).0 both.1)),
      (λ both. (is.are_nodes.exact node).1 (both.0, (same node).1 both.1)),
    );
  };
  is = is.is;
}
