-- If facts agree, the report `biggest` is one text.
use Rattle.std.proofs.Common.{◌≡◌, ◌∙◌, ℕ, List, [], sym, ap}
use Rattle.hprof_values.specs.declared.ids.IdSize.{IdSize}
use Rattle.hprof_items.specs.FactValue.{FactValue}
use Rattle.hprof_rows.specs.Conflict.{IsConsistent}
use Rattle.hprof_describe.specs.Findings.{Findings}
use Rattle.hprof_describe.proofs.OneFinding.{one_findings}
use Rattle.hprof_retained.specs.Retained.{IsHeld}
use Rattle.hprof_keeps.specs.BiggestText.{IsBiggestText}
use Rattle.hprof_keeps.specs.KeepsText.{above_lines}
use Rattle.hprof_keeps.proofs.OneKeeps.{one_largest_lines}

pub biggest_once : (ids : IdSize) (facts : List FactValue) → IsConsistent facts → (Chosen : ℕ → Type 0) (one other : List ℕ)
    → IsBiggestText ids facts Chosen one → IsBiggestText ids facts Chosen other → one ≡ other
biggest_once ids facts agree Chosen one other is too =
    let found = one_findings ids facts agree is.found too.found is.are_found too.are_found in
    let lines = one_largest_lines ids facts agree too.found is.retained too.retained is.are_retained too.are_retained
    (λ node. IsHeld ids facts node × Chosen node) (λ node both. both.0) [] is.nodes too.nodes is.are_nodes too.are_nodes in
    is.is ∙ ap (λ (f : Findings). above_lines f is.retained is.nodes) found ∙ lines ∙ sym too.is
