-- The report `biggest`: the objects of a class or a type, those that retain most first. Its form is this project's own.
use Rattle.std.specs.Prelude.{◌≡◌, ℕ, List}
use Rattle.hprof_values.specs.declared.ids.IdSize.{IdSize}
use Rattle.hprof_items.specs.FactValue.{FactValue}
use Rattle.hprof_rows.specs.Conflict.{IsConsistent}
use Rattle.hprof_describe.specs.Findings.{AreFindings, Findings}
use Rattle.hprof_retained.specs.Retained.{IsHeld, Sum}
use Rattle.hprof_keeps.specs.KeepsText.{above_lines}
use Rattle.hprof_keeps.specs.Order.{AreLargestFirst, AreRetained}

-- the text is the report of these facts, which agree, on the nodes of a choice: each that strong references reach in a line
pub record IsBiggestText (ids : IdSize) (facts : List FactValue) (Chosen : ℕ → Type 0) (text : List ℕ) : Type 0 where
  pub agree : IsConsistent facts
  pub found : Findings
  pub are_found : AreFindings ids facts found
  pub retained : ℕ → Sum
  pub are_retained : AreRetained ids facts retained
  pub nodes : List ℕ
  pub are_nodes : AreLargestFirst retained (λ node. IsHeld ids facts node × Chosen node) nodes
  pub is : text ≡ above_lines found retained nodes
