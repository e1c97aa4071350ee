-- Suspects with all that is told of them; no public contract speaks of it.
use Rattle.std.specs.Prelude.{◌≡◌, ◌≢◌, ◌⊎◌, ◌<◌, ◌≤◌, ◌++◌, ℕ, All, List, [], ◌∷◌, map}
use Rattle.std.specs.List.{flat_map}
use Rattle.hprof_values.specs.declared.ids.IdSize.{IdSize}
use Rattle.hprof_items.specs.FactValue.{FactValue}
use Rattle.hprof_describe.specs.Findings.{Findings}
use Rattle.hprof_retained.specs.Retained.{IsSumOver}
use Rattle.hprof_retained.specs.Tree.{IsTreeOf, count_of, node_at, total_of}
use Rattle.hprof_retained.specs.Weakly.{IsWeaklyHeld}
use Rattle.hprof_retained.specs.declared.retained.Retained.{Retained}
use Rattle.hprof_keeps.specs.KeepsText.{total_line, weakly_line}
use Rattle.hprof_keeps.specs.Order.{retained_in}
use Rattle.hprof_keeps.specs.WeakSum as weak
use Rattle.hprof_keeps.specs.declared.weakly.WeakSum.{WeakSum}
use Rattle.hprof_by_label.specs.declared.node_labels.NodeLabels.{NodeLabels}
use Rattle.hprof_suspects.specs.LabelSums.{sum_of}
use Rattle.hprof_suspects.specs.SuspectsText.{ArePieceSums, AreSuspects, IsChain, Suspect, chain_lines, piece_line, suspect_line}
use Rattle.hprof_suspects.specs.declared.told.Told.{Told}

-- the nodes of the chain
abbrev pub nodes_of : Retained → Told → List ℕ
nodes_of retained told = map (node_at retained) told.chain.items

-- the chain stands in the tree, and the pieces are of some bytes, and not more than all
pub record Fits (retained : Retained) (told : Told) : Type 0 where
  pub some : (total_of retained).bytes ≢ 0
  pub pieces : told.pieces ≤ (total_of retained).bytes
  pub chain : All (λ place. (0 < place) × (place < count_of retained)) told.chain.items

-- ---- what is told is so

module _ (ids : IdSize) (facts : List FactValue) (retained : Retained) (labels : NodeLabels) where
  -- of a suspect
  pub record IsTold (suspect : Suspect) (told : Told) : Type 0 where
    pub pieces : told.pieces ≡ suspect.pieces
    pub chain : IsChain ids facts suspect.part (nodes_of retained told)
    pub sums : ArePieceSums ids facts (retained_in retained) (total_of retained) suspect.part suspect.pieces
        (map (sum_of labels) told.lines.items)

  -- of suspects, one by one
  abbrev pub AreToldOf : List Suspect → List Told → Type 0
  AreToldOf [] told = told ≡ []
  AreToldOf (suspect ∷ suspects) [] = ⊥
  AreToldOf (suspect ∷ suspects) (told ∷ others) = IsTold suspect told × AreToldOf suspects others

  -- of all suspects; of none where there are no bytes
  abbrev pub AreTold : List Told → Type 0
  AreTold told = (((total_of retained).bytes ≡ 0) × (told ≡ [])) ⊎ (((total_of retained).bytes ≢ 0) × (suspects : List Suspect)
      × AreSuspects ids facts (retained_in retained) (total_of retained) suspects × AreToldOf suspects told)

  -- and the tree is that of the facts, and the sum that of the nodes that only weak references reach
  pub record IsFoundOut (weakly : WeakSum) (told : List Told) : Type 0 where
    pub tree : IsTreeOf ids facts retained
    pub sum : IsSumOver ids facts (IsWeaklyHeld ids facts) (weak.sum_of weakly)
    pub are_told : AreTold told

-- ---- in print

module _ (found : Findings) (retained : Retained) (labels : NodeLabels) where
  abbrev pub told_text : Told → List ℕ
  told_text told = suspect_line (total_of retained) told.pieces
      ++ (chain_lines found (retained_in retained) (nodes_of retained told) ++ flat_map piece_line (map (sum_of labels) told.lines.items))

  abbrev pub report_text : WeakSum → List Told → List ℕ
  report_text weakly told = total_line (total_of retained) ++ weakly_line (weak.sum_of weakly) ++ flat_map told_text told
