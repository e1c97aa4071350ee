-- The lines of nodes, one behind the other.
use Rattle.std.specs.Prelude.{map}
use Rattle.std.specs.List.{flat_map}
use Rattle.std.proofs.Common.{◌≡◌, ◌+◌, ◌<◌, ℕ, List, ◌++◌, drop, length, get_or}
use Rattle.std.proofs.lemmas.List.{at_drop_more}
use Rattle.hprof_describe.specs.Findings.{Findings}
use Rattle.hprof_retained.specs.Tree.{node_at}
use Rattle.hprof_retained.specs.declared.retained.Retained.{Retained}
use Rattle.hprof_keeps.specs.KeepsText.{retained_line}
use Rattle.hprof_keeps.specs.Order.{retained_in}

-- the line of the node at a place, behind some text
abbrev pub node_line : Findings → Retained → List ℕ → ℕ → List ℕ
node_line found retained front place = front ++ retained_line found (retained_in retained) (node_at retained place)

-- the lines of the nodes at places
abbrev pub nodes_text : Findings → Retained → List ℕ → List ℕ → List ℕ
nodes_text found retained front places =
    flat_map (λ node. front ++ retained_line found (retained_in retained) node) (map (node_at retained) places)

-- the first of them, and then the others
pub next_line : (found : Findings) (retained : Retained) (front places : List ℕ) (index : ℕ) → index < length places
    → nodes_text found retained front (drop index places)
    ≡ node_line found retained front (get_or places index 0) ++ nodes_text found retained front (drop (index + 1) places)
next_line found retained front places index below = at_drop_more (nodes_text found retained front) places index 0 below
