-- The report `path`: how far from the roots an identifier is, and by which path they lead there.
use Rattle.std.specs.Prelude.{◌≡◌, ℕ, List, [], ◌∷◌, ◌++◌, map, Option, Some, codes}
use Rattle.std.specs.Fmt.{decimal}
use Rattle.hprof_text.specs.Identifier.{id_digits}
use Rattle.hprof_values.specs.declared.ids.IdSize.{IdSize}
use Rattle.hprof_items.specs.FactValue.{FactValue}
use Rattle.hprof_reach.specs.Reaching.{IsDistanceFromRoots, IsPathFromRoots}
use Rattle.hprof_lines.specs.Line.{line_of, text_of_lines}

abbrev pub distance_line : ℕ → List ℕ
distance_line distance = line_of (codes "distance" ∷ decimal distance ∷ [])

abbrev pub node_line : ℕ → List ℕ
node_line node = line_of (id_digits node ∷ [])

-- a line for each node, from that of a root on
abbrev pub nodes_text : List ℕ → List ℕ
nodes_text nodes = text_of_lines (map node_line nodes)

-- what is said of the distance and the path
abbrev pub reached_text : Option ℕ → Option (List ℕ) → List ℕ
reached_text (Some distance) (Some nodes) = distance_line distance ++ nodes_text nodes
reached_text distance path = codes "not reached\n"

-- the text is the report of these facts on the identifier
pub record IsPathText (ids : IdSize) (facts : List FactValue) (id : ℕ) (text : List ℕ) : Type 0 where
  pub distance : Option ℕ
  pub is_distance : IsDistanceFromRoots ids facts id distance
  pub path : Option (List ℕ)
  pub is_path : IsPathFromRoots ids facts id path
  pub is : text ≡ reached_text distance path
