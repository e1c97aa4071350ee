-- The report `who`: the roots of a class or an object, and each reference to it, with names. Its form is this project's own.
use Rattle.std.specs.Prelude.{◌≡◌, ℕ, ◌==◌, nat_le, List, [], ◌++◌, length, map, Option, None, codes, if◌then◌else◌}
use Rattle.std.specs.Fmt.{decimal}
use Rattle.std.specs.List.{flat_map}
use Rattle.hprof_text.specs.Identifier.{id_digits}
use Rattle.hprof_values.specs.declared.ids.IdSize.{IdSize}
use Rattle.hprof_values.specs.declared.root.Root.{Root}
use Rattle.hprof_items.specs.FactValue.{FactValue}
use Rattle.hprof_rows.specs.Conflict.{IsConsistent}
use Rattle.hprof_heap.specs.Classes.{ClassValue}
use Rattle.hprof_edges.specs.declared.edge.Edge.{Edge}
use Rattle.hprof_edges.specs.Edges.{AreReferrers}
use Rattle.hprof_reach.specs.Roots.{AreRootsOf}
use Rattle.hprof_lines.specs.Line.{nothing_line}
use Rattle.hprof_describe.specs.Findings.{AreFindings, Findings}
use Rattle.hprof_describe.specs.Nodes.{kind_text, node_text}
use Rattle.hprof_holders.specs.ThreadFindings.{AreThreadFindings, ThreadFindings}
use Rattle.hprof_holders.specs.RootsText.{roots_text}
use Rattle.hprof_holders.specs.Steps.{AreEdgeFindings, EdgeFindings, step_kind, step_text}
use Rattle.hprof_holders.specs.Sums.{AreSums, SumValue}

-- what refers, and by which step
abbrev pub edge_line : Findings → EdgeFindings → Edge → List ℕ
edge_line found edges edge = node_text found edge.from ++ codes " " ++ step_text found.naming edges edge ++ codes "\n"

-- the same without the identifier, the name of a thread and the place
abbrev pub edge_kind : Findings → EdgeFindings → Edge → List ℕ
edge_kind found edges edge = kind_text found edge.from ++ codes " " ++ step_kind found.naming edges edge

abbrev pub sum_line : SumValue → List ℕ
sum_line sum = decimal sum.count ++ codes " times " ++ sum.text ++ codes "\n"

-- the sums of more than 20 edges; fewer are not added up
abbrev pub sums_text : List Edge → List SumValue → List ℕ
sums_text edges sums = if nat_le (length edges) 20 then [] else flat_map sum_line sums

-- 0 has no roots
abbrev pub roots_of_some : ℕ → List Root → List Root
roots_of_some id roots = if id == 0 then [] else roots

-- the roots, the sums, and a line for each edge
unfoldable pub referred_text : Findings → ThreadFindings → EdgeFindings → List Root → List Edge → List SumValue → List ℕ
referred_text found threads names roots edges sums =
    roots_text found threads roots ++ sums_text edges sums ++ flat_map (edge_line found names) edges

-- that there are no roots and no edges
abbrev pub none_line : ℕ → Option ClassValue → Option FactValue → List ℕ
none_line id None None = nothing_line id
none_line id class object = codes "nothing refers to " ++ id_digits id ++ codes "\n"

-- the report, or that there is nothing to report
abbrev pub who_text : Findings → ThreadFindings → EdgeFindings → ℕ → List Root → List Edge → List SumValue → List ℕ
who_text found threads names id [] [] sums = none_line id (found.class id) (found.object id)
who_text found threads names id roots edges sums = referred_text found threads names roots edges sums

-- the text is the report of these facts, which agree, on the identifier
pub record IsWhoText (ids : IdSize) (facts : List FactValue) (id : ℕ) (text : List ℕ) : Type 0 where
  pub agree : IsConsistent facts
  pub found : Findings
  pub are_found : AreFindings ids facts found
  pub threads : ThreadFindings
  pub are_threads : AreThreadFindings facts found.naming threads
  pub names : EdgeFindings
  pub are_names : AreEdgeFindings ids facts names
  pub roots : List Root
  pub are_roots : AreRootsOf facts id roots
  pub edges : List Edge
  pub are_edges : AreReferrers ids facts id edges
  pub sums : List SumValue
  pub are_sums : AreSums (map (edge_kind found names) edges) sums
  pub is : text ≡ who_text found threads names id (roots_of_some id roots) edges sums
