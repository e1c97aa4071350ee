-- A path that is gone along and told part by part; no public contract speaks of it.
use Rattle.std.specs.Prelude.{◌≡◌, ◌<◌, ℕ, ◌+◌, ◌==◌, Bool, List, [], ◌∷◌, ◌++◌, length, Option, Some, None, codes, if◌then◌else◌}
use Rattle.std.specs.Fmt.{decimal}
use Rattle.std.specs.List.{flat_map}
use Rattle.hprof_values.specs.declared.ids.IdSize.{IdSize}
use Rattle.hprof_items.specs.FactValue.{FactValue}
use Rattle.hprof_heap.specs.HeapFacts.{facts_of, size_of}
use Rattle.hprof_edges.specs.declared.edge.Edge.{Edge}
use Rattle.hprof_edges.specs.declared.left_out.LeftOut.{LeftOut}
use Rattle.hprof_edges.specs.LeastEdge.{IsLeastEdgeBy}
use Rattle.hprof_edges.specs.LeftOut.{IsKept, fields_in}
use Rattle.hprof_describe.specs.Nodes.{kind_text, node_text}
use Rattle.hprof_holders.specs.declared.steps.Step.{Step}
use Rattle.hprof_holders.specs.declared.view.HeapView.{HeapView}
use Rattle.hprof_holders.specs.Steps.{EdgeFindings, step_kind, step_text}
use Rattle.hprof_why.specs.declared.fronts.Front.{Front}
use Rattle.hprof_why.specs.declared.fronts.Place.{Place}
use Rattle.hprof_why.specs.declared.fronts.Run.{Run}
use Rattle.hprof_why.specs.Folding.{AreParts, Link, Part, alike_at_front, is_alike, kind_behind, part_text}
use Rattle.hprof_why.specs.WhyText.{AreLinks, PathFindings, link_by}

-- ---- steps

-- the step by an edge
abbrev pub step_by : EdgeFindings → Edge → Step
step_by edges edge = record { edge = edge; name = edges.name edge; is_weak = edges.is_weak edge }

-- the kind of the step by an edge
abbrev pub kind_of_step : PathFindings → Edge → List ℕ
kind_of_step found edge = step_kind found.nodes.naming found.edges edge

-- the link is of the kind of that step, and leads to a node of the kind of that node
abbrev pub is_alike_link : PathFindings → ℕ → Edge → Link → Bool
is_alike_link found before edge link = is_alike (kind_of_step found edge) (kind_text found.nodes before) link

-- how many links at the front are like them
abbrev pub alike_links : PathFindings → ℕ → Edge → List Link → ℕ
alike_links found before edge links = alike_at_front (kind_of_step found edge) (kind_text found.nodes before) links

-- the node that the links lead to
abbrev pub node_behind : List ℕ → List Link → List ℕ
node_behind node [] = node
node_behind node (link ∷ links) = node_behind link.node links

-- ---- what is left of a path

module _ (P : Edge → Type 0) (ids : IdSize) (facts : List FactValue) (found : PathFindings) where
  -- the text of the parts of a path from a node on
  pub record IsPartsText (from : ℕ) (nodes text : List ℕ) : Type 0 where
    pub links : List Link
    pub are_links : AreLinks P ids facts found from nodes links
    pub parts : List Part
    pub are_parts : AreParts (kind_text found.nodes from) links parts
    pub is : text ≡ flat_map part_text parts

  -- so many links from a node were gone along, all of them like the first one, up to a node; behind it these nodes are left
  pub record IsGone (before : ℕ) (edge : Edge) (links : List Link) (count node : ℕ) (rest : List ℕ) : Type 0 where
    pub front : List Link
    pub left : List Link
    pub links_are : links ≡ front ++ left
    pub counted : length front ≡ count
    pub are_left : AreLinks P ids facts found node rest left
    pub node_is : node_behind (node_text found.nodes before) front ≡ node_text found.nodes node
    pub kind_is : kind_behind (kind_text found.nodes before) front ≡ kind_text found.nodes node
    pub alike : alike_links found before edge links ≡ count + alike_links found before edge left

  -- the first of the links is by the least edge, and these nodes are behind it
  pub record IsStepTo (before : ℕ) (edge : Edge) (links : List Link) (node : ℕ) (rest : List ℕ) : Type 0 where
    pub least : IsLeastEdgeBy P ids facts before node (Some edge)
    pub left : List Link
    pub links_are : links ≡ link_by found edge node ∷ left
    pub are_left : AreLinks P ids facts found node rest left

-- ---- in terms of a heap, without the edges by some fields

module _ (view : HeapView) (left_out : LeftOut) where
  abbrev pub IsPartsTextOf : PathFindings → ℕ → (nodes text : List ℕ) → Type 0
  IsPartsTextOf found from nodes text =
      IsPartsText (IsKept (fields_in left_out) (facts_of view.heap.now)) (size_of view.heap.now) (facts_of view.heap.now) found from nodes
      text

  abbrev pub IsGoneOf : PathFindings → ℕ → Edge → List Link → Run → Type 0
  IsGoneOf found before edge links run =
      IsGone (IsKept (fields_in left_out) (facts_of view.heap.now)) (size_of view.heap.now) (facts_of view.heap.now) found before edge links
      run.count run.behind.node run.behind.rest.now

  -- all links at the front that are like the first one were gone along
  abbrev pub IsRunOf : PathFindings → ℕ → Edge → List Link → Run → Type 0
  IsRunOf found before edge links run = IsGoneOf found before edge links run × (alike_links found before edge links ≡ run.count)

  abbrev pub IsStepOf : PathFindings → ℕ → Edge → List Link → Place → Type 0
  IsStepOf found before edge links place =
      IsStepTo (IsKept (fields_in left_out) (facts_of view.heap.now)) (size_of view.heap.now) (facts_of view.heap.now) found before edge
      links place.node place.rest.now

  -- so many links at the front are alike, and if there are any, they were gone along
  abbrev pub IsFoundRun : PathFindings → ℕ → Edge → List Link → Run → Type 0
  IsFoundRun found before edge links run =
      (alike_links found before edge links ≡ run.count) × (0 < run.count → IsGoneOf found before edge links run)

-- ---- in print

-- the line of nodes that are left out, if there are any
abbrev pub more_line : ℕ → List ℕ
more_line more = if more == 0 then [] else codes ".. " ++ decimal more ++ codes " more\n"

-- a step, the nodes that are left out, and the node behind
abbrev pub front_text : PathFindings → Edge → (more node : ℕ) → List ℕ
front_text found edge more node = codes "  " ++ step_text found.nodes.naming found.edges edge ++ codes "\n"
    ++ (more_line more ++ (node_text found.nodes node ++ codes "\n"))

-- the text begins with the front, and what is left is the text of the parts behind it
abbrev pub BeginsWith : HeapView → LeftOut → PathFindings → List ℕ → Option Front → Type 0
BeginsWith view left_out found text (Some front) = (edge : Edge) × (left : List ℕ) × (front.step ≡ step_by found.edges edge)
    × (text ≡ front_text found edge front.more front.behind.node ++ left)
    × IsPartsTextOf view left_out found front.behind.node front.behind.rest.now left
BeginsWith view left_out found text None = ⊥
