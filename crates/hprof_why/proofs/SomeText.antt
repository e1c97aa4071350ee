-- Of whichever facts that agree there is a report `why`.
use Rattle.std.specs.Prelude.{◌↔◌}
use Rattle.std.proofs.Common.{◌≡◌, ◌⊎◌, inl, inr, ℕ, Bool, true, false, List, ◌++◌, Option, Some, None, codes, refl}
use Rattle.std.proofs.lemmas.Bool.{both_ways}
use Rattle.hprof_values.specs.declared.ids.IdSize.{IdSize}
use Rattle.hprof_items.specs.FactValue.{FactValue}
use Rattle.hprof_rows.specs.Conflict.{IsConsistent}
use Rattle.hprof_heap.specs.Classes.{ClassValue}
use Rattle.hprof_edges.specs.declared.edge.Edge.{Edge}
use Rattle.hprof_edges.specs.Edges.{AnyEdge, IsEdge}
use Rattle.hprof_edges.proofs.LeastEdges.{least_of_same}
use Rattle.hprof_reach.specs.Reaching.{IsDistanceBy, IsPathBy}
use Rattle.hprof_reach.proofs.Choices.{same_distance, same_path}
use Rattle.hprof_reach.proofs.SomeReach.{some_distance_by, some_path_by}
use Rattle.hprof_weak.specs.Weak.{IsStrong}
use Rattle.hprof_lines.specs.Line.{nothing_line}
use Rattle.hprof_describe.proofs.OneFinding.{findings_exist}
use Rattle.hprof_holders.specs.Steps.{AreEdgeFindings, EdgeFindings}
use Rattle.hprof_holders.proofs.SomeSteps.{names_exist}
use Rattle.hprof_holders.proofs.SomeThreads.{threads_exist}
use Rattle.hprof_why.specs.Folding.{Link}
use Rattle.hprof_why.specs.WhyText.{AreLinks, ArePathFindings, IsFoundText, IsReachedBy, IsReachedText, IsToldPath, IsWhyText, NoLink}
use Rattle.hprof_why.specs.WhyText.{OneLink, PathFindings}
use Rattle.hprof_why.proofs.SomeLinks.{told_exists}

-- ---- the same edges in other words

module _ (P Q : Edge → Type 0) (ids : IdSize) (facts : List FactValue) (found : PathFindings)
    (same : (edge : Edge) → IsEdge ids facts edge → P edge ↔ Q edge) where
  links_same : (from : ℕ) (nodes : List ℕ) (links : List Link) → AreLinks P ids facts found from nodes links
      → AreLinks Q ids facts found from nodes links
  links_same _ _ _ (NoLink from) = NoLink from
  links_same _ _ _ (OneLink from to nodes edge links least rest) =
      OneLink from to nodes edge links (least_of_same P Q ids facts same from to (Some edge) least) (links_same to nodes links rest)

  pub told_same : (distance : ℕ) (nodes text : List ℕ) → IsToldPath P ids facts found distance nodes text
      → IsToldPath Q ids facts found distance nodes text
  told_same distance nodes text told = record {
    first = told.first;
    rest = told.rest;
    nodes_are = told.nodes_are;
    roots = told.roots;
    are_roots = told.are_roots;
    links = told.links;
    are_links = links_same told.first told.rest told.links told.are_links;
    parts = told.parts;
    are_parts = told.are_parts;
    is = told.is;
  }

  pub reached_as : (id distance : ℕ) (nodes text : List ℕ) → IsDistanceBy P ids facts id (Some distance)
      → IsPathBy P ids facts id (Some nodes)
      → IsToldPath P ids facts found distance nodes text → IsReachedBy Q ids facts found id text
  reached_as id distance nodes text is_distance is_path told = record {
    distance = distance;
    is_distance = same_distance P Q ids facts same id (Some distance) is_distance;
    nodes = nodes;
    is_path = same_path P Q ids facts same id (Some nodes) is_path;
    told = told_same distance nodes text told;
  }

-- ---- what there is

-- the report on an identifier that no strong edges lead to
abbrev IsOtherwise : IdSize → List FactValue → PathFindings → ℕ → List ℕ → Type 0
IsOtherwise ids facts found id text =
    ((path : List ℕ) × IsReachedBy AnyEdge ids facts found id path × (text ≡ codes "only by weak references\n" ++ path))
    ⊎ (IsDistanceBy AnyEdge ids facts id None × (text ≡ codes "not reached\n"))

otherwise_is : (ids : IdSize) (facts : List FactValue) (found : PathFindings) (id : ℕ) (text : List ℕ)
    → IsDistanceBy (IsStrong facts) ids facts id None → IsOtherwise ids facts found id text → IsReachedText ids facts found id text
otherwise_is ids facts found id text none (inl some) = inr (inl (none, some))
otherwise_is ids facts found id text none (inr none_too) = inr (inr none_too)

module _ (ids : IdSize) (facts : List FactValue) (agree : IsConsistent facts) where
  pub found_exist : (found : PathFindings) × ArePathFindings ids facts found
  found_exist =
      let nodes = findings_exist ids facts agree in
      let threads = threads_exist facts agree nodes.0.naming in
      let edges = names_exist ids facts agree in (
        record { nodes = nodes.0; threads = threads.0; edges = edges.0 },
        record { are_nodes = nodes.1; are_threads = threads.1; are_edges = edges.1 },
      )

  module _ (found : PathFindings) (id : ℕ) where
    -- an identifier is reached or it is not
    reached_or_not : (P Q : Edge → Type 0) → ((edge : Edge) → P edge ⊎ (P edge → ⊥))
        → ((edge : Edge) → IsEdge ids facts edge → P edge ↔ Q edge)
        → ((text : List ℕ) × IsReachedBy Q ids facts found id text) ⊎ IsDistanceBy Q ids facts id None
    reached_or_not P Q decide same = go distance.0 path.0 distance.1 path.1 where
      distance : (distance : Option ℕ) × IsDistanceBy P ids facts id distance
      distance = some_distance_by ids facts agree P decide id

      path : (path : Option (List ℕ)) × IsPathBy P ids facts id path
      path = some_path_by ids facts agree P decide id

      go : (distance : Option ℕ) (path : Option (List ℕ)) → IsDistanceBy P ids facts id distance → IsPathBy P ids facts id path
          → ((text : List ℕ) × IsReachedBy Q ids facts found id text) ⊎ IsDistanceBy Q ids facts id None
      go (Some distance) (Some nodes) is_distance is_path =
          let told = told_exists P ids facts agree decide found id distance nodes is_path in
          inl (told.0, reached_as P Q ids facts found same id distance nodes told.0 is_distance is_path told.1)
      go (Some distance) None is_distance none = absurd (none distance is_distance.reaches)
      go None path none is_path = inr (same_distance P Q ids facts same id None none)

    otherwise_exists : (text : List ℕ) × IsOtherwise ids facts found id text
    otherwise_exists = elim (reached_or_not AnyEdge AnyEdge (λ edge. inl tt) (λ edge is. (λ any. any, λ any. any))) [
      | inl reached ↦ (codes "only by weak references\n" ++ reached.0, inl (reached.0, reached.1, refl))
      | inr none ↦ (codes "not reached\n", inr (none, refl))
    ]

    -- what is found of an edge tells whether it is strong
    pub told_strong : (edges : EdgeFindings) → AreEdgeFindings ids facts edges → (edge : Edge) → IsEdge ids facts edge
        → (edges.is_weak edge ≡ false) ↔ IsStrong facts edge
    told_strong edges are edge is = (
      λ e weak. both_ways (edges.is_weak edge) e ((are.weak edge is).1 weak),
      λ strong. by (edges.is_weak edge) refl strong,
    ) where
      by : (b : Bool) → edges.is_weak edge ≡ b → IsStrong facts edge → edges.is_weak edge ≡ false
      by true e strong = absurd (strong ((are.weak edge is).0 e))
      by false e strong = e

    pub no_answer : (b : Bool) → (b ≡ false) ⊎ (b ≡ false → ⊥)
    no_answer true = inr (λ e. absurd cc)
    no_answer false = inl refl

    reached_exists : ArePathFindings ids facts found → (text : List ℕ) × IsReachedText ids facts found id text
    reached_exists are = elim (reached_or_not (λ edge. found.edges.is_weak edge ≡ false) (IsStrong facts)
        (λ edge. no_answer (found.edges.is_weak edge)) (told_strong found.edges are.are_edges)) [
          | inl reached ↦ (reached.0, inl reached.1)
          | inr none ↦ (otherwise_exists.0, otherwise_is ids facts found id otherwise_exists.0 none otherwise_exists.1)
        ]

    found_text_exists : ArePathFindings ids facts found → (class : Option ClassValue) (object : Option FactValue)
        → (text : List ℕ) × IsFoundText id class object (IsReachedText ids facts found id) text
    found_text_exists are None None = (nothing_line id, refl)
    found_text_exists are (Some class) object = reached_exists are
    found_text_exists are None (Some fact) = reached_exists are

  pub why_exists : (id : ℕ) → (text : List ℕ) × IsWhyText ids facts id text
  why_exists id =
      let found = found_exist in
      let text = found_text_exists found.0 id found.1 (found.0.nodes.class id) (found.0.nodes.object id) in
      (text.0, record { agree = agree; found = found.0; are_found = found.1; is = text.1 })
