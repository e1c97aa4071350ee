-- Of whichever facts the report `why` is one text.
use Rattle.std.specs.Fmt.{decimal}
use Rattle.std.specs.List.{flat_map}
use Rattle.std.proofs.Common.{◌≡◌, ℕ, List, ◌∷◌, ◌++◌, Option, Some, None, codes, sym, ap, subst, ◌∙◌, inl, inr}
use Rattle.hprof_values.specs.declared.ids.IdSize.{IdSize}
use Rattle.hprof_items.specs.FactValue.{FactValue}
use Rattle.hprof_rows.specs.Conflict.{IsConsistent}
use Rattle.hprof_heap.specs.Classes.{ClassValue}
use Rattle.hprof_edges.specs.declared.edge.Edge.{Edge}
use Rattle.hprof_edges.specs.Edges.{AnyEdge, IsEdge}
use Rattle.hprof_reach.specs.Reaching.{IsDistanceBy, IsStart, IsStepBy}
use Rattle.hprof_reach.proofs.Choices.{unreached}
use Rattle.hprof_search.proofs.OneWalk.{one_distance, one_path}
use Rattle.hprof_weak.specs.Weak.{IsStrong}
use Rattle.hprof_reports.specs.OnePlace.{least_once}
use Rattle.hprof_reports.specs.PathText.{distance_line}
use Rattle.hprof_reports.specs.RefsText.{via_word}
use Rattle.hprof_describe.specs.Findings.{Findings}
use Rattle.hprof_describe.specs.Nodes.{kind_text, node_text}
use Rattle.hprof_describe.proofs.OneFinding.{one_findings}
use Rattle.hprof_holders.specs.RootsText.{roots_text}
use Rattle.hprof_holders.specs.Steps.{name_behind, step_kind, step_text, weak_word}
use Rattle.hprof_holders.specs.ThreadFindings.{AreThreadFindings}
use Rattle.hprof_holders.proofs.EdgeNames.{name_found, weak_found}
use Rattle.hprof_holders.proofs.SomeThreads.{one_threads}
use Rattle.hprof_why.specs.Folding.{AreParts, Link, part_text}
use Rattle.hprof_why.specs.WhyText.{AreLinks, ArePathFindings, IsFoundText, IsReachedBy, IsReachedText, IsToldPath, IsWhyText, NoLink}
use Rattle.hprof_why.specs.WhyText.{OneLink, PathFindings, link_by}
use Rattle.hprof_why.specs.Walks.{IsPartsText}
use Rattle.hprof_why.proofs.Going.{first_step, no_links}
use Rattle.hprof_why.proofs.SomeParts.{parts_once}
use Rattle.hprof_why.proofs.Telling.{told_pieces}

module _ (ids : IdSize) (facts : List FactValue) (agree : IsConsistent facts) (one other : PathFindings)
    (are : ArePathFindings ids facts one) (too : ArePathFindings ids facts other) where
  nodes : one.nodes ≡ other.nodes
  nodes = one_findings ids facts agree one.nodes other.nodes are.are_nodes too.are_nodes

  threads : one.threads ≡ other.threads
  threads = one_threads facts agree other.nodes.naming one.threads other.threads
      (subst (λ (f : Findings). AreThreadFindings facts f.naming one.threads) nodes are.are_threads) too.are_threads

  -- ---- links

  module _ (edge : Edge) (is : IsEdge ids facts edge) where
    names : one.edges.name edge ≡ other.edges.name edge
    names = name_found facts agree ids other.edges too.are_edges edge is (one.edges.name edge) (are.are_edges.names edge is)

    weak : one.edges.is_weak edge ≡ other.edges.is_weak edge
    weak = weak_found facts agree ids other.edges too.are_edges edge is (one.edges.is_weak edge) (are.are_edges.weak edge is)

    steps : step_text one.nodes.naming one.edges edge ≡ step_text other.nodes.naming other.edges edge
    unfolding step_text
    steps = λ i. weak_word (weak i) ++ via_word edge.via ++ codes " " ++ decimal edge.position
        ++ name_behind (nodes i).naming (names i)

    kinds : step_kind one.nodes.naming one.edges edge ≡ step_kind other.nodes.naming other.edges edge
    unfolding step_kind
    kinds = λ i. weak_word (weak i) ++ via_word edge.via ++ name_behind (nodes i).naming (names i)

    one_link : (to : ℕ) → link_by one edge to ≡ link_by other edge to
    one_link to = λ i. record {
      step = steps i;
      step_kind = kinds i;
      node = node_text (nodes i) to;
      node_kind = kind_text (nodes i) to;
    }

  module _ (P : Edge → Type 0) where
    links_once : (from : ℕ) (path : List ℕ) (links others : List Link) → AreLinks P ids facts one from path links
        → AreLinks P ids facts other from path others → links ≡ others
    links_once _ _ _ others (NoLink from) theirs = sym (no_links P ids facts other from others theirs)
    links_once _ _ _ others (OneLink from to path edge links least rest) theirs =
        let first = first_step P ids facts other from to path others theirs in
        let found : Some edge ≡ Some first.0 = least_once _ (Some edge) (Some first.0) least first.1.least in
        let same : edge ≡ first.0 = cc in
        let more = links_once to path links first.1.left rest first.1.are_left in
        let link = one_link edge least.0.edge_is to ∙ ap (λ (e : Edge). link_by other e to) same in
        (λ i. link i ∷ more i) ∙ sym first.1.links_are

    parts_text_once : (from : ℕ) (path text others : List ℕ) → IsPartsText P ids facts one from path text
        → IsPartsText P ids facts other from path others → text ≡ others
    parts_text_once from path text others told theirs =
        let links = links_once from path told.links theirs.links told.are_links theirs.are_links in
        let kind = ap (λ (f : Findings). kind_text f from) nodes in
        let parts = parts_once (kind_text other.nodes from) theirs.links told.parts theirs.parts
        (subst (λ (k : List ℕ). AreParts k theirs.links told.parts) kind
        (subst (λ (l : List Link). AreParts (kind_text one.nodes from) l told.parts) links told.are_parts)) theirs.are_parts in
        told.is ∙ ap (flat_map part_text) parts ∙ sym theirs.is

    -- ---- the path

    told_once : (distance : ℕ) (path text others : List ℕ) → IsToldPath P ids facts one distance path text
        → IsToldPath P ids facts other distance path others → text ≡ others
    told_once distance path text others told theirs =
        let mine = told_pieces P ids facts one distance path text told.first told.rest told.roots told told.nodes_are told.are_roots in
        let also = told_pieces P ids facts other distance path others told.first told.rest told.roots theirs told.nodes_are
        told.are_roots in
        let left = parts_text_once told.first told.rest mine.0 also.0 mine.1 also.1 in
        mine.2
        ∙ (λ i. distance_line distance ++ (roots_text (nodes i) (threads i) told.roots
        ++ ((node_text (nodes i) told.first ++ codes "\n") ++ left i)))
        ∙ sym also.2

    reached_once : (id : ℕ) (text others : List ℕ) → IsReachedBy P ids facts one id text → IsReachedBy P ids facts other id others
        → text ≡ others
    reached_once id text others reached theirs =
        let distances = one_distance (IsStart facts) (IsStepBy P ids facts) id (Some reached.distance) (Some theirs.distance)
        reached.is_distance theirs.is_distance in
        let paths = one_path (IsStart facts) (IsStepBy P ids facts) id (Some reached.nodes) (Some theirs.nodes)
        reached.is_path theirs.is_path in
        let distance : reached.distance ≡ theirs.distance = cc in
        let path : reached.nodes ≡ theirs.nodes = cc in
        told_once theirs.distance theirs.nodes text others
        (subst (λ (n : ℕ). IsToldPath P ids facts one n theirs.nodes text) distance
        (subst (λ (l : List ℕ). IsToldPath P ids facts one reached.distance l text) path reached.told)) theirs.told

    -- what is reached has a distance
    not_both : (found : PathFindings) (id : ℕ) (text : List ℕ) → IsReachedBy P ids facts found id text
        → IsDistanceBy P ids facts id None → ⊥
    not_both found id text reached none = none reached.distance reached.is_distance.reaches

  -- ---- the report

  -- what no edges lead to, strong ones do not lead to
  no_strong : (id : ℕ) → IsDistanceBy AnyEdge ids facts id None → IsDistanceBy (IsStrong facts) ids facts id None
  no_strong id none = unreached (IsStrong facts) AnyEdge ids facts (λ edge is strong. tt) id none

  reached_text_once : (id : ℕ) (text others : List ℕ) → IsReachedText ids facts one id text → IsReachedText ids facts other id others
      → text ≡ others
  reached_text_once id text others (inl reached) (inl theirs) = reached_once (IsStrong facts) id text others reached theirs
  reached_text_once id text others (inl reached) (inr (inl theirs)) = absurd (not_both (IsStrong facts) one id text reached theirs.0)
  reached_text_once id text others (inl reached) (inr (inr theirs)) =
      absurd (not_both (IsStrong facts) one id text reached (no_strong id theirs.0))
  reached_text_once id text others (inr (inl mine)) (inl theirs) = absurd (not_both (IsStrong facts) other id others theirs mine.0)
  reached_text_once id text others (inr (inl mine)) (inr (inl theirs)) =
      mine.1.2
      ∙ ap (λ (l : List ℕ). codes "only by weak references\n" ++ l) (reached_once AnyEdge id mine.1.0 theirs.1.0 mine.1.1 theirs.1.1)
      ∙ sym theirs.1.2
  reached_text_once id text others (inr (inl mine)) (inr (inr theirs)) = absurd (not_both AnyEdge one id mine.1.0 mine.1.1 theirs.0)
  reached_text_once id text others (inr (inr mine)) (inl theirs) =
      absurd (not_both (IsStrong facts) other id others theirs (no_strong id mine.0))
  reached_text_once id text others (inr (inr mine)) (inr (inl theirs)) = absurd (not_both AnyEdge other id theirs.1.0 theirs.1.1 mine.0)
  reached_text_once id text others (inr (inr mine)) (inr (inr theirs)) = mine.1 ∙ sym theirs.1

  found_text_once : (id : ℕ) (text others : List ℕ) (class : Option ClassValue) (object : Option FactValue)
      → IsFoundText id class object (IsReachedText ids facts one id) text
      → IsFoundText id class object (IsReachedText ids facts other id) others
      → text ≡ others
  found_text_once id text others None None is theirs = is ∙ sym theirs
  found_text_once id text others (Some class) object is theirs = reached_text_once id text others is theirs
  found_text_once id text others None (Some fact) is theirs = reached_text_once id text others is theirs

  text_once : (id : ℕ) (text others : List ℕ)
      → IsFoundText id (one.nodes.class id) (one.nodes.object id) (IsReachedText ids facts one id) text
      → IsFoundText id (other.nodes.class id) (other.nodes.object id) (IsReachedText ids facts other id) others → text ≡ others
  text_once id text others is theirs =
      found_text_once id text others (other.nodes.class id) (other.nodes.object id)
      (subst (λ (f : Findings). IsFoundText id (f.class id) (f.object id) (IsReachedText ids facts one id) text) nodes is) theirs

pub why_once : (ids : IdSize) (facts : List FactValue) (id : ℕ) (one other : List ℕ) → IsWhyText ids facts id one
    → IsWhyText ids facts id other → one ≡ other
why_once ids facts id one other is too =
    text_once ids facts is.agree is.found too.found is.are_found too.are_found id one other is.is too.is
