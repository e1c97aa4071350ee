-- A search of a graph by numbers is one of the facts whose graph it is.
use Rattle.std.specs.Prelude.{◌↔◌, Contains}
use Rattle.std.proofs.Common.{◌≡◌, ◌<◌, ℕ, List, sym, subst}
use Rattle.hprof_values.specs.declared.ids.IdSize.{IdSize}
use Rattle.hprof_items.specs.FactValue.{FactValue}
use Rattle.hprof_edges.specs.declared.edge.Edge.{Edge}
use Rattle.hprof_numbers.specs.Lists.{IsListed}
use Rattle.hprof_numbers.specs.Numbered.{nodes_in}
use Rattle.hprof_numbers.specs.Numbers.{items_in}
use Rattle.hprof_numbers.proofs.Ascending.{number_of}
use Rattle.hprof_search.specs.declared.kept_search.Search.{Search}
use Rattle.hprof_search.specs.ByLists.{LeadsByList}
use Rattle.hprof_search.specs.Search.{IsSearch}
use Rattle.hprof_reach.specs.NumberedGraph.{IsGraphBy, count_of, node_at}
use Rattle.hprof_reach.specs.Reaching.{IsNode, IsRooted, IsStart, IsStepBy, LeadsBy}
use Rattle.hprof_reach.specs.declared.numbered_graph.NumberedGraph.{NumberedGraph}
use Rattle.hprof_reach.proofs.SameWalks.{search_within}

module _ (P : Edge → Type 0) (ids : IdSize) (facts : List FactValue) (graph : NumberedGraph) (is : IsGraphBy P ids facts graph) where
  abbrev nodes : List ℕ
  nodes = nodes_in graph.nodes

  -- the number of a node
  place_of : (node : ℕ) → IsNode facts node → (number : ℕ) × (number < count_of graph) × (node_at graph number ≡ node)
  place_of node is_node = number_of nodes node ((is.nodes node).1 is_node)

  -- what is listed is the number of a node
  listed_within : (number one : ℕ) → IsListed graph.edges number one → one < count_of graph
  listed_within number one listed = subst (λ (n : ℕ). one < n) is.as_many (is.leads number one listed)

  -- edges between nodes
  steps_same : (from to : ℕ) → IsNode facts from
      → (LeadsByList graph.edges nodes from to × Contains nodes to) ↔ IsStepBy P ids facts from to
  steps_same from to is_from = (there, back) where
    there : LeadsByList graph.edges nodes from to × Contains nodes to → IsStepBy P ids facts from to
    there step =
        let leads = step.0 in
        let by = (is.edges leads.number leads.one leads.within (listed_within leads.number leads.one leads.listed)).0 leads.listed in (
          subst (λ (n : ℕ). LeadsBy P ids facts from n) leads.to_is
              (subst (λ (n : ℕ). LeadsBy P ids facts n (node_at graph leads.one)) leads.from_is by),
          (is.nodes to).0 step.1,
        )

    back : IsStepBy P ids facts from to → LeadsByList graph.edges nodes from to × Contains nodes to
    back step =
        let at = place_of from is_from in
        let on = place_of to step.1 in
        let by = subst (λ (n : ℕ). LeadsBy P ids facts (node_at graph at.0) n) (sym on.2)
        (subst (λ (n : ℕ). LeadsBy P ids facts n to) (sym at.2) step.0) in (
          record {
            number = at.0;
            within = at.1;
            from_is = at.2;
            one = on.0;
            listed = (is.edges at.0 on.0 at.1 on.1).1 by;
            to_is = on.2;
          },
          (is.nodes to).1 step.1,
        )

  -- the starts
  module _ (starts : List ℕ)
      (are : (id : ℕ) → Contains starts id ↔ ((number : ℕ) × Contains (items_in graph.starts) number × (node_at graph number ≡ id))) where
    starts_same : (node : ℕ) → (Contains nodes node × Contains starts node) ↔ IsStart facts node
    starts_same node = (there, back) where
      there : Contains nodes node × Contains starts node → IsStart facts node
      there both =
          let start = (are node).0 both.1 in
          ((is.nodes node).0 both.0, subst (IsRooted facts) start.2 ((is.starts start.0).0 start.1).1)

      back : IsStart facts node → Contains nodes node × Contains starts node
      back start =
          let at = place_of node start.0 in
          let rooted = subst (IsRooted facts) (sym at.2) start.1 in (
            (is.nodes node).1 start.0,
            (are node).1 (at.0, (is.starts at.0).1 (at.1, rooted), at.2),
          )

    pub reached_by_numbers : (search : Search)
        → IsSearch (λ node. Contains nodes node × Contains starts node) (λ from to. LeadsByList graph.edges nodes from to × Contains nodes
        to) search
        → IsSearch (IsStart facts) (IsStepBy P ids facts) search
    reached_by_numbers =
        search_within (λ node. Contains nodes node × Contains starts node) (IsStart facts)
        (λ from to. LeadsByList graph.edges nodes from to × Contains nodes to) (IsStepBy P ids facts) (IsNode facts) starts_same
        (λ node start. (is.nodes node).0 start.0) steps_same (λ from to node step. (is.nodes to).0 step.1)
