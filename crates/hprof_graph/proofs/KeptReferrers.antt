-- The edges to an identifier.
use Rattle.std.specs.Prelude.{◌↔◌}
use Rattle.std.specs.List.Sorted.{IsStrictlySortedBy}
use Rattle.std.proofs.Common.{◌≡◌, ℕ, Bool, true, List, Contains}
use Rattle.hprof_values.specs.declared.ids.IdSize.{IdSize}
use Rattle.hprof_items.specs.FactValue.{FactValue}
use Rattle.hprof_edges.specs.declared.edge.Edge.{Edge}
use Rattle.hprof_edges.specs.contracts.edge.EdgeOrd.TheImpl as edge_ord
use Rattle.hprof_edges.specs.Edges.{AreEdges, AreReferrers, IsEdge}
use Rattle.hprof_edges.specs.EdgeSet.{edges_in}
use Rattle.hprof_graph.specs.declared.derived.Derived.{Derived}
use Rattle.hprof_graph.specs.declared.indexed.Index.{Index}
use Rattle.hprof_graph.specs.ByTarget.{IsByTarget}
use Rattle.hprof_graph.specs.Derived.{IsDerived, keeps_of}
use Rattle.hprof_graph.specs.Indexed.{IsIndexOf, IsIndexTo}
use Rattle.hprof_graph.proofs.EdgesSoFar.{all_so_far}

module _ (ids : IdSize) (facts : List FactValue) where
  -- an edge that is watched is kept exactly where it is one
  pub kept_are : (derived : Derived) → IsDerived ids facts derived → (edge : Edge) → keeps_of derived edge ≡ true
      → Contains (edges_in derived.set) edge ↔ IsEdge ids facts edge
  kept_are derived is edge watched =
      let deriving_is = is.deriving_is in
      let all = all_so_far ids facts is.laid is.whole edge in (
        λ there. all.0 ((deriving_is.given_are edge).0 ((deriving_is.set_of edge).0 there).0),
        λ holds. (deriving_is.set_of edge).1 ((deriving_is.given_are edge).1 (all.1 holds), watched),
      )

  pub index_of : (derived : Derived) → IsDerived ids facts derived → (index : Index) → IsByTarget index.edges.items
      → ((edge : Edge) → Contains index.edges.items edge ↔ Contains (edges_in derived.set) edge)
      → IsIndexOf ids facts (keeps_of derived) index
  index_of derived is index sorted same = record {
    sorted = sorted;
    exact = λ edge. (
      λ there. (
          let kept = (same edge).0 there in
          let wanted = ((is.deriving_is.set_of edge).0 kept).1 in
          ((kept_are derived is edge wanted).0 kept, wanted)
          ),
      λ both. (same edge).1 ((kept_are derived is edge both.1).1 both.0),
    );
  }

  module _ (id : ℕ) where
    pub kept_referrers : (derived : Derived) → IsDerived ids facts derived → (result : List Edge)
        → IsStrictlySortedBy (edge_ord.ghosts).cmp result
        → ((edge : Edge) → Contains result edge ↔ (Contains (edges_in derived.set) edge × (edge.to ≡ id)))
        → AreEdges ids facts (λ edge. (edge.to ≡ id) × (keeps_of derived edge ≡ true)) result
    kept_referrers derived is result ascend exact = record {
      ascend = ascend;
      exact = λ edge. (
        λ there. (
            let both = (exact edge).0 there in
            let watched = ((is.deriving_is.set_of edge).0 both.0).1 in
            ((kept_are derived is edge watched).0 both.0, (both.1, watched))
            ),
        λ both. (exact edge).1 ((kept_are derived is edge both.1.1).1 both.0, both.1.0),
      );
    }

    pub referrers_are : (derived : Derived) → IsDerived ids facts derived → ((edge : Edge) → edge.to ≡ id → keeps_of derived edge ≡ true)
        → (result : List Edge) → IsStrictlySortedBy (edge_ord.ghosts).cmp result
        → ((edge : Edge) → Contains result edge ↔ (Contains (edges_in derived.set) edge × (edge.to ≡ id)))
        → AreReferrers ids facts id result
    referrers_are derived is keeps result ascend exact = record {
      ascend = ascend;
      exact = λ edge. (
        λ there. (
            let both = (exact edge).0 there in
            ((kept_are derived is edge (keeps edge both.1)).0 both.0, both.1)
            ),
        λ both. (exact edge).1 ((kept_are derived is edge (keeps edge both.1)).1 both.0, both.1),
      );
    }

    pub index_to : (keeps : Edge → Bool) (index : Index) → IsIndexOf ids facts keeps index
        → ((edge : Edge) → edge.to ≡ id → keeps edge ≡ true) → IsIndexTo ids facts id index
    index_to keeps index is all = record {
      sorted = is.sorted;
      exact = λ edge to. (λ there. ((is.exact edge).0 there).0, λ holds. (is.exact edge).1 (holds, all edge to));
    }

    pub indexed_kept : (keeps : Edge → Bool) (index : Index) → IsIndexOf ids facts keeps index → (result : List Edge)
        → IsStrictlySortedBy (edge_ord.ghosts).cmp result
        → ((edge : Edge) → Contains result edge ↔ (Contains index.edges.items edge × (edge.to ≡ id)))
        → AreEdges ids facts (λ edge. (edge.to ≡ id) × (keeps edge ≡ true)) result
    indexed_kept keeps index is result ascend exact = record {
      ascend = ascend;
      exact = λ edge. (
        λ there. (
            let both = (exact edge).0 there in
            let has = (is.exact edge).0 both.0 in
            (has.0, (both.1, has.1))
            ),
        λ both. (exact edge).1 ((is.exact edge).1 (both.0, both.1.1), both.1.0),
      );
    }

    pub indexed_are : (index : Index) → IsIndexTo ids facts id index → (result : List Edge)
        → IsStrictlySortedBy (edge_ord.ghosts).cmp result
        → ((edge : Edge) → Contains result edge ↔ (Contains index.edges.items edge × (edge.to ≡ id))) → AreReferrers ids facts id result
    indexed_are index is result ascend exact = record {
      ascend = ascend;
      exact = λ edge. (
        λ there. (let both = (exact edge).0 there in ((is.exact edge both.1).0 both.0, both.1)),
        λ both. (exact edge).1 ((is.exact edge both.1).1 both.0, both.1),
      );
    }
