-- Of whichever facts that agree something is found of each edge.
use Rattle.std.specs.Prelude.{◌↔◌}
use Rattle.std.proofs.Common.{◌≡◌, ℕ, Bool, true, false, List, [], ◌∷◌, Option, None, refl, sym, ap, ◌∙◌, inl, inr}
use Rattle.std.specs.Ordering.{is_eq}
use Rattle.std.specs.declared.cmp.Ordering.{Ordering}
use Rattle.std.specs.declared.cmp.Ordering.TheVariants.{Less, Equal, Greater}
use Rattle.std.proofs.lemmas.Cmp.{tied_itself}
use Rattle.hprof_values.specs.declared.ids.IdSize.{IdSize}
use Rattle.hprof_items.specs.FactValue.{FactValue}
use Rattle.hprof_rows.specs.Conflict.{IsConsistent}
use Rattle.hprof_histogram.proofs.Members.{IsIn, Contains-from_in, in_from_Contains}
use Rattle.hprof_edges.specs.declared.edge.Edge.{Edge}
use Rattle.hprof_edges.specs.contracts.edge.EdgeOrd.TheImpl as edge_ord
use Rattle.hprof_edges.specs.contracts.edge.EdgeOrd.TheImpl.Laws.{total-law, matches_eq-law}
use Rattle.hprof_edges.specs.Edges.{IsEdge}
use Rattle.hprof_edges.proofs.EdgeEquality.{edge_same}
use Rattle.hprof_reach.proofs.SomeEdges.{edges_exist}
use Rattle.hprof_reports.specs.PlaceNames.{IsPlaceName}
use Rattle.hprof_reports.proofs.Places.{place_exists}
use Rattle.hprof_weak.specs.Weak.{IsWeak}
use Rattle.hprof_holders.specs.Steps.{AreEdgeFindings, EdgeFindings}
use Rattle.hprof_holders.proofs.WeakDecided.{Decided, weak_decided}

-- ---- edges are told apart

edges_decided : (one other : Edge) → Decided (one ≡ other)
edges_decided one other = by_order ((edge_ord.ghosts).cmp one other) refl where
  tied : one ≡ other → (edge_ord.ghosts).cmp one other ≡ Equal
  tied same = sym (ap ((edge_ord.ghosts).cmp one) same) ∙ tied_itself total-law one

  by_order : (order : Ordering) → (edge_ord.ghosts).cmp one other ≡ order → Decided (one ≡ other)
  by_order Less e = inr (λ same. let clash : Less ≡ Equal = sym e ∙ tied same in absurd cc)
  by_order Equal e = inl (edge_same one other (matches_eq-law one other ∙ ap is_eq e))
  by_order Greater e = inr (λ same. let clash : Greater ≡ Equal = sym e ∙ tied same in absurd cc)

among_decided : (edge : Edge) (edges : List Edge) → Decided (IsIn edge edges)
among_decided edge [] = inr (λ has. has)
among_decided edge (first ∷ edges) = elim (edges_decided edge first) [
  | inl same ↦ inl (inl same)
  | inr apart ↦ elim (among_decided edge edges) [
    | inl later ↦ inl (inr later)
    | inr none ↦ inr (λ has. elim has [ inl same ↦ apart same | inr later ↦ none later ])
  ]
]

module _ (ids : IdSize) (facts : List FactValue) (agree : IsConsistent facts) where
  edge_decided : (edge : Edge) → Decided (IsEdge ids facts edge)
  edge_decided edge =
      let all = edges_exist ids facts agree edge.from in
      elim (among_decided edge all.edges) [
        | inl there ↦ inl ((all.exact edge).0 (Contains-from_in all.edges edge there)).0
        | inr none ↦ inr (λ is. none (in_from_Contains all.edges edge ((all.exact edge).1 (is, refl))))
      ]

  -- ---- what is found of an edge

  record FoundOf (edge : Edge) : Type 0 where
    pub name : Option ℕ
    pub is_weak : Bool
    pub named : IsEdge ids facts edge → IsPlaceName facts edge.from edge.via edge.position name
    pub weak : IsEdge ids facts edge → (is_weak ≡ true) ↔ IsWeak facts edge

  found_of : (edge : Edge) → FoundOf edge
  found_of edge = elim (edge_decided edge) [
    | inl is ↦
        let name = place_exists ids facts edge.from edge.via edge.position edge.to is.1 in
        elim (weak_decided facts agree ids edge is) [
          | inl weak ↦ record { name = name.0; is_weak = true; named = λ also. name.1; weak = λ also. (λ e. weak, λ told. refl) }
          | inr strong ↦ record {
            name = name.0;
            is_weak = false;
            named = λ also. name.1;
            weak = λ also. (λ e. absurd cc, λ told. absurd (strong told));
          }
        ]
    | inr none ↦ record { name = None; is_weak = false; named = λ is. absurd (none is); weak = λ is. absurd (none is) }
  ]

  pub names_exist : (names : EdgeFindings) × AreEdgeFindings ids facts names
  names_exist = (
    record { name = λ edge. (found_of edge).name; is_weak = λ edge. (found_of edge).is_weak },
    record { names = λ edge. (found_of edge).named; weak = λ edge. (found_of edge).weak },
  )
