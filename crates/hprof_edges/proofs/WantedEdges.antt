-- Edges that are not wanted are not kept.
use Rattle.std.specs.Prelude.{filter}
use Rattle.std.proofs.Common.{◌≡◌, ℕ, ◌+◌, ◌==◌, Contains, Bool, true, false, cond, List, [], ◌∷◌, ◌++◌, refl, sym, ap, ◌∙◌}
use Rattle.std.proofs.lemmas.List.{append-nil}
use Rattle.std.proofs.lemmas.List.Elements.{filter-append, Contains-append_left, Contains-append_right, Contains-push}
use Rattle.hprof_layouts.specs.declared.reference.Reference.{Reference}
use Rattle.hprof_layouts.specs.declared.reference.Wanted.{Wanted}
use Rattle.hprof_layouts.specs.References.{is_wanted, wanted_of}
use Rattle.hprof_edges.specs.declared.edge.Edge.{Edge}
use Rattle.hprof_edges.specs.declared.edge.Via.{Via}
use Rattle.hprof_edges.specs.declared.edge.Via.TheVariants as vias
use Rattle.hprof_edges.specs.EdgeLists.{numbered, reference_edges, unless_zero}

none_kept : (keeps : Edge → Bool) (edge : Edge) → keeps edge ≡ false → filter keeps (unless_zero edge) ≡ []
none_kept keeps edge unkept = elim (edge.to == 0) as (λ t. filter keeps (cond t [] (edge ∷ [])) ≡ []) [
  | true ↦ refl
  | false ↦ ap (λ (b : Bool). cond b (edge ∷ []) []) unkept
]

-- with an edge behind them that is not kept
pub kept_without : (keeps : Edge → Bool) (edges : List Edge) (edge : Edge) → keeps edge ≡ false
    → filter keeps edges ≡ filter keeps (edges ++ unless_zero edge)
kept_without keeps edges edge unkept =
    sym (filter-append keeps edges (unless_zero edge) ∙ ap (λ (l : List Edge). filter keeps edges ++ l) (none_kept keeps edge unkept)
    ∙ append-nil (filter keeps edges))

module _ (keeps : Edge → Bool) (which : Wanted) (only : (edge : Edge) → is_wanted which edge.to ≡ false → keeps edge ≡ false) (from : ℕ)
  where
    abbrev edge_by : Reference → Edge
    edge_by reference = record { from = from; via = vias.Field; position = reference.place; to = reference.to }

    by_wanted : (references : List Reference)
        → filter keeps (reference_edges from (wanted_of which references)) ≡ filter keeps (reference_edges from references)
    by_wanted [] = refl
    by_wanted (reference ∷ references) =
        let edge = edge_by reference in
        let some = unless_zero edge in
        let rest = reference_edges from references in
        let wanted = reference_edges from (wanted_of which references) in
        elim (is_wanted which reference.to) as (λ t. is_wanted which reference.to ≡ t
        → filter keeps (reference_edges from (cond t (reference ∷ wanted_of which references) (wanted_of which references)))
        ≡ filter keeps (some ++ rest)) [
          | true ↦ λ yes. filter-append keeps some wanted ∙ ap (λ (l : List Edge). filter keeps some ++ l) (by_wanted references)
              ∙ sym (filter-append keeps some rest)
          | false ↦ λ no. by_wanted references ∙ sym (filter-append keeps some rest
              ∙ ap (λ (l : List Edge). l ++ filter keeps rest) (none_kept keeps edge (only edge no)))
        ] refl

    -- by identifiers of which none is wanted no edge is kept
    none_numbered : (via : Via) (position : ℕ) (targets : List ℕ) → ((to : ℕ) → Contains targets to → is_wanted which to ≡ false)
        → filter keeps (numbered from via position targets) ≡ []
    none_numbered via position [] none = refl
    none_numbered via position (to ∷ targets) none =
        let edge : Edge = record { from = from; via = via; position = position; to = to } in
        let rest = numbered from via (position + 1) targets in
        let first = none to (Contains-append_left (to ∷ []) targets to (Contains-push [] to)) in
        filter-append keeps (unless_zero edge) rest ∙ ap (λ (l : List Edge). l ++ filter keeps rest)
        (none_kept keeps edge (only edge first))
        ∙ none_numbered via (position + 1) targets (λ other there. none other (Contains-append_right (to ∷ []) targets other there))

    -- so others are kept as they are without them
    pub kept_alone : (edges : List Edge) (via : Via) (targets : List ℕ) → ((to : ℕ) → Contains targets to → is_wanted which to ≡ false)
        → filter keeps edges ≡ filter keeps (edges ++ numbered from via 0 targets)
    kept_alone edges via targets none =
        sym (filter-append keeps edges (numbered from via 0 targets)
        ∙ ap (λ (l : List Edge). filter keeps edges ++ l) (none_numbered via 0 targets none) ∙ append-nil (filter keeps edges))

    -- behind others the edges by those that are wanted are kept as the edges by all are
    pub kept_alike : (edges : List Edge) (references wanted : List Reference) → wanted ≡ wanted_of which references
        → filter keeps (edges ++ reference_edges from wanted) ≡ filter keeps (edges ++ reference_edges from references)
    kept_alike edges references wanted e =
        filter-append keeps edges (reference_edges from wanted)
        ∙ ap (λ (l : List Edge). filter keeps edges ++ l)
        (ap (λ (w : List Reference). filter keeps (reference_edges from w)) e ∙ by_wanted references)
        ∙ sym (filter-append keeps edges (reference_edges from references))
