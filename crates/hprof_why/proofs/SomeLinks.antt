-- Of whichever facts that agree a path has links and a text.
use Rattle.std.specs.Prelude.{◌≢◌, slice_index}
use Rattle.std.specs.List.{flat_map}
use Rattle.std.proofs.Common.{◌≡◌, ◌⊎◌, inl, inr, ◌==◌, ◌<◌, ◌+◌, ℕ, suc, Bool, true, false, List, [], ◌∷◌, ◌++◌, length, Option, Some}
use Rattle.std.proofs.Common.{None, refl, sym, ap, subst, ◌∙◌}
use Rattle.std.proofs.Common.{append_assoc, append-nil, arith, codes}
use Rattle.std.specs.Ordering.{ordering_reverse}
use Rattle.std.specs.declared.cmp.Ordering.{Ordering}
use Rattle.std.specs.declared.cmp.Ordering.TheVariants.{Less, Equal, Greater}
use Rattle.std.proofs.lemmas.Cmp.{tied_itself}
use Rattle.hprof_values.specs.declared.ids.IdSize.{IdSize}
use Rattle.hprof_items.specs.FactValue.{FactValue}
use Rattle.hprof_rows.specs.Conflict.{IsConsistent}
use Rattle.hprof_edges.specs.declared.edge.Edge.{Edge}
use Rattle.hprof_edges.specs.contracts.edge.EdgeOrd.TheImpl as edge_ord
use Rattle.hprof_edges.specs.contracts.edge.EdgeOrd.TheImpl.Laws.{total-law}
use Rattle.hprof_edges.specs.LeastEdge.{IsLeastEdgeBy, KeepsLeast}
use Rattle.hprof_edges.proofs.LeastEdges.{keeps_first, keeps_none, keeps_same, least_by}
use Rattle.hprof_reach.specs.Reaching.{IsPathBy, IsStart, IsStepBy}
use Rattle.hprof_reach.proofs.SomeEdges.{edges_by}
use Rattle.hprof_search.proofs.Forth.{path_walks}
use Rattle.hprof_reports.proofs.SomeRoots.{roots_exist}
use Rattle.hprof_reports.specs.PathText.{distance_line}
use Rattle.hprof_describe.specs.Nodes.{kind_text, node_text}
use Rattle.hprof_holders.specs.RootsText.{roots_text}
use Rattle.hprof_why.specs.Folding.{Link, part_text}
use Rattle.hprof_why.specs.WhyText.{AreLinks, IsToldPath, NoLink, OneLink, PathFindings, link_by}
use Rattle.hprof_why.proofs.SomeParts.{parts_exist}

module _ (to : ℕ) where
  -- the least of these edges is kept
  abbrev Kept : List Edge → Type 0
  Kept edges = (found : Option Edge) × KeepsLeast (record { to = to; edge = found }) edges

  not_behind_itself : (edge : Edge) → (edge_ord.ghosts).cmp edge edge ≢ Greater
  not_behind_itself edge e = let tied : (edge_ord.ghosts).cmp edge edge ≡ Equal = tied_itself total-law edge in absurd cc

  -- one edge more, that leads there
  more_there : (edges : List Edge) (edge : Edge) → (edge.to == to) ≡ true → (found : Option Edge)
      → KeepsLeast (record { to = to; edge = found }) edges → Kept (edges ++ edge ∷ [])
  more_there edges edge leads None kept =
      (Some edge, keeps_first to edges edge edge None leads (inl refl) (not_behind_itself edge) tt kept)
  more_there edges edge leads (Some old) kept = by_order ((edge_ord.ghosts).cmp old edge) refl where
    by_order : (order : Ordering) → (edge_ord.ghosts).cmp old edge ≡ order → Kept (edges ++ edge ∷ [])
    by_order Less e = (Some old, keeps_first to edges edge old (Some old) leads (inr refl) (λ behind. cc) (not_behind_itself old) kept)
    by_order Equal e = (Some old, keeps_first to edges edge old (Some old) leads (inr refl) (λ behind. cc) (not_behind_itself old) kept)
    by_order Greater e =
        let back : (edge_ord.ghosts).cmp edge old ≡ Less = total-law.antisymm edge old ∙ ap ordering_reverse e in
        (Some edge, keeps_first to edges edge edge (Some old) leads (inl refl) (not_behind_itself edge) (λ behind. cc) kept)

  one_more : (edges : List Edge) (edge : Edge) (test : Bool) → (edge.to == to) ≡ test → Kept edges → Kept (edges ++ edge ∷ [])
  one_more edges edge true e kept = more_there edges edge e kept.0 kept.1
  one_more edges edge false e kept = (kept.0, keeps_same to edges edge kept.0 e kept.1)

  keeps_all : (edges rest : List Edge) → Kept edges → Kept (edges ++ rest)
  keeps_all edges [] kept = subst Kept (sym (append-nil edges)) kept
  keeps_all edges (edge ∷ rest) kept =
      subst Kept (append_assoc edges (edge ∷ []) rest)
      (keeps_all (edges ++ edge ∷ []) rest (one_more edges edge (edge.to == to) refl kept))

module _ (P : Edge → Type 0) (ids : IdSize) (facts : List FactValue) (agree : IsConsistent facts)
    (decide : (edge : Edge) → P edge ⊎ (P edge → ⊥)) where
  pub least_exists : (from to : ℕ) → (edge : Option Edge) × IsLeastEdgeBy P ids facts from to edge
  least_exists from to =
      let some = edges_by ids facts agree from P decide in
      let kept = keeps_all to [] some.edges (None, keeps_none to) in (
        kept.0,
        least_by P ids facts from to (record { to = to; edge = kept.0 })
            (record { more = some.edges; holds_more = kept.1; exact = some.exact }) refl,
      )

  module _ (found : PathFindings) where
    -- where an edge leads from each node to the next there are links
    links_along : (from : ℕ) (nodes : List ℕ)
        → ((place : ℕ) → place + 1 < length (from ∷ nodes)
        → IsStepBy P ids facts (slice_index (from ∷ nodes) place) (slice_index (from ∷ nodes) (place + 1)))
        → (links : List Link) × AreLinks P ids facts found from nodes links
    links_along from [] steps = ([], NoLink from)
    links_along from (to ∷ nodes) steps =
        go (least_exists from to).0 (least_exists from to).1 (links_along to nodes (λ place below.
        subst (λ (n : ℕ). IsStepBy P ids facts (slice_index (to ∷ nodes) place) (slice_index (from ∷ to ∷ nodes) n)) (next place)
        (steps (suc place) (omega (arith, below))))) where
          next : (place : ℕ) → suc place + 1 ≡ suc (place + 1)
          next place = omega arith

          go : (edge : Option Edge) → IsLeastEdgeBy P ids facts from to edge
              → (links : List Link) × AreLinks P ids facts found to nodes links
              → (links : List Link) × AreLinks P ids facts found from (to ∷ nodes) links
          go (Some edge) least more = (link_by found edge to ∷ more.0, OneLink from to nodes edge more.0 least more.1)
          go None none more =
              let leads = (steps 0 (omega arith)).0 in
              absurd (none (record { from = from; via = leads.via; position = leads.position; to = to })
              (record { edge_is = leads.edge; from_is = refl; to_is = refl; holds = leads.holds }))

    -- a path has a text
    pub told_exists : (id distance : ℕ) (nodes : List ℕ) → IsPathBy P ids facts id (Some nodes)
        → (text : List ℕ) × IsToldPath P ids facts found distance nodes text
    told_exists id distance [] path =
        let some = (path_walks (IsStart facts) (IsStepBy P ids facts) id [] path).some in
        absurd (omega (arith, some))
    told_exists id distance (first ∷ rest) path =
        let walk = path_walks (IsStart facts) (IsStepBy P ids facts) id (first ∷ rest) path in
        let links = links_along first rest walk.steps in
        let parts = parts_exist (kind_text found.nodes first) links.0 in
        let roots = roots_exist facts first in (
          distance_line distance ++ roots_text found.nodes found.threads roots.0 ++ node_text found.nodes first ++ codes "\n"
              ++ flat_map part_text parts.0,
          record {
            first = first;
            rest = rest;
            nodes_are = refl;
            roots = roots.0;
            are_roots = roots.1;
            links = links.0;
            are_links = links.1;
            parts = parts.0;
            are_parts = parts.1;
            is = refl;
          },
        )
