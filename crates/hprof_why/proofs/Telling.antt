-- A path in words, from its pieces.
use Rattle.std.specs.List.{flat_map}
use Rattle.std.proofs.Common.{◌≡◌, ℕ, List, ◌∷◌, ◌++◌, codes, refl, sym, ap, subst, ◌∙◌, append_assoc}
use Rattle.hprof_values.specs.declared.ids.IdSize.{IdSize}
use Rattle.hprof_values.specs.declared.root.Root.{Root}
use Rattle.hprof_items.specs.FactValue.{FactValue}
use Rattle.hprof_edges.specs.declared.edge.Edge.{Edge}
use Rattle.hprof_reach.specs.Roots.{AreRootsOf}
use Rattle.hprof_reach.proofs.RootLists.{one_list}
use Rattle.hprof_reports.specs.PathText.{distance_line}
use Rattle.hprof_describe.specs.Nodes.{kind_text, node_text}
use Rattle.hprof_holders.specs.RootsText.{roots_text}
use Rattle.hprof_why.specs.Folding.{AreParts, part_text}
use Rattle.hprof_why.specs.WhyText.{AreLinks, IsToldPath, PathFindings}
use Rattle.hprof_why.specs.Walks.{IsPartsText}

five : (a b c d e : List ℕ) → a ++ b ++ c ++ d ++ e ≡ a ++ (b ++ ((c ++ d) ++ e))
five a b c d e =
    append_assoc (a ++ b ++ c) d e ∙ append_assoc (a ++ b) c (d ++ e) ∙ append_assoc a b (c ++ (d ++ e))
    ∙ ap (λ (l : List ℕ). a ++ (b ++ l)) (sym (append_assoc c d e))

module _ (P : Edge → Type 0) (ids : IdSize) (facts : List FactValue) (found : PathFindings) (distance : ℕ) where
  -- what is left behind the first node
  abbrev pub pieces_text : List Root → ℕ → List ℕ → List ℕ
  pieces_text roots first left =
      distance_line distance ++ (roots_text found.nodes found.threads roots ++ ((node_text found.nodes first ++ codes "\n") ++ left))

  pub told_pieces : (nodes text : List ℕ) (first : ℕ) (rest : List ℕ) (roots : List Root) → IsToldPath P ids facts found distance nodes text
      → nodes ≡ first ∷ rest → AreRootsOf facts first roots
      → (left : List ℕ) × IsPartsText P ids facts found first rest left × (text ≡ pieces_text roots first left)
  told_pieces nodes text first rest roots told split are =
      let both : told.first ∷ told.rest ≡ first ∷ rest = sym told.nodes_are ∙ split in
      let head : told.first ≡ first = cc in
      let tail : told.rest ≡ rest = cc in
      let same = one_list facts first told.roots roots (subst (λ (n : ℕ). AreRootsOf facts n told.roots) head told.are_roots) are in (
        flat_map part_text told.parts,
        record {
          links = told.links;
          are_links = subst (λ (n : ℕ). AreLinks P ids facts found n rest told.links) head
              (subst (λ (l : List ℕ). AreLinks P ids facts found told.first l told.links) tail told.are_links);
          parts = told.parts;
          are_parts = subst (λ (n : ℕ). AreParts (kind_text found.nodes n) told.links told.parts) head told.are_parts;
          is = refl;
        },
        told.is
            ∙ five (distance_line distance) (roots_text found.nodes found.threads told.roots) (node_text found.nodes told.first)
            (codes "\n") (flat_map part_text told.parts)
            ∙ (λ i. pieces_text (same i) (head i) (flat_map part_text told.parts)),
      )
