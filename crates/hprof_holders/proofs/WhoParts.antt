-- The report `who`, in parts.
use Rattle.std.specs.Prelude.{Contains, nat_le, if◌then◌else◌}
use Rattle.std.proofs.Common.{◌≡◌, ℕ, Bool, false, List, [], ◌∷◌, ◌++◌, length, map, codes}
use Rattle.std.proofs.Common.{refl, sym, ap, append_assoc, inl, inr}
use Rattle.std.specs.List.{AllByRecursion, flat_map}
use Rattle.hprof_values.specs.declared.ids.IdSize.{IdSize}
use Rattle.hprof_values.specs.declared.root.Root.{Root}
use Rattle.hprof_items.specs.FactValue.{FactValue}
use Rattle.hprof_rows.specs.Conflict.{IsConsistent}
use Rattle.hprof_histogram.proofs.Members.{IsIn, Contains-from_in}
use Rattle.hprof_edges.specs.declared.edge.Edge.{Edge}
use Rattle.hprof_edges.specs.Edges.{AreReferrers, IsEdge}
use Rattle.hprof_describe.specs.Findings.{Findings}
use Rattle.hprof_describe.specs.Nodes.{kind_text, node_text}
use Rattle.hprof_describe.proofs.WordParts.{not_null}
use Rattle.hprof_holders.specs.RootsText.{roots_text}
use Rattle.hprof_holders.specs.Steps.{AreEdgeFindings, EdgeFindings}
use Rattle.hprof_holders.specs.Sums.{SumValue}
use Rattle.hprof_holders.specs.ThreadFindings.{ThreadFindings}
use Rattle.hprof_holders.specs.WhoText.{edge_kind, edge_line, none_line, referred_text, roots_of_some, sum_line, sums_text, who_text}
use Rattle.hprof_holders.proofs.EdgeNames.{name_found, weak_found}
use Rattle.hprof_holders.proofs.SameWho.{SameEdge, kinds_same, step_kind_same, step_same, who_same}

-- ---- the edges of a list

all_from_each : {X : Type 0} (P : X → Type 0) (xs : List X) → ((x : X) → IsIn x xs → P x) → AllByRecursion P xs
all_from_each P [] of_each = tt
all_from_each P (x ∷ xs) of_each = (of_each x (inl refl), all_from_each P xs (λ y has. of_each y (inr has)))

pub all_of_each : {X : Type 0} (P : X → Type 0) (xs : List X) → ((x : X) → Contains xs x → P x) → AllByRecursion P xs
all_of_each P xs of_each = all_from_each P xs (λ x has. of_each x (Contains-from_in xs x has))

pub are_edges : (ids : IdSize) (facts : List FactValue) (id : ℕ) (edges : List Edge) → AreReferrers ids facts id edges
    → AllByRecursion (IsEdge ids facts) edges
are_edges ids facts id edges are =
    all_of_each (IsEdge ids facts) edges (λ edge has. ((are.exact edge).0 has).0)

-- ---- the words of edges do not depend on what is found of other edges

module _ (ids : IdSize) (facts : List FactValue) (agree : IsConsistent facts) (one other : EdgeFindings)
    (are : AreEdgeFindings ids facts one) (too : AreEdgeFindings ids facts other) (found : Findings) where
  same_edge : (edge : Edge) → IsEdge ids facts edge → SameEdge found found one other edge
  same_edge edge is =
      let name = name_found facts agree ids other too edge is (one.name edge) (are.names edge is) in
      let weak = weak_found facts agree ids other too edge is (one.is_weak edge) (are.weak edge is) in (
        ap (λ (step : List ℕ). node_text found edge.from ++ codes " " ++ step ++ codes "\n")
            (step_same one other edge name weak found.naming),
        ap (λ (step : List ℕ). kind_text found edge.from ++ codes " " ++ step) (step_kind_same one other edge name weak found.naming),
      )

  same_edges : (edges : List Edge) → AllByRecursion (IsEdge ids facts) edges → AllByRecursion (SameEdge found found one other) edges
  same_edges [] all = tt
  same_edges (edge ∷ edges) all = (same_edge edge all.0, same_edges edges all.1)

  pub same_kinds : (edges : List Edge) → AllByRecursion (IsEdge ids facts) edges
      → map (edge_kind found one) edges ≡ map (edge_kind found other) edges
  same_kinds edges all = kinds_same found found one other edges (same_edges edges all)

  pub same_who : (threads : ThreadFindings) (id : ℕ) (roots : List Root) (edges : List Edge) (sums : List SumValue)
      → AllByRecursion (IsEdge ids facts) edges
      → who_text found threads one id roots edges sums ≡ who_text found threads other id roots edges sums
  same_who threads id roots edges sums all =
      who_same found found one other threads id sums roots edges refl (same_edges edges all) refl

-- ---- the parts

module _ (found : Findings) (threads : ThreadFindings) (names : EdgeFindings) where
  pub referred_parts : (roots : List Root) (edges : List Edge) (sums : List SumValue)
      → roots_text found threads roots ++ (sums_text edges sums ++ flat_map (edge_line found names) edges)
      ≡ referred_text found threads names roots edges sums
  unfolding referred_text
  referred_parts roots edges sums =
      sym (append_assoc (roots_text found threads roots) (sums_text edges sums) (flat_map (edge_line found names) edges))

  module _ (id : ℕ) (sums : List SumValue) where
    pub who_none : (roots : List Root) (edges : List Edge) → (roots ≡ []) × (edges ≡ [])
        → none_line id (found.class id) (found.object id) ≡ who_text found threads names id roots edges sums
    who_none [] [] none = refl
    who_none (root ∷ roots) edges none = let no_root = none.0 in absurd cc
    who_none [] (edge ∷ edges) none = let no_edge = none.1 in absurd cc

    pub who_some : (roots : List Root) (edges : List Edge) → (((roots ≡ []) × (edges ≡ [])) → ⊥)
        → referred_text found threads names roots edges sums ≡ who_text found threads names id roots edges sums
    who_some [] [] some = absurd (some (refl, refl))
    who_some (root ∷ roots) edges some = refl
    who_some [] (edge ∷ edges) some = refl

-- ---- roots

-- 0 has none
pub no_roots : (id : ℕ) (roots : List Root) → id ≡ 0 → [] ≡ roots_of_some id roots
no_roots id roots zero = ap (λ (n : ℕ). roots_of_some n roots) (sym zero)

pub all_roots : (id : ℕ) (roots : List Root) → (id ≡ 0 → ⊥) → roots ≡ roots_of_some id roots
all_roots id roots some = ap (λ (b : Bool). if b then [] else roots) (sym (not_null id some))

-- ---- sums

module _ (edges : List Edge) (sums : List SumValue) where
  -- more than 20 edges have sums
  pub told_sums : nat_le (length edges) 20 ≡ false → flat_map sum_line sums ≡ sums_text edges sums
  told_sums more = ap (λ (b : Bool). if b then [] else flat_map sum_line sums) (sym more)
