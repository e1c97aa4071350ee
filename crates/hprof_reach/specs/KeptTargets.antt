-- Targets of edges, all of which are kept.
use Rattle.std.specs.Prelude.{filter, map}
use Rattle.std.proofs.Common.{◌≡◌, true, List, [], ◌∷◌, refl, sym, ap, ◌∙◌}
use Rattle.hprof_edges.specs.declared.edge.Edge.{Edge}
use Rattle.hprof_reach.specs.declared.targets.Targets.{Targets}

all_kept : (edges : List Edge) → filter (λ (edge : Edge). true) edges ≡ edges
all_kept [] = refl
all_kept (edge ∷ edges) = ap (λ (l : List Edge). edge ∷ l) (all_kept edges)

-- lists that have the same edges that are kept are the same
pub targets_alike : (targets : Targets) (one other : List Edge) → filter (λ (edge : Edge). true) one ≡ filter (λ (edge : Edge). true) other
    → targets.list.items ≡ map (λ (edge : Edge). edge.to) one → targets.list.items ≡ map (λ (edge : Edge). edge.to) other
targets_alike targets one other same held =
    held ∙ ap (map (λ (edge : Edge). edge.to)) (sym (all_kept one) ∙ same ∙ all_kept other)
