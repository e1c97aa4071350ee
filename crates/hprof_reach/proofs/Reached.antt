-- What is found of a heap's nodes, roots and edges is what they are.
use Rattle.std.specs.Prelude.{◌↔◌, Contains}
use Rattle.std.proofs.Common.{◌≡◌, ◌⊎◌, ℕ, List, [], inl, inr, arith, subst}
use Rattle.hprof_values.specs.declared.ids.IdSize.{IdSize}
use Rattle.hprof_items.specs.FactValue.{FactValue}
use Rattle.hprof_edges.specs.declared.edge.Edge.{Edge}
use Rattle.hprof_search.specs.declared.kept_search.Search.{Search}
use Rattle.hprof_search.specs.Search.{IsSearch}
use Rattle.hprof_reach.specs.Nodes.{IsClassNode, IsObjectNode}
use Rattle.hprof_reach.specs.Reaching.{IsNode, IsRooted, IsStart, IsStepBy, LeadsBy}
use Rattle.hprof_reach.proofs.SameWalks.{same_search}

-- a node has a class dump or an object dump
pub either_dump : (facts : List FactValue) (id : ℕ) → IsNode facts id ↔ (IsClassNode facts id ⊎ IsObjectNode facts id)
either_dump facts id = (there, back) where
  there : IsNode facts id → IsClassNode facts id ⊎ IsObjectNode facts id
  there is = elim is.1 [ inl class ↦ inl (is.0, class) | inr object ↦ inr (is.0, object) ]

  back : IsClassNode facts id ⊎ IsObjectNode facts id → IsNode facts id
  back (inl is) = (is.0, inl is.1)
  back (inr is) = (is.0, inr is.1)

-- a search over what was found is one from the roots
pub reached : (P : Edge → Type 0) (ids : IdSize) (facts : List FactValue) (nodes starts : List ℕ) (search : Search)
    → ((node : ℕ) → Contains nodes node ↔ IsNode facts node) → ((id : ℕ) → Contains starts id ↔ IsRooted facts id)
    → IsSearch (λ node. Contains nodes node × Contains starts node) (λ from to. LeadsBy P ids facts from to × Contains nodes to) search
    → IsSearch (IsStart facts) (IsStepBy P ids facts) search
reached P ids facts nodes starts search are rooted is =
    same_search (λ node. Contains nodes node × Contains starts node) (IsStart facts)
    (λ from to. LeadsBy P ids facts from to × Contains nodes to) (IsStepBy P ids facts)
    (λ node. (λ start. ((are node).0 start.0, (rooted node).0 start.1), λ start. ((are node).1 start.0, (rooted node).1 start.1)))
    (λ from to. (λ step. (step.0, (are to).0 step.1), λ step. (step.0, (are to).1 step.1))) search is

none_in : (id : ℕ) → Contains [] id → ⊥
none_in id has = omega (arith, has.1)

-- what was gathered of class dumps, and then sorted, are the nodes that have one
pub all_class_nodes : (facts : List FactValue) (none classes sorted : List ℕ) → none ≡ []
    → ((id : ℕ) → Contains classes id ↔ (Contains none id ⊎ IsClassNode facts id))
    → ((id : ℕ) → Contains sorted id ↔ Contains classes id) → (id : ℕ) → Contains sorted id ↔ IsClassNode facts id
all_class_nodes facts none classes sorted nothing of_classes same id = (
  λ has. elim ((of_classes id).0 ((same id).0 has)) [
    | inl old ↦ absurd (none_in id (subst (λ (l : List ℕ). Contains l id) nothing old))
    | inr is ↦ is
  ],
  λ is. (same id).1 ((of_classes id).1 (inr is)),
)

-- what was gathered of roots, from nothing on
pub all_starts : (facts : List FactValue) (starts : List ℕ)
    → ((id : ℕ) → Contains starts id ↔ (Contains [] id ⊎ IsRooted facts id)) → (id : ℕ) → Contains starts id ↔ IsRooted facts id
all_starts facts starts are id = (
  λ has. elim ((are id).0 has) [ inl none ↦ absurd (none_in id none) | inr is ↦ is ],
  λ is. (are id).1 (inr is),
)
