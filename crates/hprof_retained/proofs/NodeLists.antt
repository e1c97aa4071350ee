-- If facts agree, the nodes with dumps of which something holds are finitely many, and stand in a list, each once.
use Rattle.std.specs.Prelude.{◌↔◌, map}
use Rattle.std.proofs.Common.{ℕ, List, [], ◌∷◌, Option, Some, None, sym, ap, subst, inl, inr}
use Rattle.hprof_values.specs.declared.ids.IdSize.{IdSize}
use Rattle.hprof_items.specs.FactValue.{FactValue}
use Rattle.hprof_rows.specs.Conflict.{IsConsistent}
use Rattle.hprof_rows.specs.Facts.{Has}
use Rattle.hprof_rows.specs.Key.{key_of, number_of}
use Rattle.hprof_rows.specs.declared.key.Key.{Key}
use Rattle.hprof_heap.specs.Classes.{fact_of_class}
use Rattle.hprof_dominators.specs.Retained.{IsOnce}
use Rattle.hprof_dominators.specs.Walks as listed
use Rattle.hprof_dominators.specs.Walks.{IsOn}
use Rattle.hprof_dominators.proofs.Listed.{same_reached}
use Rattle.hprof_reach.specs.Reaching.{IsDumped, IsStart, IsStepBy}
use Rattle.hprof_weak.specs.Weak.{IsStrong}
use Rattle.hprof_retained.specs.Retained.{IsHeld}
use Rattle.hprof_retained.proofs.Deciding.{Decided}
use Rattle.hprof_retained.proofs.HeldOrNot.{held_or_not, on_or_not}

-- ---- those of a list of which something holds

-- the list has what something holds of, each once
pub record IsListOf (Holds : ℕ → Type 0) (nodes : List ℕ) : Type 0 where
  pub once : IsOnce nodes
  pub exact : (node : ℕ) → IsOn node nodes ↔ Holds node

module _ (Holds : ℕ → Type 0) (decide : (node : ℕ) → Decided (Holds node)) where
  -- one node more, if something holds of it and it is not there yet
  more : (first : ℕ) (rest nodes : List ℕ) → IsListOf (λ node. IsOn node rest × Holds node) nodes → Decided (Holds first)
      → Decided (IsOn first nodes) → (all : List ℕ) × IsListOf (λ node. IsOn node (first ∷ rest) × Holds node) all
  more first rest nodes is (inr none) there = (
    nodes,
    record {
      once = is.once;
      exact = λ node. (
        λ on. let both = (is.exact node).0 on in (inr both.0, both.1),
        λ both. elim both.0 [
          | inl same ↦ absurd (none (subst Holds same both.1))
          | inr later ↦ (is.exact node).1 (later, both.1)
        ],
      );
    },
  )
  more first rest nodes is (inl holds) (inl there) = (
    nodes,
    record {
      once = is.once;
      exact = λ node. (
        λ on. let both = (is.exact node).0 on in (inr both.0, both.1),
        λ both. elim both.0 [
          | inl same ↦ subst (λ n. IsOn n nodes) (sym same) there
          | inr later ↦ (is.exact node).1 (later, both.1)
        ],
      );
    },
  )
  more first rest nodes is (inl holds) (inr new) = (
    first ∷ nodes,
    record {
      once = (new, is.once);
      exact = λ node. (
        λ on. elim on [
          | inl same ↦ (inl same, subst Holds (sym same) holds)
          | inr later ↦ let both = (is.exact node).0 later in (inr both.0, both.1)
        ],
        λ both. elim both.0 [
          | inl same ↦ inl same
          | inr later ↦ inr ((is.exact node).1 (later, both.1))
        ],
      );
    },
  )

  picked : (all : List ℕ) → (nodes : List ℕ) × IsListOf (λ node. IsOn node all × Holds node) nodes
  picked [] = ([], record { once = tt; exact = λ node. (λ on. absurd on, λ both. both.0) })
  picked (first ∷ rest) =
      let nodes = picked rest in
      more first rest nodes.0 nodes.1 (decide first) (on_or_not first nodes.0)

-- ---- the identifiers of facts

number_of_key : Option Key → ℕ
number_of_key (Some key) = number_of key
number_of_key None = 0

-- the identifier that a fact is about; for other facts any number
number_of_fact : FactValue → ℕ
number_of_fact fact = number_of_key (key_of fact)

fact_on : (facts : List FactValue) (fact : FactValue) → Has facts fact → IsOn (number_of_fact fact) (map number_of_fact facts)
fact_on [] fact has = absurd has
fact_on (first ∷ facts) fact has = elim has [
  | inl same ↦ inl (ap number_of_fact same)
  | inr later ↦ inr (fact_on facts fact later)
]

dumped_on : (facts : List FactValue) (node : ℕ) → IsDumped facts node → IsOn node (map number_of_fact facts)
unfolding number_of_fact number_of_key
dumped_on facts node (inl class) =
    subst (λ n. IsOn n (map number_of_fact facts)) class.2 (fact_on facts (fact_of_class class.0) class.1)
dumped_on facts node (inr object) =
    subst (λ n. IsOn n (map number_of_fact facts)) (ap number_of_key object.2) (fact_on facts object.0 object.1)

-- ---- the nodes of facts

module _ (ids : IdSize) (facts : List FactValue) (agree : IsConsistent facts) where
  pub nodes_exist : (Holds : ℕ → Type 0) → ((node : ℕ) → Decided (Holds node)) → ((node : ℕ) → Holds node → IsDumped facts node)
      → (nodes : List ℕ) × IsListOf Holds nodes
  nodes_exist Holds decide dumped =
      let nodes = picked Holds decide (map number_of_fact facts) in (
        nodes.0,
        record {
          once = nodes.1.once;
          exact = λ node. (
            λ on. ((nodes.1.exact node).0 on).1,
            λ holds. (nodes.1.exact node).1 (dumped_on facts node (dumped node holds), holds),
          );
        },
      )

  -- a node that is held has a dump
  pub held_dumped : (node : ℕ) → IsHeld ids facts node → IsDumped facts node
  held_dumped node held = go walk.0 walk.1 where
    walk : listed.Reached (IsStart facts) (IsStepBy (IsStrong facts) ids facts) node
    walk = (same_reached (IsStart facts) (IsStepBy (IsStrong facts) ids facts) node).1 held

    go : (nodes : List ℕ) → listed.IsWalk (IsStart facts) (IsStepBy (IsStrong facts) ids facts) nodes node → IsDumped facts node
    go [] start = start.0.1
    go (before ∷ nodes) step = step.0.1.1

  pub held_nodes : (nodes : List ℕ) × IsOnce nodes × ((node : ℕ) → IsOn node nodes ↔ IsHeld ids facts node)
  held_nodes =
      let nodes = nodes_exist (IsHeld ids facts) (held_or_not ids facts agree) held_dumped in
      (nodes.0, nodes.1.once, nodes.1.exact)
