-- If facts agree, each node that is held has the head of its group, and it is decided what is right below a group.
use Rattle.std.proofs.Common.{◌≡◌, ◌≢◌, ◌⊎◌, ◌≤◌, ◌+◌, ℕ, zero, suc, List, [], ◌∷◌, Option, Some, None, length, sym, subst, inl, inr, arith}
use Rattle.std.proofs.lemmas.Bool.{cases_eq}
use Rattle.hprof_values.specs.declared.ids.IdSize.{IdSize}
use Rattle.hprof_items.specs.FactValue.{FactValue}
use Rattle.hprof_rows.specs.Conflict.{IsConsistent}
use Rattle.hprof_reach.specs.Reaching.{IsStart, IsStepBy}
use Rattle.hprof_weak.specs.Weak.{IsStrong}
use Rattle.hprof_dominators.specs.Walks as listed
use Rattle.hprof_dominators.specs.Walks.{IsOn}
use Rattle.hprof_dominators.proofs.Listed.{dominator_reached, same_dominates, same_reached}
use Rattle.hprof_dominators.proofs.Walking.{dominate_each_other, dominates_itself, dominates_through, one_of_two}
use Rattle.hprof_retained.specs.Retained.{Dominates, HasParent, IsHeld}
use Rattle.hprof_retained.proofs.Deciding.{Decided}
use Rattle.hprof_retained.proofs.HeldOrNot.{held_or_not}
use Rattle.hprof_retained.proofs.SomeParent.{parent_exists}
use Rattle.hprof_suspects.specs.Groups.{Above, HasHead, IsBelow, IsHead, Itself, Joins}
use Rattle.hprof_suspects.proofs.AddedUp.{same_parent}
use Rattle.hprof_suspects.proofs.Decisions.{alike_decided, alone_decided}

pub below_head : (ids : IdSize) (facts : List FactValue) (part : Option ℕ) (node : ℕ) → IsBelow ids facts part node → IsHead ids facts node
below_head ids facts None node below = below.0
below_head ids facts (Some group) node below = below.0

module _ (ids : IdSize) (facts : List FactValue) where
  abbrev Start : ℕ → Type 0
  Start = IsStart facts

  abbrev Step : ℕ → ℕ → Type 0
  Step from to = IsStepBy (IsStrong facts) ids facts from to

  abbrev pub IsWalk : List ℕ → ℕ → Type 0
  IsWalk nodes node = listed.IsWalk Start Step nodes node

  -- ---- dominators

  pub itself : (node : ℕ) → IsHeld ids facts node → Dominates ids facts node node
  itself node held = (same_dominates Start Step node node).0 (dominates_itself Start Step node ((same_reached Start Step node).1 held))

  pub transitive : (x y z : ℕ) → Dominates ids facts x y → Dominates ids facts y z → Dominates ids facts x z
  transitive x y z one other = (same_dominates Start Step x z).0
      (dominates_through Start Step x y z ((same_dominates Start Step x y).1 one) ((same_dominates Start Step y z).1 other))

  pub each_other : (x y : ℕ) → Dominates ids facts x y → Dominates ids facts y x → x ≡ y
  each_other x y one other =
      dominate_each_other Start Step x y ((same_dominates Start Step x y).1 one) ((same_dominates Start Step y x).1 other)

  pub either : (x y node : ℕ) → Dominates ids facts x node → Dominates ids facts y node → Dominates ids facts x y ⊎ Dominates ids facts y x
  either x y node one other =
      let first = (same_dominates Start Step x node).1 one in
      let walk = first.reached in
      elim (one_of_two Start Step x y node walk.0 walk.1 first ((same_dominates Start Step y node).1 other)) [
        | inl before ↦ inl ((same_dominates Start Step x y).0 before)
        | inr after ↦ inr ((same_dominates Start Step y x).0 after)
      ]

  pub dominator_held : (x node : ℕ) → Dominates ids facts x node → IsHeld ids facts x
  dominator_held x node dominates = dominator_reached Start Step x node dominates

  -- ---- walks

  pub walk_of : (node : ℕ) → IsHeld ids facts node → (nodes : List ℕ) × IsWalk nodes node
  walk_of node held = (same_reached Start Step node).1 held

  cut : (x node : ℕ) (nodes : List ℕ) → IsWalk nodes node → IsOn x nodes
      → (rest : List ℕ) × IsWalk rest x × (length rest + 1 ≤ length nodes)
  cut x node [] walk on = absurd on
  cut x node (before ∷ nodes) walk on = elim on [
    | inl same ↦ (nodes, subst (IsWalk nodes) (sym same) walk.1, omega arith)
    | inr later ↦ let rest = cut x before nodes walk.1 later in let less = rest.2 in (rest.0, rest.1, omega arith)
  ]

  -- to another node that dominates a node there is a shorter walk
  pub shorter : (x node : ℕ) (nodes : List ℕ) → IsWalk nodes node → Dominates ids facts x node → x ≢ node
      → (rest : List ℕ) × IsWalk rest x × (length rest + 1 ≤ length nodes)
  shorter x node nodes walk dominates apart = elim (((same_dominates Start Step x node).1 dominates).each nodes walk) [
    | inl same ↦ absurd (apart same)
    | inr on ↦ cut x node nodes walk on
  ]

  -- ---- heads

  pub head_over : (node head : ℕ) → HasHead ids facts node head → Dominates ids facts head node
  head_over _ _ (Itself node own) = itself node own.held
  head_over _ _ (Above node parent head joins rest) = transitive head parent node (head_over parent head rest) joins.below.dominates

  -- a head that dominates a node dominates the head of its group
  pub over_head : (one node head : ℕ) → IsHead ids facts one → HasHead ids facts node head → Dominates ids facts one node
      → Dominates ids facts one head
  over_head one _ _ is (Itself node own) dominates = dominates
  over_head one _ _ is (Above node parent head joins rest) dominates = elim (cases_eq one node) [
    | inl same ↦ absurd (is.topmost parent (subst (λ (n : ℕ). Joins ids facts n parent) (sym same) joins))
    | inr apart ↦ over_head one parent head is rest (joins.below.nearest one dominates apart)
  ]

  -- ---- of facts that agree

  module _ (agree : IsConsistent facts) where
    joins_parent : (node parent : ℕ) → HasParent ids facts node (Some parent) → Decided (Joins ids facts node parent)
    joins_parent node parent below = elim (alike_decided facts agree node parent) [
      | inl alike ↦ elim (alone_decided facts agree node) [
        | inl alone ↦ inr (λ joins. joins.object alone)
        | inr object ↦ elim (alone_decided facts agree parent) [
          | inl alone ↦ inr (λ joins. joins.of_object alone)
          | inr of_object ↦ inl (record { below = below; alike = alike; object = object; of_object = of_object })
        ]
      ]
      | inr apart ↦ inr (λ joins. apart joins.alike)
    ]

    -- the node joins one above it, or it is a head
    pub joins_or_heads : (node : ℕ) → IsHeld ids facts node → ((parent : ℕ) × Joins ids facts node parent) ⊎ IsHead ids facts node
    joins_or_heads node held = go is.0 is.1 where
      is : (parent : Option ℕ) × HasParent ids facts node parent
      is = parent_exists ids facts agree node held

      go : (parent : Option ℕ) → HasParent ids facts node parent → ((parent : ℕ) × Joins ids facts node parent) ⊎ IsHead ids facts node
      go None top = inr (record {
        held = held;
        topmost = λ parent joins.
            let clash : None ≡ Some parent = same_parent ids facts node None (Some parent) top joins.below in absurd cc;
      })
      go (Some parent) below = elim (joins_parent node parent below) [
        | inl joins ↦ inl (parent, joins)
        | inr none ↦ inr (record {
          held = held;
          topmost = λ other joins.
              let both : Some other ≡ Some parent = same_parent ids facts node (Some other) (Some parent) joins.below below in
              let same : other ≡ parent = cc in
              none (subst (Joins ids facts node) same joins);
        })
      ]

    head_to : (most node : ℕ) (nodes : List ℕ) → IsWalk nodes node → length nodes ≤ most → IsHeld ids facts node
        → (head : ℕ) × HasHead ids facts node head
    head_to zero node nodes walk short held = elim (joins_or_heads node held) [
      | inr own ↦ (node, Itself node own)
      | inl above ↦
          let below = above.1.below in
          let rest = shorter above.0 node nodes walk below.dominates below.other in
          let less = rest.2 in absurd (omega arith)
    ]
    head_to (suc most) node nodes walk short held = elim (joins_or_heads node held) [
      | inr own ↦ (node, Itself node own)
      | inl above ↦
          let below = above.1.below in
          let rest = shorter above.0 node nodes walk below.dominates below.other in
          let less = rest.2 in
          let head = head_to most above.0 rest.0 rest.1 (omega arith) (dominator_held above.0 node below.dominates) in
          (head.0, Above node above.0 head.0 above.1 head.1)
    ]

    pub node_head : (node : ℕ) → IsHeld ids facts node → (head : ℕ) × HasHead ids facts node head
    node_head node held = let walk = walk_of node held in head_to (length walk.0) node walk.0 walk.1 (omega arith) held

    pub heads_decided : (node : ℕ) → Decided (IsHead ids facts node)
    heads_decided node = elim (held_or_not ids facts agree node) [
      | inr none ↦ inr (λ own. none own.held)
      | inl held ↦ elim (joins_or_heads node held) [
        | inl above ↦ inr (λ own. own.topmost above.0 above.1)
        | inr own ↦ inl own
      ]
    ]

    -- a head is right below a group, or right below the roots
    pub head_below : (node : ℕ) → IsHead ids facts node → (part : Option ℕ) × IsBelow ids facts part node
    head_below node own = go is.0 is.1 where
      is : (parent : Option ℕ) × HasParent ids facts node parent
      is = parent_exists ids facts agree node own.held

      go : (parent : Option ℕ) → HasParent ids facts node parent → (part : Option ℕ) × IsBelow ids facts part node
      go None top = (None, (own, top))
      go (Some parent) below =
          let head = node_head parent (dominator_held parent node below.dominates) in
          (Some head.0, (own, (parent, below, head.1)))
