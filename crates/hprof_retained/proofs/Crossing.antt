-- A node is weakly held exactly if a search from the border reaches it outside.
use Rattle.std.specs.Prelude.{◌↔◌, Contains, IsTrue}
use Rattle.std.proofs.Common.{◌≡◌, ◌⊎◌, ◌<◌, ℕ, zero, suc, Bool, List, [], ◌∷◌, Some, refl, inl, inr, arith, eqb-true, nat_eq}
use Rattle.std.proofs.lemmas.Bool.{cases_Bool, cases_order}
use Rattle.std.proofs.lemmas.Cmp.{nat_eq_equiv}
use Rattle.std.proofs.lemmas.Map.Views.{Contains-from_any, list_any-from_Contains}
use Rattle.std.specs.List.{list_any}
use Rattle.hprof_values.specs.declared.ids.IdSize.{IdSize}
use Rattle.hprof_items.specs.FactValue.{FactValue, Instance}
use Rattle.hprof_rows.specs.Conflict.{IsConsistent}
use Rattle.hprof_edges.specs.Edges.{AnyEdge, IsEdge}
use Rattle.hprof_edges.specs.LeftOut.{IsLeftOut}
use Rattle.hprof_edges.specs.declared.edge.Edge.{Edge}
use Rattle.hprof_edges.specs.declared.field_place.FieldPlace.{FieldPlace}
use Rattle.hprof_edges.proofs.LeftOutEdges.{all_kept}
use Rattle.hprof_search.specs.Walks.{HasDistance, IsDistance, Reaches}
use Rattle.hprof_dominators.specs.Walks as listed
use Rattle.hprof_dominators.proofs.Listed.{same_reached}
use Rattle.hprof_reach.specs.Reaching.{IsNode, IsStart, IsStepBy, LeadsBy}
use Rattle.hprof_weak.specs.Weak.{IsStrong, IsWeak}
use Rattle.hprof_retained.specs.Border.{AreAround, Crossing, IsCrossedTo, crossing_of, starts_of, steps_of}
use Rattle.hprof_retained.specs.Retained.{IsHeld}
use Rattle.hprof_retained.specs.Tree.{IsTreeOf, place_of}
use Rattle.hprof_retained.specs.Weakly.{IsWeaklyHeld}
use Rattle.hprof_retained.specs.declared.retained.Retained.{Retained}
use Rattle.hprof_retained.proofs.BorderLists.{class_there}
use Rattle.hprof_retained.proofs.HeldOrNot.{held_or_not, steps_along}

-- ---- what is reached has a distance, if it is known whether it has one

module _ (Starts : ℕ → Type 0) (Steps : ℕ → ℕ → Type 0) (node : ℕ) where
  -- where there is no distance, nothing leads there
  none_reaches : ((count : ℕ) → IsDistance Starts Steps node count → ⊥) → (most count : ℕ) → count < most
      → Reaches Starts Steps count node → ⊥
  none_reaches none zero count low reaches = absurd (omega arith)
  none_reaches none (suc most) count low reaches = none count (record {
    reaches = reaches;
    least = λ other too. elim (cases_order other count) [
      | inl same ↦ omega arith
      | inr apart ↦ elim apart [
        | inl less ↦ absurd (none_reaches none most other (omega arith) too)
        | inr greater ↦ omega arith
      ]
    ];
  })

  pub reached_if_distance : (test : Bool) → (IsTrue test ↔ ((steps : ℕ) × HasDistance Starts Steps node (Some steps)))
      → IsTrue test ↔ ((count : ℕ) × Reaches Starts Steps count node)
  reached_if_distance test is = (
    λ passes. (let has = is.0 passes in (has.0, has.1.reaches)),
    λ reached. elim (cases_Bool test) [
      | inl passes ↦ passes
      | inr fails ↦ absurd (none_reaches (λ count distance. let passes = is.1 (count, distance) in cc) (suc reached.0) reached.0
          (omega arith) reached.1)
    ],
  )

-- ---- it is a member or not

is_there_or_not : (xs : List ℕ) (x : ℕ) → Contains xs x ⊎ (Contains xs x → ⊥)
is_there_or_not xs x = elim (cases_Bool (list_any (nat_eq x) xs)) [
  | inl passes ↦ inl (Contains-from_any {eq = nat_eq} eqb-true x xs passes)
  | inr fails ↦ inr (λ has. let passes = list_any-from_Contains nat_eq_equiv x xs has in cc)
]

module _ (ids : IdSize) (facts : List FactValue) (agree : IsConsistent facts) (fields : List FieldPlace) (retained : Retained)
    (weak : (edge : Edge) → IsEdge ids facts edge → IsLeftOut fields facts edge ↔ IsWeak facts edge) (tree : IsTreeOf ids facts retained)
    (others sources all : List ℕ) (around : AreAround facts fields retained others sources)
    (joined : (node : ℕ) → Contains all node ↔ (Contains others node ⊎ Contains sources node))
    (kept : List FieldPlace) (none : kept ≡ []) where
  abbrev crossing : Crossing
  crossing = crossing_of ids facts kept all sources

  abbrev Start : ℕ → Type 0
  Start = IsStart facts

  abbrev Any : ℕ → ℕ → Type 0
  Any = IsStepBy AnyEdge ids facts

  abbrev Strong : ℕ → ℕ → Type 0
  Strong = IsStepBy (IsStrong facts) ids facts

  -- what is reached is a node
  walk_node : (nodes : List ℕ) (node : ℕ) → listed.IsWalk Start Any nodes node → IsNode facts node
  walk_node [] node start = start.0
  walk_node (before ∷ nodes) node walk = walk.0.1

  any_step : (from to : ℕ) → Strong from to → Any from to
  any_step from to step =
      (record { via = step.0.via; position = step.0.position; edge = step.0.edge; holds = tt }, step.1)

  -- what is held is reached by edges of any kind
  held_reached : (node : ℕ) → IsHeld ids facts node → listed.Reached Start Any node
  held_reached node held =
      let walk = (same_reached Start Strong node).1 held in
      (walk.0, steps_along Start Any Strong 0 any_step node walk.0 walk.1)

  has_place : (node : ℕ) → IsHeld ids facts node → place_of retained node ≡ 0 → ⊥
  has_place node held at = let some = (tree.found node held).0 in omega arith

  source_held : (node : ℕ) → Contains sources node → IsHeld ids facts node
  source_held node has = elim (held_or_not ids facts agree node) [
    | inl held ↦ held
    | inr not ↦ absurd (((around.sources node).0 has).2.1 (tree.others node not))
  ]

  -- ---- what is crossed to is reached

  all_nodes : (node : ℕ) → Contains all node → IsNode facts node
  all_nodes node has = elim ((joined node).0 has) [
    | inl other ↦ ((around.others node).0 other).0
    | inr source ↦ let walk = held_reached node (source_held node source) in walk_node walk.0 node walk.1
  ]

  forth : (count node : ℕ) → Reaches (starts_of crossing) (steps_of crossing) count node → listed.Reached Start Any node
  forth zero node reaches = held_reached node (source_held node reaches.1)
  forth (suc count) node reaches =
      let before = reaches.0 in
      let walk = forth count before reaches.1 in
      let leads = reaches.2.0 in (
        before ∷ walk.0,
        (
          (record { via = leads.via; position = leads.position; edge = leads.edge; holds = tt }, all_nodes node reaches.2.1),
          walk.1,
        ),
      )

  -- ---- what is reached is held or crossed to

  leads_on : (from to : ℕ) → LeadsBy AnyEdge ids facts from to → Contains all to → steps_of crossing from to
  leads_on from to leads there = (
    record {
      via = leads.via;
      position = leads.position;
      edge = leads.edge;
      holds = all_kept kept facts (record { from = from; via = leads.via; position = leads.position; to = to }) none;
    },
    there,
  )

  -- from a node inside that is no source every edge is strong
  source_leads : (before node : ℕ) → IsHeld ids facts before → ¬ (IsHeld ids facts node) → Any before node → Contains sources before
  source_leads before node held not step = elim (is_there_or_not sources before) [
    | inl source ↦ source
    | inr apart ↦
        let walk = (same_reached Start Strong before).1 held in
        let strong : Strong before node = (
          record {
            via = step.0.via;
            position = step.0.position;
            edge = step.0.edge;
            holds = λ is_weak.
                let left = (weak _ step.0.edge).1 is_weak in
                apart ((around.sources before).1 (
                  Instance before left.instance.trace left.class left.bytes,
                  left.instance.has,
                  ((refl, class_there fields _ left.there), has_place before held),
                ));
          },
          step.1,
        ) in
        absurd (not ((same_reached Start Strong node).0 (before ∷ walk.0, (strong, walk.1))))
  ]

  back : (nodes : List ℕ) (node : ℕ) → listed.IsWalk Start Any nodes node → IsHeld ids facts node ⊎ IsCrossedTo crossing node
  back [] node start = inl ((same_reached Start Strong node).0 ([], start))
  back (before ∷ nodes) node walk = elim (held_or_not ids facts agree node) [
    | inl held ↦ inl held
    | inr not ↦
        let there : Contains all node = (joined node).1 (inl ((around.others node).1 (walk.0.1, tree.others node not))) in
        let step = leads_on before node walk.0.0 there in
        inr (elim (back nodes before walk.1) [
          | inl held ↦
              let source = source_leads before node held not walk.0 in
              (1, (before, ((joined before).1 (inr source), source), step))
          | inr crossed ↦ (suc crossed.0, (before, crossed.1, step))
        ])
  ]

  pub weakly_is : (node : ℕ) → (Contains others node × IsCrossedTo crossing node) ↔ IsWeaklyHeld ids facts node
  weakly_is node = (
    λ both. (
      (same_reached Start Any node).0 (forth both.1.0 node both.1.1),
      λ held. has_place node held ((around.others node).0 both.0).1,
    ),
    λ weakly.
        let walk = (same_reached Start Any node).1 weakly.0 in
        elim (back walk.0 node walk.1) [
          | inl held ↦ absurd (weakly.1 held)
          | inr crossed ↦ ((around.others node).1 (walk_node walk.0 node walk.1, tree.others node weakly.1), crossed)
        ],
  )
