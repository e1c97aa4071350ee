-- The sum over what only weak references reach, of the objects that were picked.
use Rattle.std.specs.Prelude.{◌↔◌, Contains, sum}
use Rattle.std.proofs.Common.{◌≡◌, ◌==◌, ◌⊎◌, ◌∙◌, ℕ, Bool, true, List, [], ◌∷◌, ◌++◌, Option, Some, None, length, refl, sym, ap, subst}
use Rattle.std.proofs.Common.{inl, inr, arith, eq-eqb, eqb-true}
use Rattle.std.specs.List.{list_any}
use Rattle.std.specs.List.Sorted.{IsStrictlyIncreasing}
use Rattle.std.proofs.lemmas.Bool.{or_cases}
use Rattle.std.proofs.lemmas.List.Folds.{list_any_at}
use Rattle.hprof_values.specs.declared.ids.IdSize.{IdSize}
use Rattle.hprof_items.specs.FactValue.{FactValue}
use Rattle.hprof_rows.specs.Conflict.{IsConsistent}
use Rattle.hprof_rows.specs.declared.table.Table.TheVariants as tables
use Rattle.hprof_rows.specs.Tables.{number_of_table, stands_in}
use Rattle.hprof_rows.specs.Facts.{Has}
use Rattle.hprof_rows.proofs.Picking.{picked as has_passed, picked_is}
use Rattle.hprof_heap.specs.Classes.{fact_of_class}
use Rattle.hprof_heap.specs.Found.{IsObjectFound}
use Rattle.hprof_heap.specs.Objects.{HasNoObject, IsObject}
use Rattle.hprof_edges.specs.Edges.{AnyEdge}
use Rattle.hprof_naming.proofs.Lookups.{object_exists}
use Rattle.hprof_passes.specs.Passing.{IsWhole, objects_among}
use Rattle.hprof_passes.specs.Picked.{is_wanted, picked}
use Rattle.hprof_passes.proofs.PickedObjects.{is_object_of, is_wanted_at, wanted_of}
use Rattle.hprof_passes.proofs.Tables.{has_same}
use Rattle.hprof_search.proofs.Forth.{no_walk, some_walk}
use Rattle.hprof_dominators.specs.Retained.{IsOnce}
use Rattle.hprof_dominators.specs.Walks as listed
use Rattle.hprof_dominators.specs.Walks.{IsOn}
use Rattle.hprof_dominators.proofs.Listed.{same_reached}
use Rattle.hprof_reach.specs.Nodes.{IsClassNode}
use Rattle.hprof_reach.specs.Reaching.{IsDistanceFromRoots, IsNode, IsStart, IsStepBy}
use Rattle.hprof_reach.proofs.SomeReach.{some_distance}
use Rattle.hprof_retained.specs.Retained.{AreSizesOf, IsSumOver}
use Rattle.hprof_retained.specs.Weakly.{AreWeaklyHeld, IsWeaklyHeld}
use Rattle.hprof_retained.specs.declared.weakly.WeaklyHeld.{WeaklyHeld}
use Rattle.hprof_retained.proofs.Ascending.{on_is, once_ascending}
use Rattle.hprof_retained.proofs.Deciding.{Decided, both_decided, not_decided}
use Rattle.hprof_retained.proofs.HeldOrNot.{held_or_not}
use Rattle.hprof_retained.proofs.NodeLists.{nodes_exist}
use Rattle.hprof_retained.proofs.WeaklyPassed.{AreGathered, IsReachedByAny, same_object}

-- ---- one of several

on_from_any : (wanted : List ℕ) (id : ℕ) → list_any (λ other. other == id) wanted ≡ true → IsOn id wanted
on_from_any [] id among = absurd cc
on_from_any (first ∷ rest) id among = elim (or_cases (first == id) (list_any (λ other. other == id) rest) among) [
  | inl here ↦ inl (sym (eqb-true first id here))
  | inr later ↦ inr (on_from_any rest id later)
]

any_from_contains : (wanted : List ℕ) (id : ℕ) → Contains wanted id → list_any (λ other. other == id) wanted ≡ true
any_from_contains wanted id has =
    let test : ℕ → Bool = λ other. other == id in
    list_any_at test wanted has.0 id has.1 (ap test has.2 ∙ eq-eqb id id refl)

-- ---- two lists

on_either : (xs ys : List ℕ) (x : ℕ) → IsOn x (xs ++ ys) ↔ (IsOn x xs ⊎ IsOn x ys)
on_either [] ys x = (λ on. inr on, λ either. elim either [ inl none ↦ absurd none | inr on ↦ on ])
on_either (first ∷ xs) ys x = (
  λ on. elim on [
    | inl same ↦ inl (inl same)
    | inr later ↦ elim ((on_either xs ys x).0 later) [ inl one ↦ inl (inr one) | inr other ↦ inr other ]
  ],
  λ either. elim either [
    | inl one ↦ elim one [ inl same ↦ inl same | inr later ↦ inr ((on_either xs ys x).1 (inl later)) ]
    | inr other ↦ inr ((on_either xs ys x).1 (inr other))
  ],
)

both_once : (xs ys : List ℕ) → IsOnce xs → IsOnce ys → ((x : ℕ) → IsOn x xs → IsOn x ys → ⊥) → IsOnce (xs ++ ys)
both_once [] ys once too apart = too
both_once (first ∷ xs) ys once too apart = (
  λ on. elim ((on_either xs ys first).0 on) [ inl later ↦ once.0 later | inr other ↦ apart first (inl refl) other ],
  both_once xs ys once.1 too (λ x on other. apart x (inr on) other),
)

module _ (ids : IdSize) (facts : List FactValue) where
  -- nodes without an object dump have no bytes
  with_lone : (lone nodes sizes : List ℕ) → AreSizesOf ids facts nodes sizes → ((node : ℕ) → IsOn node lone → HasNoObject facts node)
      → (all : List ℕ) × AreSizesOf ids facts (lone ++ nodes) all × (sum all ≡ sum sizes)
  with_lone [] nodes sizes are none = (sizes, are, refl)
  with_lone (first ∷ lone) nodes sizes are none =
      let rest = with_lone lone nodes sizes are (λ node on. none node (inr on)) in
      (0 ∷ rest.0, ((None, none first (inl refl), refl), rest.1), omega (arith, rest.2))

  -- ---- what is reached

  -- is a node
  pub reached_node : (agree : IsConsistent facts) (node : ℕ) → IsReachedByAny ids facts agree node → IsNode facts node
  reached_node agree node reached = go walk.0 walk.1 where
    walk : listed.Reached (IsStart facts) (IsStepBy AnyEdge ids facts) node
    walk = (same_reached (IsStart facts) (IsStepBy AnyEdge ids facts) node).1 reached

    go : (nodes : List ℕ) → listed.IsWalk (IsStart facts) (IsStepBy AnyEdge ids facts) nodes node → IsNode facts node
    go [] start = start.0
    go (before ∷ nodes) step = step.0.1

  module _ (agree : IsConsistent facts) where
    -- a node is reached, or it is not
    pub reached_or_not : (node : ℕ) → Decided (IsReachedByAny ids facts agree node)
    reached_or_not node = go some.0 some.1 where
      some : (distance : Option ℕ) × IsDistanceFromRoots ids facts node distance
      some = some_distance ids facts agree node

      go : (distance : Option ℕ) → IsDistanceFromRoots ids facts node distance → Decided (IsReachedByAny ids facts agree node)
      go (Some count) is = inl (let walk = some_walk (IsStart facts) (IsStepBy AnyEdge ids facts) node count is in (walk.0, walk.1))
      go None none = inr (λ walk. no_walk (IsStart facts) (IsStepBy AnyEdge ids facts) node walk.0 none walk.1)

    no_object_or_one : (node : ℕ) → Decided (HasNoObject facts node)
    no_object_or_one node = go found.0 found.1 where
      found : (object : Option FactValue) × IsObjectFound facts node object
      found = object_exists facts node

      go : (object : Option FactValue) → IsObjectFound facts node object → Decided (HasNoObject facts node)
      go (Some fact) is = inr (λ none. none fact is.0 is.1)
      go None none = inl none

    -- a class without an object dump
    abbrev IsLone : ℕ → Type 0
    IsLone node = IsWeaklyHeld ids facts node × HasNoObject facts node

    lone_or_not : (node : ℕ) → Decided (IsLone node)
    lone_or_not node =
        both_decided (both_decided (reached_or_not node) (not_decided (held_or_not ids facts agree node))) (no_object_or_one node)

    -- ---- all

    module _ (all gathered : List ℕ) (bytes high : ℕ) (exact : (node : ℕ) → Contains all node ↔ IsWeaklyHeld ids facts node)
        (ascend : IsStrictlyIncreasing all) (are : AreGathered ids facts (picked all (objects_among facts)) gathered bytes high) where
      -- what was gathered are objects that are weakly held
      held_object : (node : ℕ) → Contains gathered node
          → ((object : FactValue) × Has facts object × IsObject node object) × IsWeaklyHeld ids facts node
      held_object node has =
          let object = (are.exact node).0 has in
          let chosen = picked_is (is_wanted all) (objects_among facts) object.0 object.1 in
          let of = wanted_of all object.0 chosen.passes in
          let same = same_object ids object.0 of.id of.key node object.2 in (
            (object.0, (picked_is (stands_in (number_of_table tables.Objects)) facts object.0 chosen.has).has, object.2),
            (exact node).0 (subst (Contains all) same ((on_is all of.id).0 (on_from_any all of.id of.among))),
          )

      object_there : (node : ℕ) → IsWeaklyHeld ids facts node → (HasNoObject facts node → ⊥) → Contains gathered node
      object_there node weakly some = go found.0 found.1 where
        found : (object : Option FactValue) × IsObjectFound facts node object
        found = object_exists facts node

        go : (object : Option FactValue) → IsObjectFound facts node object → Contains gathered node
        go (Some fact) is =
            let of = is_object_of node fact is.1 in
            let there = has_passed (stands_in (number_of_table tables.Objects)) facts fact (record { has = is.0; passes = of.stands }) in
            let wanted = is_wanted_at all fact node of.of (any_from_contains all node ((exact node).1 weakly)) in
            (are.exact node).1
            (fact, has_passed (is_wanted all) (objects_among facts) fact (record { has = there; passes = wanted }), is.1)
        go None none = absurd (some none)

      summed_all : IsSumOver ids facts (IsWeaklyHeld ids facts) (record { bytes = bytes; objects = length all })
      summed_all =
          let lone = nodes_exist ids facts agree IsLone lone_or_not (λ node is. (reached_node agree node is.0.0).1) in
          let sizes = with_lone lone.0 gathered are.summed.sizes are.summed.are (λ node on. ((lone.1.exact node).0 on).1) in (
            record {
              nodes = lone.0 ++ gathered;
              once = both_once lone.0 gathered lone.1.once (once_ascending gathered are.ascend) (λ node on other.
                  let object = (held_object node ((on_is gathered node).0 other)).0 in
                  ((lone.1.exact node).0 on).1 object.0 object.1 object.2);
              exact = λ node. (
                λ on. elim ((on_either lone.0 gathered node).0 on) [
                  | inl class ↦ ((lone.1.exact node).0 class).0
                  | inr object ↦ (held_object node ((on_is gathered node).0 object)).1
                ],
                λ weakly. (on_either lone.0 gathered node).1 (elim (no_object_or_one node) [
                  | inl none ↦ inl ((lone.1.exact node).1 (weakly, none))
                  | inr some ↦ inr ((on_is gathered node).1 (object_there node weakly some))
                ]),
              );
              sizes = sizes.0;
              are_sizes = sizes.1;
              is = are.summed.is ∙ sym sizes.2;
            },
            record {
              nodes = all;
              once = once_ascending all ascend;
              exact = λ node. (λ on. (exact node).0 ((on_is all node).0 on), λ weakly. (on_is all node).1 ((exact node).1 weakly));
              is = refl;
            },
          )

      pub weakly_found : (weakly : WeaklyHeld) → weakly.nodes.items ≡ all → weakly.bytes ≡ bytes → AreWeaklyHeld ids facts weakly
      weakly_found weakly nodes_are bytes_are = record {
        exact = subst (λ (l : List ℕ). (node : ℕ) → Contains l node ↔ IsWeaklyHeld ids facts node) (sym nodes_are) exact;
        sum = subst (λ (l : List ℕ). IsSumOver ids facts (IsWeaklyHeld ids facts) (record { bytes = weakly.bytes; objects = length l }))
            (sym nodes_are)
            (subst (λ (b : ℕ). IsSumOver ids facts (IsWeaklyHeld ids facts) (record { bytes = b; objects = length all })) (sym bytes_are)
            summed_all);
      }

-- the classes of a heap are those of the whole
pub same_classes : (ids : IdSize) (facts all : List FactValue) → IsWhole ids facts all → (node : ℕ)
    → IsClassNode facts node ↔ IsClassNode all node
same_classes ids facts all whole node = (
  λ is. (is.0, (is.1.0, (has_same ids facts all whole tables.Classes (λ e. cc) (fact_of_class is.1.0) refl).1 is.1.1, is.1.2)),
  λ is. (is.0, (is.1.0, (has_same ids facts all whole tables.Classes (λ e. cc) (fact_of_class is.1.0) refl).0 is.1.1, is.1.2)),
)
