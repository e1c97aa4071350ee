-- The roots of an object, gone over from the front.
use Rattle.std.specs.Prelude.{map}
use Rattle.std.proofs.Common.{◌≡◌, ◌⊎◌, ◌==◌, ℕ, Bool, true, false, cond, List, [], ◌∷◌, ◌++◌, Option, Some, None, refl, sym, ap, subst}
use Rattle.std.proofs.Common.{◌∙◌, inl, inr, append_assoc, append-nil}
use Rattle.std.specs.List.{AllByRecursion}
use Rattle.std.proofs.lemmas.Bool.{both_ways, eq-eqb, eqb-true}
use Rattle.hprof_values.specs.declared.root.Root.{Root}
use Rattle.hprof_items.specs.FactValue.{FactValue, Rooted}
use Rattle.hprof_rows.specs.declared.table.Table.TheVariants as tables
use Rattle.hprof_rows.specs.Facts.{Has}
use Rattle.hprof_rows.specs.Order.{IsBefore, IsCanonicalOrder}
use Rattle.hprof_rows.specs.Tables.{facts_of_table, number_of_table, stands_in}
use Rattle.hprof_rows.proofs.Order.{one_order}
use Rattle.hprof_rows.proofs.Picking.{picked, picked_is}
use Rattle.hprof_edges.proofs.SortedEdges.{IsIn, Contains-from_in, in_from_Contains}
use Rattle.hprof_reach.specs.Reaching.{root_id}
use Rattle.hprof_reach.specs.Roots.{AreRootsOf, root_in, roots_here}

-- the roots of the object among facts, in their order
abbrev pub pick : ℕ → List FactValue → List Root
pick id [] = []
pick id (fact ∷ facts) = roots_here id (root_in fact) ++ pick id facts

-- a fact that is a root
is_root : (fact : FactValue) (root : Root) → root_in fact ≡ Some root → fact ≡ Rooted root
is_root (Rooted own) root e = cc
is_root _ root e = absurd cc

-- ---- members

in_either : (xs ys : List Root) (root : Root) → IsIn root (xs ++ ys) → IsIn root xs ⊎ IsIn root ys
in_either [] ys root has = inr has
in_either (x ∷ xs) ys root has = elim has [
  | inl is ↦ inl (inl is)
  | inr later ↦ elim (in_either xs ys root later) [ inl left ↦ inl (inr left) | inr right ↦ inr right ]
]

in_back : (xs ys : List Root) (root : Root) → IsIn root ys → IsIn root (xs ++ ys)
in_back [] ys root has = has
in_back (x ∷ xs) ys root has = inr (in_back xs ys root has)

in_front : (xs ys : List Root) (root : Root) → IsIn root xs → IsIn root (xs ++ ys)
in_front [] ys root has = absurd has
in_front (x ∷ xs) ys root has = elim has [ inl is ↦ inl is | inr later ↦ inr (in_front xs ys root later) ]

module _ (id : ℕ) where
  -- what is picked of a fact is that root, and keeps the object alive
  here_is : (found : Option Root) (root : Root) → IsIn root (roots_here id found) → (found ≡ Some root) × (root_id root ≡ id)
  here_is None root has = absurd has
  here_is (Some own) root has = by_test (root_id own == id) refl has where
    by_test : (b : Bool) → (root_id own == id) ≡ b → IsIn root (cond b (own ∷ []) []) → (Some own ≡ Some root) × (root_id root ≡ id)
    by_test true e has = elim has [
      | inl is ↦ (ap Some (sym is), ap root_id is ∙ eqb-true (root_id own) id e)
      | inr none ↦ absurd none
    ]
    by_test false e has = absurd has

  there_is : (root : Root) → root_id root ≡ id → IsIn root (roots_here id (Some root))
  there_is root is = by_test (root_id root == id) refl where
    by_test : (b : Bool) → (root_id root == id) ≡ b → IsIn root (cond b (root ∷ []) [])
    by_test true e = inl refl
    by_test false e = absurd (both_ways (root_id root == id) e (eq-eqb (root_id root) id is))

  only_roots : (facts : List FactValue) (root : Root) → IsIn root (pick id facts) → Has facts (Rooted root) × (root_id root ≡ id)
  only_roots [] root has = absurd has
  only_roots (fact ∷ facts) root has = elim (in_either (roots_here id (root_in fact)) (pick id facts) root has) [
    | inl here ↦ let is = here_is (root_in fact) root here in (inl (sym (is_root fact root is.0)), is.1)
    | inr later ↦ let is = only_roots facts root later in (inr is.0, is.1)
  ]

  all_roots : (facts : List FactValue) (root : Root) → Has facts (Rooted root) → root_id root ≡ id → IsIn root (pick id facts)
  all_roots [] root has is = absurd has
  all_roots (fact ∷ facts) root has is = elim has [
    | inl same ↦ in_front (roots_here id (root_in fact)) (pick id facts) root
        (subst (λ (f : FactValue). IsIn root (roots_here id (root_in f))) same (there_is root is))
    | inr later ↦ in_back (roots_here id (root_in fact)) (pick id facts) root (all_roots facts root later is)
  ]

  -- ---- order

  -- what holds of all facts holds of the roots among them
  all_picked : (P : FactValue → Type 0) (facts : List FactValue) → AllByRecursion P facts → AllByRecursion P (map Rooted (pick id facts))
  all_picked P [] all = tt
  all_picked P (fact ∷ facts) all = by_root (all_picked P facts all.1) (root_in fact) refl where
    by_root : AllByRecursion P (map Rooted (pick id facts)) → (found : Option Root) → root_in fact ≡ found
        → AllByRecursion P (map Rooted (roots_here id found ++ pick id facts))
    by_root rest None e = rest
    by_root rest (Some root) e = by_test (root_id root == id) where
      by_test : (b : Bool) → AllByRecursion P (map Rooted (cond b (root ∷ []) [] ++ pick id facts))
      by_test true = (subst P (is_root fact root e) all.0, rest)
      by_test false = rest

  picked_in_order : (facts : List FactValue) → IsCanonicalOrder facts → IsCanonicalOrder (map Rooted (pick id facts))
  picked_in_order [] ordered = tt
  picked_in_order (fact ∷ facts) ordered = by_root (picked_in_order facts ordered.1) (root_in fact) refl where
    by_root : IsCanonicalOrder (map Rooted (pick id facts)) → (found : Option Root) → root_in fact ≡ found
        → IsCanonicalOrder (map Rooted (roots_here id found ++ pick id facts))
    by_root rest None e = rest
    by_root rest (Some root) e = by_test (root_id root == id) where
      by_test : (b : Bool) → IsCanonicalOrder (map Rooted (cond b (root ∷ []) [] ++ pick id facts))
      by_test true = (
        subst (λ (f : FactValue). AllByRecursion (IsBefore f) (map Rooted (pick id facts))) (is_root fact root e)
            (all_picked (IsBefore fact) facts ordered.0),
        rest,
      )
      by_test false = rest

  -- ---- the whole

  pub picked_roots : (facts : List FactValue) → IsCanonicalOrder facts → AreRootsOf facts id (pick id facts)
  picked_roots facts ordered = record {
    ordered = picked_in_order facts ordered;
    exact = λ root. (
      λ there. only_roots facts root (in_from_Contains (pick id facts) root there),
      λ is. Contains-from_in (pick id facts) root (all_roots facts root is.0 is.1),
    );
  }

  -- those of the table of roots are those of all facts
  roots_of_table : (facts : List FactValue) (roots : List Root) → AreRootsOf (facts_of_table tables.Roots facts) id roots
      → AreRootsOf facts id roots
  roots_of_table facts roots are = record {
    ordered = are.ordered;
    exact = λ root. (
      λ there. (
          let is = (are.exact root).0 there in
          ((picked_is (stands_in (number_of_table tables.Roots)) facts (Rooted root) is.0).has, is.1)
          ),
      λ is. (are.exact root).1
          (picked (stands_in (number_of_table tables.Roots)) facts (Rooted root) (record { has = is.0; passes = refl }), is.1),
    );
  }

  -- what was picked, and then what is left, is what all have
  abbrev pub IsPickedTo : List FactValue → List Root → List FactValue → Type 0
  IsPickedTo all roots left = roots ++ pick id left ≡ pick id all

  pub picked_more : (all left rest : List FactValue) (roots after : List Root) (fact : FactValue) → left ≡ fact ∷ rest
      → after ≡ roots ++ roots_here id (root_in fact) → IsPickedTo all roots left → IsPickedTo all after rest
  picked_more all left rest roots after fact e more before =
      ap (λ (l : List Root). l ++ pick id rest) more ∙ append_assoc roots (roots_here id (root_in fact)) (pick id rest)
      ∙ ap (λ (l : List FactValue). roots ++ pick id l) (sym e) ∙ before

  pub picked_all : (facts left : List FactValue) (roots : List Root) → IsCanonicalOrder (facts_of_table tables.Roots facts) → left ≡ []
      → IsPickedTo (facts_of_table tables.Roots facts) roots left → AreRootsOf facts id roots
  picked_all facts left roots ordered none before =
      let same : roots ≡ pick id (facts_of_table tables.Roots facts) =
      sym (append-nil roots) ∙ ap (λ (l : List FactValue). roots ++ pick id l) (sym none) ∙ before in
      roots_of_table facts roots (subst (AreRootsOf (facts_of_table tables.Roots facts) id) (sym same)
      (picked_roots (facts_of_table tables.Roots facts) ordered))

-- ---- laws

in_map : (roots : List Root) (root : Root) → IsIn root roots → Has (map Rooted roots) (Rooted root)
in_map [] root has = absurd has
in_map (own ∷ roots) root has = elim has [ inl is ↦ inl (ap Rooted is) | inr later ↦ inr (in_map roots root later) ]

record OfRoot (roots : List Root) (fact : FactValue) : Type 0 where
  root : Root
  has : IsIn root roots
  is : fact ≡ Rooted root

from_map : (roots : List Root) (fact : FactValue) → Has (map Rooted roots) fact → OfRoot roots fact
from_map [] fact has = absurd has
from_map (own ∷ roots) fact has = elim has [
  | inl is ↦ record { root = own; has = inl refl; is = is }
  | inr later ↦ let found = from_map roots fact later in record { root = found.root; has = inr found.has; is = found.is }
]

-- each root of the one list is a root of the other
of_other : (facts : List FactValue) (id : ℕ) (one other : List Root) → AreRootsOf facts id one → AreRootsOf facts id other
    → (fact : FactValue)
    → Has (map Rooted one) fact → Has (map Rooted other) fact
of_other facts id one other are too fact has =
    let found = from_map one fact has in
    let there = (too.exact found.root).1 ((are.exact found.root).0 (Contains-from_in one found.root found.has)) in
    subst (Has (map Rooted other)) (sym found.is) (in_map other found.root (in_from_Contains other found.root there))

same_roots : (one other : List Root) → map Rooted one ≡ map Rooted other → one ≡ other
same_roots [] [] e = refl
same_roots [] (y ∷ ys) e = absurd cc
same_roots (x ∷ xs) [] e = absurd cc
same_roots (x ∷ xs) (y ∷ ys) e =
    let rest : xs ≡ ys = same_roots xs ys cc in
    let first : x ≡ y = cc in
    λ i. first i ∷ rest i

pub one_list : (facts : List FactValue) (id : ℕ) (one other : List Root) → AreRootsOf facts id one → AreRootsOf facts id other → one ≡ other
one_list facts id one other are too =
    same_roots one other (one_order (map Rooted one) (map Rooted other) are.ordered too.ordered
    (λ fact. (of_other facts id one other are too fact, of_other facts id other one too are fact)))
