-- The facts of the roots of two sets.
use Rattle.std.proofs.Common.{◌≡◌, Bool, true, false, ◌||◌, ◌⊎◌, List, [], ◌∷◌, ◌++◌, Result, Ok, Err, refl, sym, subst, ◌∙◌, inl, inr}
use Rattle.std.specs.Prelude.{IfOk}
use Rattle.std.specs.BTreeMap.{is_at}
use Rattle.std.specs.List.{AllByRecursion, list_any}
use Rattle.std.specs.List.Sorted.{IsStrictlySortedBy}
use Rattle.std.specs.Ordering.{is_eq}
use Rattle.std.specs.declared.cmp.Ordering.TheVariants.{Less}
use Rattle.std.proofs.lemmas.Bool.{or_cases, or_left, or_right}
use Rattle.std.proofs.lemmas.Map.Keys.{sorted_head, sorted_tail}
use Rattle.std.proofs.lemmas.Slice.Eq.{bytes_eq-Decides}
use Rattle.hprof_values.specs.declared.root.Root.{Root}
use Rattle.hprof_items.specs.FactValue.{FactValue, Rooted}
use Rattle.hprof_rows.specs.Facts.{Has}
use Rattle.hprof_rows.specs.HeapRows.{root_facts}
use Rattle.hprof_rows.specs.Order.{order_of, root_cmp, IsBefore, IsCanonicalOrder}
use Rattle.hprof_rows.specs.RootSet.{IsUnionOfRoots, LacksRoot}
use Rattle.hprof_rows.proofs.FactSets.{Has-parts, Has-front, Has-back}
use Rattle.hprof_rows.proofs.Roots.{root_place, root_same, same_root, has_root}
use Rattle.hprof_rows.proofs.UnionRows.{IsTableOfBoth}

-- the root is one of these
abbrev pub IsIn : List Root → Root → Bool
IsIn set root = list_any (is_at (root_cmp root)) set

-- each root is at its own place
at_itself : (root : Root) → is_eq (root_cmp root root) ≡ true
at_itself root = sym (root_same root root) ∙ (bytes_eq-Decides (order_of (Rooted root)) (order_of (Rooted root))).1 refl

-- ---- roots that are not there

-- each root that is among the others is in the set
abbrev pub AreAllIn : List Root → List Root → Type 0
AreAllIn set others = (root : Root) → IsIn others root ≡ true → IsIn set root ≡ true

-- one of the others is not in the set, or all are
lacks_or_all : (set others : List Root) → LacksRoot set others ⊎ AreAllIn set others
lacks_or_all set [] = inr (λ root is. absurd cc)
lacks_or_all set (first ∷ others) = elim (lacks_or_all set others) [
  | inl lacks ↦ inl (lacks.0, or_right (is_eq (root_cmp lacks.0 first)) (IsIn others lacks.0) lacks.1, lacks.2)
  | inr all ↦ by_first (IsIn set first) refl all
]
  where
    by_first : (is : Bool) → IsIn set first ≡ is → AreAllIn set others → LacksRoot set (first ∷ others) ⊎ AreAllIn set (first ∷ others)
    by_first false e all = inl (first, or_left (is_eq (root_cmp first first)) (IsIn others first) (at_itself first), e)
    by_first true e all = inr (λ root is. elim (or_cases (is_eq (root_cmp root first)) (IsIn others root) is) [
      | inl here ↦
          let fact : Rooted root ≡ Rooted first = same_root root first here in
          let same : root ≡ first = cc in
          subst (λ (r : Root). IsIn set r ≡ true) (sym same) e
      | inr there ↦ all root there
    ])

-- where not all are in the set one is not
pub lacks_root : (set others : List Root) → (AreAllIn set others → ⊥) → LacksRoot set others
lacks_root set others not_all = elim (lacks_or_all set others) [ inl lacks ↦ lacks | inr all ↦ absurd (not_all all) ]

-- the root that a fact states
record Roots (set : List Root) (fact : FactValue) : Type 0 where
  root : Root
  states : fact ≡ Rooted root
  is_in : IsIn set root ≡ true

rooted : (set : List Root) (fact : FactValue) → Has (root_facts set) fact → Roots set fact
rooted [] fact has = absurd has
rooted (first ∷ set) fact (inl e) =
    record { root = first; states = e; is_in = or_left (is_eq (root_cmp first first)) (IsIn set first) (at_itself first) }
rooted (first ∷ set) fact (inr has) =
    let rest = rooted set fact has in
    record { root = rest.root; states = rest.states; is_in = or_right (is_eq (root_cmp rest.root first)) (IsIn set rest.root) rest.is_in }

-- roots in order state facts in order
pub roots_ordered : (set : List Root) → IsStrictlySortedBy root_cmp set → IsCanonicalOrder (root_facts set)
roots_ordered [] up = tt
roots_ordered (first ∷ set) up = (before set (sorted_head root_cmp first set up), roots_ordered set (sorted_tail root_cmp first set up))
  where
    before : (those : List Root) → AllByRecursion (λ root. root_cmp first root ≡ Less) those
        → AllByRecursion (IsBefore (Rooted first)) (root_facts those)
    before [] less = tt
    before (root ∷ those) less = (sym (root_place first root) ∙ less.0, before those less.1)

module _ (old other new : List Root) (union : IsUnionOfRoots old other new) where
  -- a root of the new set is one of both
  from_both : (fact : FactValue) → Has (root_facts new) fact → Has (root_facts old ++ root_facts other) fact
  from_both fact has =
      let it = rooted new fact has in
      subst (Has (root_facts old ++ root_facts other)) (sym it.states)
      (elim (or_cases (IsIn old it.root) (IsIn other it.root) (sym (union.each it.root) ∙ it.is_in)) [
        | inl h ↦ Has-front (root_facts old) (root_facts other) (Rooted it.root) (has_root old it.root h)
        | inr h ↦ Has-back (root_facts old) (root_facts other) (Rooted it.root) (has_root other it.root h)
      ])

  to_new : (root : Root) → (IsIn old root || IsIn other root) ≡ true → Has (root_facts new) (Rooted root)
  to_new root is = has_root new root (union.each root ∙ is)

  -- and each of both is one of the new
  from_one : (fact : FactValue) → Has (root_facts old ++ root_facts other) fact → Has (root_facts new) fact
  from_one fact has = elim (Has-parts (root_facts old) (root_facts other) fact has) [
    | inl h ↦
        let it = rooted old fact h in
        subst (Has (root_facts new)) (sym it.states) (to_new it.root (or_left (IsIn old it.root) (IsIn other it.root) it.is_in))
    | inr h ↦
        let it = rooted other fact h in
        subst (Has (root_facts new)) (sym it.states) (to_new it.root (or_right (IsIn old it.root) (IsIn other it.root) it.is_in))
  ]

  union_roots : IsTableOfBoth (root_facts old) (root_facts other) (root_facts new)
  union_roots = record { same = λ fact. (from_both fact, from_one fact); ordered = roots_ordered new union.ordered }

-- the same where memory may have been refused
pub tried_roots : {A E : Type 0} (r : Result A E) (old other new : List Root) → IfOk r (λ _. IsUnionOfRoots old other new)
    → IfOk r (λ _. IsTableOfBoth (root_facts old) (root_facts other) (root_facts new))
tried_roots (Ok done) old other new ok = union_roots old other new ok
tried_roots (Err e) old other new ok = tt
