-- The objects of the threads of roots, as they are appended to a list.
use Rattle.std.specs.Prelude.{◌↔◌, ◌⊎◌, Contains}
use Rattle.std.proofs.Common.{◌≡◌, ℕ, List, [], ◌∷◌, ◌++◌, length, map, Option, Some, inl, inr, sym, ap, subst, ◌∙◌, append_assoc, arith}
use Rattle.std.proofs.lemmas.List.Elements.{Contains-append_left, Contains-append_right, Contains-push}
use Rattle.hprof_values.specs.declared.root.Root.{Root}
use Rattle.hprof_items.specs.FactValue.{FactValue}
use Rattle.hprof_rows.specs.Conflict.{IsConsistent}
use Rattle.hprof_histogram.proofs.Members.{Contains-from_in, IsIn, in_from_Contains}
use Rattle.hprof_edges.specs.declared.edge.Edge.{Edge}
use Rattle.hprof_reach.specs.Roots.{AreRootsOf}
use Rattle.hprof_threads.specs.Serials.{thread_of_root}
use Rattle.hprof_threads.specs.Threads.{IsThreadObject}
use Rattle.hprof_threads.proofs.ThreadAnswers.{object_once}
use Rattle.hprof_holders.specs.WhoObjects.{HasRootObjects, HasThreadOf}
use Rattle.hprof_holders.proofs.PushedThreads.{given_in}

-- what is in a list is in the list behind which more was appended
pub still_in : (old more new : List ℕ) → new ≡ old ++ more → (node : ℕ) → Contains old node → Contains new node
still_in old more new grows node has =
    subst (λ (l : List ℕ). Contains l node) (sym grows) (Contains-append_left old more node has)

-- more was appended to what was appended
pub grown : (start first old more new : List ℕ) → old ≡ start ++ first → new ≡ old ++ more → (all : List ℕ) × (new ≡ start ++ all)
grown start first old more new was grows =
    (first ++ more, grows ∙ ap (λ (l : List ℕ). l ++ more) was ∙ append_assoc start first more)

-- an empty list has no members
pub no_member : {X : Type 0} (list : List X) (x : X) → length list ≡ 0 → IsIn x list → ⊥
no_member [] x none has = has
no_member (first ∷ rest) x none has = omega (arith, none)

module _ (facts : List FactValue) where
  thread_of_more : (list more : List ℕ) → ((node : ℕ) → Contains list node → Contains more node) → (root : Root)
      → HasThreadOf facts list root → HasThreadOf facts more root
  thread_of_more list more into root has = λ serial object thread is. into object (has serial object thread is)

  -- the first of the roots that are left is done
  pub one_done : (roots rest after : List Root) (root : Root) (old more new : List ℕ) → rest ≡ root ∷ after → new ≡ old ++ more
      → ((other : Root) → IsIn other roots → IsIn other rest ⊎ HasThreadOf facts old other) → HasThreadOf facts new root
      → (other : Root) → IsIn other roots → IsIn other after ⊎ HasThreadOf facts new other
  one_done roots rest after root old more new is grows was done = λ other has. elim (was other has) [
    | inl left ↦ elim (subst (IsIn other) is left) [
      | inl same ↦ inr (subst (HasThreadOf facts new) (sym same) done)
      | inr later ↦ inl later
    ]
    | inr had ↦ inr (thread_of_more old new (still_in old more new grows) other had)
  ]

  -- those of all roots of an identifier
  pub of_all_roots : (id : ℕ) (roots some : List Root) (nodes : List ℕ) → AreRootsOf facts id roots → some ≡ roots
      → ((root : Root) → Contains some root → HasThreadOf facts nodes root) → HasRootObjects facts nodes id
  of_all_roots id roots some nodes are same has = λ serial object of is.
      has of.root (subst (λ (l : List Root). Contains l of.root) (sym same) ((are.exact of.root).1 (of.has, of.of))) serial object
      of.thread is

-- an identifier, the objects that edges lead from, and more; and these sorted
module _ (start own froms all sorted more : List ℕ) (id : ℕ) (edges : List Edge) (one : own ≡ start ++ id ∷ [])
    (two : froms ≡ own ++ map (λ (edge : Edge). edge.from) edges) (three : all ≡ froms ++ more)
    (same : (node : ℕ) → Contains sorted node ↔ Contains all node) where
  pub own_there : Contains sorted id
  own_there = (same id).1 (still_in froms more all three id (still_in own (map (λ (edge : Edge). edge.from) edges) froms two id
      (subst (λ (l : List ℕ). Contains l id) (sym one) (Contains-push start id))))

  pub from_there : (edge : Edge) → Contains edges edge → Contains sorted edge.from
  from_there edge has =
      let from = λ (e : Edge). e.from in
      (same edge.from).1 (still_in froms more all three edge.from
      (subst (λ (l : List ℕ). Contains l edge.from) (sym two) (Contains-append_right own (map from edges) edge.from
      (Contains-from_in (map from edges) edge.from (given_in from edges edge (in_from_Contains edges edge has))))))

  pub threads_there : (facts : List FactValue) → HasRootObjects facts all id → HasRootObjects facts sorted id
  threads_there facts has = λ serial object of is. (same object).1 (has serial object of is)

-- the object of the root's thread was appended
pub own_pushed : (facts : List FactValue) → IsConsistent facts → (root : Root) (serial object : ℕ) (found : Option ℕ)
    → found ≡ thread_of_root root → found ≡ Some serial → IsThreadObject facts serial object → (old new : List ℕ)
    → new ≡ old ++ object ∷ [] → HasThreadOf facts new root
own_pushed facts agree root serial object found is here of old new pushed = λ other its thread own.
    let same : Some serial ≡ Some other = sym here ∙ is ∙ thread in
    let serial_is : serial ≡ other = cc in
    let object_is = object_once facts agree other object its (subst (λ (s : ℕ). IsThreadObject facts s object) serial_is of) own in
    subst (λ (l : List ℕ). Contains l its) (sym pushed) (subst (Contains (old ++ object ∷ [])) object_is (Contains-push old object))
