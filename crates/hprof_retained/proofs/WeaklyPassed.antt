-- Objects that only weak references reach, as they are picked.
use Rattle.std.specs.Prelude.{◌↔◌, Contains, IsTrue, OnOk}
use Rattle.std.specs.List.{filter}
use Rattle.std.proofs.Common.{◌≡◌, ◌⊎◌, ◌<◌, ◌≤◌, ◌+◌, ◌∙◌, ℕ, Bool, true, false, cond, List, [], ◌∷◌, ◌++◌, Option, Some, None}
use Rattle.std.proofs.Common.{Result, Ok, Err, refl, sym, ap, subst, inl, inr, arith, append_assoc, append-nil}
use Rattle.std.specs.List.Sorted.{IsStrictlyIncreasing}
use Rattle.std.proofs.lemmas.List.Elements.{Contains-append_left, Contains-push, Contains-push_cases}
use Rattle.hprof_values.specs.declared.ids.IdSize.{IdSize}
use Rattle.hprof_items.specs.FactValue.{FactValue}
use Rattle.hprof_rows.specs.Conflict.{IsConsistent}
use Rattle.hprof_rows.specs.Facts.{Has}
use Rattle.hprof_rows.specs.declared.key.Key.TheVariants as keys
use Rattle.hprof_rows.proofs.FactSets.{Has-back, Has-front, Has-parts}
use Rattle.hprof_heap.specs.Objects.{IsObject}
use Rattle.hprof_edges.specs.Edges.{AnyEdge}
use Rattle.hprof_search.proofs.Forth.{no_walk, some_walk}
use Rattle.hprof_dominators.specs.Dominating.{IsReached}
use Rattle.hprof_passes.specs.Passing.{TakesObjects}
use Rattle.hprof_reach.specs.Reaching.{IsDistanceFromRoots, IsStart, IsStepBy}
use Rattle.hprof_reach.proofs.SeenObjects.{IsAscending}
use Rattle.hprof_reach.proofs.SomeReach.{some_distance}
use Rattle.hprof_histogram.specs.Histogram.{size_of_object}
use Rattle.hprof_retained.specs.WeaklyTaken.{PutsBehind, TakesWeakly}
use Rattle.hprof_retained.specs.declared.weakly_sink.WeaklySink.{WeaklySink}
use Rattle.hprof_retained.proofs.Ascending.{AreSummed, push_ascends, summed_more}

-- ---- a search by all references

module _ (ids : IdSize) (facts : List FactValue) (agree : IsConsistent facts) where
  abbrev pub IsReachedByAny : ℕ → Type 0
  IsReachedByAny node = IsReached (IsStart facts) (IsStepBy AnyEdge ids facts) node

  -- the search tells whether it is reached
  pub reached_told : (node : ℕ) (told : Bool)
      → (IsTrue told ↔ ((references : ℕ) × IsDistanceFromRoots ids facts node (Some references))) → IsTrue told ↔ IsReachedByAny node
  reached_told node told is = (
    λ yes. (let distance = is.0 yes in
        let walk = some_walk (IsStart facts) (IsStepBy AnyEdge ids facts) node distance.0 distance.1 in (walk.0, walk.1)),
    λ reached. (let some = some_distance ids facts agree node in back reached some.0 some.1),
  ) where
    back : IsReachedByAny node → (distance : Option ℕ) → IsDistanceFromRoots ids facts node distance → IsTrue told
    back reached (Some distance) has = is.1 (distance, has)
    back reached None none = absurd (no_walk (IsStart facts) (IsStepBy AnyEdge ids facts) node reached.0 none reached.1)

-- ---- the objects, one by one

module _ (ids : IdSize) (object : FactValue) (id : ℕ) (is : IsObject id object) where
  pub same_object : (node : ℕ) → IsObject node object → id ≡ node
  same_object node of = let same : Some (keys.Object id) ≡ Some (keys.Object node) = sym is ∙ of in cc

  pub put_weakly : {A E : Type 0} (old new : WeaklySink) (size : ℕ) → size ≡ size_of_object ids object → (r : Result A E)
      → OnOk r (new.nodes.items ≡ old.nodes.items ++ id ∷ []) → OnOk r (new.bytes ≡ old.bytes + size)
      → OnOk r (TakesWeakly ids object old new)
  put_weakly old new size size_is (Ok done) nodes bytes = λ node of. record {
    nodes = nodes ∙ ap (λ (n : ℕ). old.nodes.items ++ n ∷ []) (same_object node of);
    bytes = bytes ∙ ap (λ (n : ℕ). old.bytes + n) size_is;
  }
  put_weakly old new size size_is (Err fault) nodes bytes = tt

module _ (ids : IdSize) (facts : List FactValue) where
  -- the objects so far, and their bytes
  pub record AreGathered (came : List FactValue) (nodes : List ℕ) (bytes low : ℕ) : Type 0 where
    pub exact : (node : ℕ) → Contains nodes node ↔ ((object : FactValue) × Has came object × IsObject node object)
    pub summed : AreSummed ids facts nodes bytes
    pub ascend : IsStrictlyIncreasing nodes
    pub below : (node : ℕ) → Contains nodes node → node < low

  pub none_gathered : (nodes : List ℕ) (bytes : ℕ) → nodes ≡ [] → bytes ≡ 0 → AreGathered [] nodes bytes 0
  none_gathered nodes bytes none zero = subst (λ (l : List ℕ). AreGathered [] l bytes 0) (sym none) (record {
    exact = λ node. (λ has. absurd (let low = has.1 in omega arith), λ some. absurd some.1);
    summed = record { sizes = []; are = refl; is = zero };
    ascend = λ k low. absurd (omega arith);
    below = λ node has. absurd (let low = has.1 in omega arith);
  })

  module _ (came : List FactValue) (object : FactValue) (old new : WeaklySink) (low id : ℕ) (there : Has facts object)
      (is : IsObject id object) (above : low ≤ id) (was : AreGathered came old.nodes.items old.bytes low)
      (puts : PutsBehind ids object id old new) where
    came_or_now : (node : ℕ) → ((one : FactValue) × Has (came ++ object ∷ []) one × IsObject node one)
        → ((one : FactValue) × Has came one × IsObject node one) ⊎ (id ≡ node)
    came_or_now node some = elim (Has-parts came (object ∷ []) some.0 some.1) [
      | inl before ↦ inl (some.0, before, some.2)
      | inr last ↦ elim last [
        | inl same ↦ inr (same_object ids object id is node (subst (IsObject node) same some.2))
        | inr none ↦ absurd none
      ]
    ]

    old_or_own : (node : ℕ) → Contains new.nodes.items node → Contains old.nodes.items node ⊎ (id ≡ node)
    old_or_own node has = Contains-push_cases old.nodes.items id node (subst (λ (l : List ℕ). Contains l node) puts.nodes has)

    one_gathered : AreGathered (came ++ object ∷ []) new.nodes.items new.bytes (id + 1)
    one_gathered = record {
      exact = λ node. (
        λ has. elim (old_or_own node has) [
          | inl before ↦
              let some = (was.exact node).0 before in (some.0, Has-front came (object ∷ []) some.0 some.1, some.2)
          | inr own ↦ (object, Has-back came (object ∷ []) object (inl refl), subst (λ (n : ℕ). IsObject n object) own is)
        ],
        λ some. subst (λ (l : List ℕ). Contains l node) (sym puts.nodes) (elim (came_or_now node some) [
          | inl before ↦ Contains-append_left old.nodes.items (id ∷ []) node ((was.exact node).1 before)
          | inr own ↦ subst (Contains (old.nodes.items ++ id ∷ [])) own (Contains-push old.nodes.items id)
        ]),
      );
      summed = subst (AreSummed ids facts new.nodes.items) (sym puts.bytes)
          (summed_more ids facts old.nodes.items new.nodes.items id old.bytes (size_of_object ids object) puts.nodes was.summed
          (Some object, (there, is), refl));
      ascend = subst IsStrictlyIncreasing (sym puts.nodes) (push_ascends old.nodes.items id was.ascend
          (λ x has. let less = was.below x has in omega arith));
      below = λ node has. elim (old_or_own node has) [
        | inl before ↦ (let less = was.below node before in omega arith)
        | inr own ↦ omega arith
      ];
    }

  pub all_gathered : (came objects : List FactValue) (low : ℕ) (old new : WeaklySink)
      → TakesObjects (λ one size object other. TakesWeakly size object one other) ids old objects new → IsAscending low objects
      → ((object : FactValue) → Has objects object → Has facts object) → AreGathered came old.nodes.items old.bytes low
      → (high : ℕ) × AreGathered (came ++ objects) new.nodes.items new.bytes high
  all_gathered came [] low old new same up there was = (
    low,
    subst (λ (s : WeaklySink). AreGathered (came ++ []) s.nodes.items s.bytes low) same
        (subst (λ (l : List FactValue). AreGathered l old.nodes.items old.bytes low) (sym (append-nil came)) was),
  )
  all_gathered came (object ∷ objects) low old new took up there was =
      let mid = took.0 in
      let now = one_gathered came object old mid low up.0 (there object (inl refl)) up.1 up.2 was (took.1 up.0 up.1) in
      let all = all_gathered (came ++ object ∷ []) objects (up.0 + 1) mid new took.2 up.3 (λ other has. there other (inr has)) now in
      (all.0, subst (λ (l : List FactValue). AreGathered l new.nodes.items new.bytes all.0) (append_assoc came (object ∷ []) objects) all.1)

-- ---- those of the objects that pass a test

ascending_lower : (low high : ℕ) (objects : List FactValue) → low ≤ high → IsAscending high objects → IsAscending low objects
ascending_lower low high [] less up = tt
ascending_lower low high (object ∷ objects) less up = (up.0, up.1, (let above = up.2 in omega arith), up.3)

pub ascending_passed : (p : FactValue → Bool) (low : ℕ) (objects : List FactValue) → IsAscending low objects
    → IsAscending low (filter p objects)
ascending_passed p low [] up = tt
ascending_passed p low (object ∷ objects) up =
    let rest = ascending_passed p (up.0 + 1) objects up.3 in
    elim (p object) as (λ t. IsAscending low (cond t (object ∷ filter p objects) (filter p objects))) [
      | true ↦ (up.0, up.1, up.2, rest)
      | false ↦ ascending_lower low (up.0 + 1) (filter p objects) (let above = up.2 in omega arith) rest
    ]
