-- Of facts that agree each identifier has a distance from the roots, or none, and a path, or none.
use Rattle.std.specs.Prelude.{◌↔◌, Contains, map}
use Rattle.std.specs.List.{flat_map}
use Rattle.std.proofs.Common.{◌≡◌, ◌⊎◌, ℕ, ◌==◌, Bool, true, false, List, [], ◌∷◌, Option, refl, sym, ap, subst, inl, inr}
use Rattle.std.proofs.lemmas.Bool.{eqb-true, eq-eqb, or_cases, or_left, or_right}
use Rattle.std.proofs.lemmas.List.Elements.{Contains-append_cases, Contains-append_left, Contains-append_right, Contains-push}
use Rattle.hprof_values.specs.declared.ids.IdSize.{IdSize}
use Rattle.hprof_items.specs.FactValue.{FactValue, Name, Load, Unload, Frame, Trace, Start, End, Rooted, Class, Instance, ObjArray}
use Rattle.hprof_items.specs.FactValue.{PrimArray}
use Rattle.hprof_rows.specs.Conflict.{IsConsistent}
use Rattle.hprof_rows.specs.Facts.{Has}
use Rattle.hprof_heap.specs.Objects.{IsObject}
use Rattle.hprof_heap.proofs.ClassFacts as classes
use Rattle.hprof_heap.proofs.ObjectFacts as objects
use Rattle.hprof_edges.specs.declared.edge.Edge.{Edge}
use Rattle.hprof_edges.specs.Edges.{AnyEdge, IsEdge}
use Rattle.hprof_edges.proofs.EdgeMembers.{one_there}
use Rattle.hprof_edges.proofs.PutTogether.{nothing_there}
use Rattle.hprof_reach.specs.Reaching.{IsDistanceBy, IsDistanceFromRoots, IsDumped, IsNode, IsPathBy, IsPathFromRoots, IsRooted, IsStart}
use Rattle.hprof_reach.specs.Reaching.{IsStepBy, LeadsBy, root_id}
use Rattle.hprof_reach.proofs.SomeEdges.{Listed, edges_by}
use Rattle.hprof_reach.proofs.SomeWalk.{distance_exists, has, has_append, has_left, has_right, path_exists}

-- ---- what facts give

module _ (of : FactValue → List ℕ) where
  gives : (facts : List FactValue) (fact : FactValue) (n : ℕ) → Has facts fact → has (of fact) n ≡ true → has (flat_map of facts) n ≡ true
  gives [] fact n has_it e = absurd has_it
  gives (first ∷ facts) fact n (inl same) e =
      has_left (of first) (flat_map of facts) n (subst (λ (f : FactValue). has (of f) n ≡ true) same e)
  gives (first ∷ facts) fact n (inr later) e = has_right (of first) (flat_map of facts) n (gives facts fact n later e)

  given : (facts : List FactValue) (n : ℕ) → has (flat_map of facts) n ≡ true
      → (fact : FactValue) × Has facts fact × (has (of fact) n ≡ true)
  given [] n e = absurd cc
  given (first ∷ facts) n e = elim (has_append (of first) (flat_map of facts) n e) [
    | inl here ↦ (first, inl refl, here)
    | inr later ↦ let more = given facts n later in (more.0, inr more.1, more.2)
  ]

-- the identifier that has a dump
abbrev dumped : FactValue → List ℕ
dumped (Class id trace parent loader signers domain reserved1 reserved2 size constants statics fields) = id ∷ []
dumped (Instance id trace class bytes) = id ∷ []
dumped (ObjArray id trace class elements) = id ∷ []
dumped (PrimArray id trace elem bytes) = id ∷ []
dumped fact = []

-- the object that a root keeps alive
abbrev rooted : FactValue → List ℕ
rooted (Rooted root) = root_id root ∷ []
rooted fact = []

one_has : (id n : ℕ) → id ≡ n → has (id ∷ []) n ≡ true
one_has id n same = or_left (n == id) false (eq-eqb n id (sym same))

has_one : (id n : ℕ) → has (id ∷ []) n ≡ true → id ≡ n
has_one id n e = elim (or_cases (n == id) false e) [ inl here ↦ sym (eqb-true n id here) | inr none ↦ absurd cc ]

object_dumped : (fact : FactValue) (n : ℕ) → IsObject n fact → has (dumped fact) n ≡ true
object_dumped (Instance id trace class bytes) n is = one_has id n (cc)
object_dumped (ObjArray id trace class elements) n is = one_has id n (cc)
object_dumped (PrimArray id trace elem bytes) n is = one_has id n (cc)
object_dumped (Name id text) n is = absurd cc
object_dumped (Load serial class trace name) n is = absurd cc
object_dumped (Unload serial) n is = absurd cc
object_dumped (Frame id method signature source class_serial line) n is = absurd cc
object_dumped (Trace serial thread frames) n is = absurd cc
object_dumped (Start thread object trace name group parent_group) n is = absurd cc
object_dumped (End thread) n is = absurd cc
object_dumped (Rooted root) n is = absurd cc
object_dumped (Class id trace parent loader signers domain reserved1 reserved2 size constants statics fields) n is = absurd cc

-- a list of those that a test picks
module _ (P : ℕ → Type 0) (decide : (n : ℕ) → P n ⊎ (P n → ⊥)) where
  record Picked (xs : List ℕ) : Type 0 where
    pub list : List ℕ
    pub exact : (n : ℕ) → (has list n ≡ true) ↔ ((has xs n ≡ true) × P n)

  picked : (xs : List ℕ) → Picked xs
  picked [] = record { list = []; exact = λ n. (λ e. absurd cc, λ e. absurd (let none = e.0 in cc)) }
  picked (x ∷ xs) = elim (decide x) [
    | inl holds ↦ record {
      list = x ∷ (picked xs).list;
      exact = λ n. (
        λ e. elim (or_cases (n == x) (has (picked xs).list n) e) [
          | inl here ↦ (or_left (n == x) (has xs n) here, subst P (sym (eqb-true n x here)) holds)
          | inr later ↦ let more = ((picked xs).exact n).0 later in (or_right (n == x) (has xs n) more.0, more.1)
        ],
        λ is. elim (or_cases (n == x) (has xs n) is.0) [
          | inl here ↦ or_left (n == x) (has (picked xs).list n) here
          | inr later ↦ or_right (n == x) (has (picked xs).list n) (((picked xs).exact n).1 (later, is.1))
        ],
      );
    }
    | inr fails ↦ record {
      list = (picked xs).list;
      exact = λ n. (
        λ e. (let more = ((picked xs).exact n).0 e in (or_right (n == x) (has xs n) more.0, more.1)),
        λ is. elim (or_cases (n == x) (has xs n) is.0) [
          | inl here ↦ absurd (fails (subst P (eqb-true n x here) is.1))
          | inr later ↦ ((picked xs).exact n).1 (later, is.1)
        ],
      );
    }
  ]

-- ---- what edges lead to

has_target : (edges : List Edge) (to : ℕ) → has (map (λ edge. edge.to) edges) to ≡ true
    → (edge : Edge) × Contains edges edge × (edge.to ≡ to)
has_target [] to e = absurd cc
has_target (edge ∷ edges) to e = elim (or_cases (to == edge.to) (has (map (λ other. other.to) edges) to) e) [
  | inl here ↦ (edge, Contains-append_left (edge ∷ []) edges edge (Contains-push [] edge), sym (eqb-true to edge.to here))
  | inr later ↦ let more = has_target edges to later in (more.0, Contains-append_right (edge ∷ []) edges more.0 more.1, more.2)
]

target_has : (edges : List Edge) (edge : Edge) → Contains edges edge → has (map (λ other. other.to) edges) edge.to ≡ true
target_has [] edge there = absurd (nothing_there edge there)
target_has (first ∷ edges) edge there = elim (Contains-append_cases (first ∷ []) edges edge there) [
  | inl here ↦ or_left (edge.to == first.to) (has (map (λ other. other.to) edges) edge.to)
      (eq-eqb edge.to first.to (ap (λ (e : Edge). e.to) (sym (one_there first edge here))))
  | inr later ↦ or_right (edge.to == first.to) (has (map (λ other. other.to) edges) edge.to) (target_has edges edge later)
]

-- ---- all together

module _ (ids : IdSize) (facts : List FactValue) (agree : IsConsistent facts) where
  node_decided : (id : ℕ) → IsNode facts id ⊎ (IsNode facts id → ⊥)
  node_decided id = go (id == 0) refl where
    dump_decided : IsDumped facts id ⊎ (IsDumped facts id → ⊥)
    dump_decided = elim (classes.look_up facts id) [
      | classes.Found dump has_it same ↦ inl (inl (dump, has_it, same))
      | classes.NotFound no_class ↦ elim (objects.look_up facts id) [
        | objects.Found fact has_it is ↦ inl (inr (fact, has_it, is))
        | objects.NotFound no_object ↦ inr (λ is. elim is [
          | inl class ↦ no_class class.0 class.1 class.2
          | inr object ↦ no_object object.0 object.1 object.2
        ])
      ]
    ]

    go : (t : Bool) → (id == 0) ≡ t → IsNode facts id ⊎ (IsNode facts id → ⊥)
    go true zero_is = inr (λ is. is.0 (eqb-true id 0 zero_is))
    go false e = elim dump_decided [
      | inl is ↦ inl (λ zero_is. (let yes : (id == 0) ≡ true = eq-eqb id 0 zero_is in let no = e in absurd cc), is)
      | inr none ↦ inr (λ is. none is.1)
    ]

  abbrev nodes : List ℕ
  nodes = flat_map dumped facts

  node_there : (id : ℕ) → IsNode facts id → has nodes id ≡ true
  node_there id is = elim is.1 [
    | inl class ↦ gives dumped facts _ id class.1 (one_has class.0.id id class.2)
    | inr object ↦ gives dumped facts object.0 id object.1 (object_dumped object.0 id object.2)
  ]

  -- ---- starts

  starts : Picked (IsNode facts) node_decided (flat_map rooted facts)
  starts = picked (IsNode facts) node_decided (flat_map rooted facts)

  root_of : (fact : FactValue) (id : ℕ) → Has facts fact → has (rooted fact) id ≡ true → IsRooted facts id
  root_of (Rooted root) id has_it e = record { root = root; has = has_it; is = has_one (root_id root) id e }
  root_of (Class class trace parent loader signers domain reserved1 reserved2 size constants statics fields) id has_it e = absurd cc
  root_of (Instance object trace class bytes) id has_it e = absurd cc
  root_of (ObjArray object trace class elements) id has_it e = absurd cc
  root_of (PrimArray object trace elem bytes) id has_it e = absurd cc
  root_of (Name name text) id has_it e = absurd cc
  root_of (Load serial class trace name) id has_it e = absurd cc
  root_of (Unload serial) id has_it e = absurd cc
  root_of (Frame frame method signature source class_serial line) id has_it e = absurd cc
  root_of (Trace serial thread frames) id has_it e = absurd cc
  root_of (Start thread object trace name group parent_group) id has_it e = absurd cc
  root_of (End thread) id has_it e = absurd cc

  are_starts : (id : ℕ) → (has starts.list id ≡ true) ↔ IsStart facts id
  are_starts id = (
    λ e. (
        let is = (starts.exact id).0 e in
        let fact = given rooted facts id is.0 in
        (is.1, root_of fact.0 id fact.1 fact.2)
        ),
    λ is. (starts.exact id).1 (gives rooted facts (Rooted is.1.root) id is.1.has (one_has (root_id is.1.root) id is.1.is), is.0),
  )

  -- ---- steps, by edges of which something holds

  module _ (P : Edge → Type 0) (decide : (edge : Edge) → P edge ⊎ (P edge → ⊥)) where
    leads_from : (from : ℕ) → Listed (λ edge. IsEdge ids facts edge × (edge.from ≡ from) × P edge)
    leads_from from = edges_by ids facts agree from P decide

    abbrev leads_to : ℕ → List ℕ
    leads_to from = map (λ edge. edge.to) (leads_from from).edges

    are_led_to : (from to : ℕ) → (has (leads_to from) to ≡ true) ↔ LeadsBy P ids facts from to
    are_led_to from to = (there, back) where
      there : has (leads_to from) to ≡ true → LeadsBy P ids facts from to
      there e =
          let edge = has_target (leads_from from).edges to e in
          let is = ((leads_from from).exact edge.0).0 edge.1 in
          let same : edge.0 ≡ record { from = from; via = edge.0.via; position = edge.0.position; to = to } =
          λ i. record { from = is.1 i; via = edge.0.via; position = edge.0.position; to = edge.2 i } in
          record {
            via = edge.0.via;
            position = edge.0.position;
            edge = subst (IsEdge ids facts) same is.0;
            holds = subst P same is.2;
          }

      back : LeadsBy P ids facts from to → has (leads_to from) to ≡ true
      back is = target_has (leads_from from).edges (record { from = from; via = is.via; position = is.position; to = to })
          (((leads_from from).exact (record { from = from; via = is.via; position = is.position; to = to })).1 (is.edge, refl, is.holds))

    steps_to : (from : ℕ) → Picked (IsNode facts) node_decided (leads_to from)
    steps_to from = picked (IsNode facts) node_decided (leads_to from)

    abbrev targets : ℕ → List ℕ
    targets from = (steps_to from).list

    are_targets : (from to : ℕ) → (has (targets from) to ≡ true) ↔ IsStepBy P ids facts from to
    are_targets from to = (
      λ e. (let is = ((steps_to from).exact to).0 e in ((are_led_to from to).0 is.0, is.1)),
      λ is. ((steps_to from).exact to).1 ((are_led_to from to).1 is.0, is.1),
    )

    -- ---- so

    pub some_distance_by : (id : ℕ) → (distance : Option ℕ) × IsDistanceBy P ids facts id distance
    some_distance_by id = distance_exists (IsStart facts) (IsStepBy P ids facts) nodes starts.list targets are_starts are_targets
        (λ node is. node_there node is.0) (λ from to is. node_there to is.1) id

    pub some_path_by : (id : ℕ) → (path : Option (List ℕ)) × IsPathBy P ids facts id path
    some_path_by id = path_exists (IsStart facts) (IsStepBy P ids facts) nodes starts.list targets are_starts are_targets
        (λ node is. node_there node is.0) (λ from to is. node_there to is.1) id

  any_decided : (edge : Edge) → AnyEdge edge ⊎ (AnyEdge edge → ⊥)
  any_decided edge = inl tt

  pub some_distance : (id : ℕ) → (distance : Option ℕ) × IsDistanceFromRoots ids facts id distance
  some_distance = some_distance_by AnyEdge any_decided

  pub some_path : (id : ℕ) → (path : Option (List ℕ)) × IsPathFromRoots ids facts id path
  some_path = some_path_by AnyEdge any_decided
