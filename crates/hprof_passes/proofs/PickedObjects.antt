-- The objects that are wanted: those with one identifier, and those with several that ascend.
use Rattle.std.proofs.Common.{◌≡◌, ◌==◌, ℕ, Bool, true, false, List, [], ◌∷◌, ◌++◌, Option, Some, None, inl, inr, refl, sym, ap, subst, ◌∙◌}
use Rattle.std.specs.List.{AllByRecursion, find, list_any}
use Rattle.std.specs.Option.{option_to_list}
use Rattle.std.specs.Ordering.{nat_cmp}
use Rattle.std.specs.Cmp.Lexicographic.{slice_cmp}
use Rattle.std.specs.declared.cmp.Ordering.TheVariants.{Less}
use Rattle.std.proofs.lemmas.Bool.{eqb-true, eq-eqb, or_cases, or_left, or_right}
use Rattle.hprof_items.specs.FactValue.{FactValue, Name, Load, Unload, Frame, Trace, Start, End, Rooted, Class, Instance, ObjArray}
use Rattle.hprof_items.specs.FactValue.{PrimArray}
use Rattle.hprof_rows.specs.declared.key.Key.TheVariants as keys
use Rattle.hprof_rows.specs.declared.table.Table.TheVariants as tables
use Rattle.hprof_rows.specs.Facts.{Has}
use Rattle.hprof_rows.specs.Key.{has_key, key_of}
use Rattle.hprof_rows.specs.Order.{IsBefore, IsCanonicalOrder, order_of}
use Rattle.hprof_rows.specs.Tables.{number_of_table, stands_in}
use Rattle.hprof_rows.proofs.FactSets.{All-from_has, Has-back, Has-front, Has-parts}
use Rattle.hprof_rows.proofs.Keys.{is_key-true, true-is_key}
use Rattle.hprof_rows.proofs.Order.{one_order, order_agrees}
use Rattle.hprof_rows.proofs.Picking.{found, not_found, picked as has_passed, picked_is}
use Rattle.hprof_rows.proofs.ReadBack.{passed_ordered}
use Rattle.hprof_rows.proofs.Tables.{all_append}
use Rattle.hprof_heap.specs.Objects.{HasNoObject, IsObject}
use Rattle.hprof_passes.specs.Passing.{objects_among}
use Rattle.hprof_passes.specs.Picked.{is_one_of, is_wanted, object_of, picked}

-- whether a fact is an object
abbrev stands : FactValue → Bool
stands = stands_in (number_of_table tables.Objects)

-- ---- one object

-- a dump of an object is an object, and has its identifier
pub record IsObjectOf (id : ℕ) (fact : FactValue) : Type 0 where
  pub stands : stands_in (number_of_table tables.Objects) fact ≡ true
  pub of : object_of fact ≡ Some id

pub is_object_of : (id : ℕ) (fact : FactValue) → IsObject id fact → IsObjectOf id fact
is_object_of id (Instance other trace class bytes) is =
    let same : keys.Object other ≡ keys.Object id = cc in
    let e : other ≡ id = cc in
    record { stands = refl; of = ap Some e }
is_object_of id (ObjArray other trace class elements) is =
    let same : keys.Object other ≡ keys.Object id = cc in
    let e : other ≡ id = cc in
    record { stands = refl; of = ap Some e }
is_object_of id (PrimArray other trace elem bytes) is =
    let same : keys.Object other ≡ keys.Object id = cc in
    let e : other ≡ id = cc in
    record { stands = refl; of = ap Some e }
is_object_of id (Name other text) is = absurd cc
is_object_of id (Load serial class trace name) is = absurd cc
is_object_of id (Unload serial) is = absurd cc
is_object_of id (Frame other method signature source class_serial line) is = absurd cc
is_object_of id (Trace serial thread frames) is = absurd cc
is_object_of id (Start thread object trace name group parent_group) is = absurd cc
is_object_of id (End thread) is = absurd cc
is_object_of id (Rooted root) is = absurd cc
is_object_of id (Class other trace parent loader signers domain reserved1 reserved2 size constants statics fields) is = absurd cc

-- a fact that is wanted is a dump of one of the objects
pub record IsWantedOf (wanted : List ℕ) (fact : FactValue) : Type 0 where
  pub id : ℕ
  pub among : list_any (λ other. other == id) wanted ≡ true
  pub of : object_of fact ≡ Some id
  pub key : IsObject id fact
  pub place : order_of fact ≡ 9 ∷ id ∷ []

pub wanted_of : (wanted : List ℕ) (fact : FactValue) → is_wanted wanted fact ≡ true → IsWantedOf wanted fact
wanted_of wanted (Instance id trace class bytes) is = record { id = id; among = is; of = refl; key = refl; place = refl }
wanted_of wanted (ObjArray id trace class elements) is = record { id = id; among = is; of = refl; key = refl; place = refl }
wanted_of wanted (PrimArray id trace elem bytes) is = record { id = id; among = is; of = refl; key = refl; place = refl }
wanted_of wanted (Name id text) is = absurd cc
wanted_of wanted (Load serial class trace name) is = absurd cc
wanted_of wanted (Unload serial) is = absurd cc
wanted_of wanted (Frame id method signature source class_serial line) is = absurd cc
wanted_of wanted (Trace serial thread frames) is = absurd cc
wanted_of wanted (Start thread object trace name group parent_group) is = absurd cc
wanted_of wanted (End thread) is = absurd cc
wanted_of wanted (Rooted root) is = absurd cc
wanted_of wanted (Class id trace parent loader signers domain reserved1 reserved2 size constants statics fields) is = absurd cc

-- the dump of an object is wanted if its identifier is
pub is_wanted_at : (wanted : List ℕ) (fact : FactValue) (id : ℕ) → object_of fact ≡ Some id
    → list_any (λ other. other == id) wanted ≡ true → is_wanted wanted fact ≡ true
is_wanted_at wanted fact id of among = ap (is_one_of wanted) of ∙ among

-- an identifier that is one of one is that one
only_one : (id other : ℕ) → list_any (λ wanted. wanted == other) (id ∷ []) ≡ true → id ≡ other
only_one id other among = elim (or_cases (id == other) false among) [
  | inl here ↦ eqb-true id other here
  | inr none ↦ absurd cc
]

one_of_one : (id : ℕ) → list_any (λ wanted. wanted == id) (id ∷ []) ≡ true
one_of_one id = or_left (id == id) false (eq-eqb id id refl)

-- ---- none

-- a list that has no fact
no_facts : (facts : List FactValue) → ((fact : FactValue) → Has facts fact → ⊥) → facts ≡ []
no_facts [] none = refl
no_facts (first ∷ facts) none = absurd (none first (inl refl))

pub none_wanted : (objects : List FactValue) → picked [] objects ≡ []
none_wanted objects = no_facts (picked [] objects) (λ fact has.
    let of = wanted_of [] fact (picked_is (is_wanted []) objects fact has).passes in
    let no : false ≡ true = of.among in
    cc)

-- ---- the objects with one identifier

module _ (id : ℕ) (facts : List FactValue) where
  -- if the facts have a dump of the object, it is the only one
  one_picked : IsCanonicalOrder facts → (fact : FactValue) → Has facts fact → IsObject id fact
      → picked (id ∷ []) (objects_among facts) ≡ fact ∷ []
  one_picked ordered fact has is =
      one_order (picked (id ∷ []) (objects_among facts)) (fact ∷ [])
      (passed_ordered (is_wanted (id ∷ [])) (objects_among facts) (passed_ordered stands facts ordered)) (tt, tt)
      (λ other. (into other, from other))
    where
      into : (other : FactValue) → Has (picked (id ∷ []) (objects_among facts)) other → Has (fact ∷ []) other
      into other has_other =
          let chosen = picked_is (is_wanted (id ∷ [])) (objects_among facts) other has_other in
          let object = picked_is stands facts other chosen.has in
          let of = wanted_of (id ∷ []) other chosen.passes in
          let same = only_one id of.id of.among in
          inl (order_agrees facts ordered (keys.Object id) other fact object.has has
          (subst (λ (n : ℕ). IsObject n other) (sym same) of.key) is)

      from : (other : FactValue) → Has (fact ∷ []) other → Has (picked (id ∷ []) (objects_among facts)) other
      from other (inl same) =
          let object = is_object_of id fact is in
          subst (λ (f : FactValue). Has (picked (id ∷ []) (objects_among facts)) f) (sym same)
          (has_passed (is_wanted (id ∷ [])) (objects_among facts) fact (record {
            has = has_passed stands facts fact (record { has = has; passes = object.stands });
            passes = is_wanted_at (id ∷ []) fact id object.of (one_of_one id);
          }))
      from other (inr none) = absurd none

  -- if they have none, none is picked
  none_picked : HasNoObject facts id → picked (id ∷ []) (objects_among facts) ≡ []
  none_picked none = no_facts (picked (id ∷ []) (objects_among facts)) (λ other has_other.
      let chosen = picked_is (is_wanted (id ∷ [])) (objects_among facts) other has_other in
      let object = picked_is stands facts other chosen.has in
      let of = wanted_of (id ∷ []) other chosen.passes in
      let same = only_one id of.id of.among in
      none other object.has (subst (λ (n : ℕ). IsObject n other) (sym same) of.key))

  -- what is found by the key of the object
  pub found_picked : IsCanonicalOrder facts → (object : Option FactValue) → object ≡ find (has_key (keys.Object id)) facts
      → picked (id ∷ []) (objects_among facts) ≡ option_to_list object
  found_picked ordered (Some fact) is =
      let at = found (has_key (keys.Object id)) facts fact (sym is) in
      one_picked ordered fact at.has (is_key-true (keys.Object id) (key_of fact) at.passes)
  found_picked ordered None is = none_picked (λ fact has key.
      not_found (has_key (keys.Object id)) facts fact (sym is) has (true-is_key (keys.Object id) (key_of fact) key))

-- what is picked is one of the facts
pub picked_has : (id : ℕ) (facts : List FactValue) (fact : FactValue) → picked (id ∷ []) (objects_among facts) ≡ fact ∷ []
    → Has facts fact
picked_has id facts fact are =
    (picked_is stands facts fact
    (picked_is (is_wanted (id ∷ [])) (objects_among facts) fact (subst (λ (l : List FactValue). Has l fact) (sym are) (inl refl))).has).has

-- ---- one identifier below others

-- an identifier below all others is below one of them
below_one : (id other : ℕ) (rest : List ℕ) → AllByRecursion (λ next. nat_cmp id next ≡ Less) rest
    → list_any (λ wanted. wanted == other) rest ≡ true → nat_cmp id other ≡ Less
below_one id other [] below among = absurd cc
below_one id other (first ∷ rest) below among = elim (or_cases (first == other) (list_any (λ wanted. wanted == other) rest) among) [
  | inl here ↦ subst (λ (n : ℕ). nat_cmp id n ≡ Less) (eqb-true first other here) below.0
  | inr later ↦ below_one id other rest below.1 later
]

-- objects stand in the order of their identifiers
before_at : (id other : ℕ) (one two : FactValue) → order_of one ≡ 9 ∷ id ∷ [] → order_of two ≡ 9 ∷ other ∷ [] → nat_cmp id other ≡ Less
    → IsBefore one two
before_at id other one two first second less =
    subst (λ (p : List ℕ). slice_cmp nat_cmp p (order_of two) ≡ Less) (sym first)
    (subst (λ (p : List ℕ). slice_cmp nat_cmp (9 ∷ id ∷ []) p ≡ Less) (sym second) (rw less refl))

-- two lists in order, the first before the second
ordered_both : (front back : List FactValue) → IsCanonicalOrder front → IsCanonicalOrder back
    → ((one two : FactValue) → Has front one → Has back two → IsBefore one two) → IsCanonicalOrder (front ++ back)
ordered_both [] back first second before = second
ordered_both (fact ∷ front) back first second before = (
  all_append (IsBefore fact) front back first.0 (All-from_has (IsBefore fact) back (λ two has. before fact two (inl refl) has)),
  ordered_both front back first.1 second (λ one two has has_two. before one two (inr has) has_two),
)

module _ (id : ℕ) (rest : List ℕ) (objects : List FactValue) (ordered : IsCanonicalOrder objects)
    (below : AllByRecursion (λ next. nat_cmp id next ≡ Less) rest) where
  first_before : (one two : FactValue) → Has (picked (id ∷ []) objects) one → Has (picked rest objects) two → IsBefore one two
  first_before one two has_one has_two =
      let first = wanted_of (id ∷ []) one (picked_is (is_wanted (id ∷ [])) objects one has_one).passes in
      let second = wanted_of rest two (picked_is (is_wanted rest) objects two has_two).passes in
      before_at first.id second.id one two first.place second.place
      (subst (λ (n : ℕ). nat_cmp n second.id ≡ Less) (only_one id first.id first.among)
      (below_one id second.id rest below second.among))

  into_both : (fact : FactValue) → Has (picked (id ∷ rest) objects) fact → Has (picked (id ∷ []) objects ++ picked rest objects) fact
  into_both fact has =
      let chosen = picked_is (is_wanted (id ∷ rest)) objects fact has in
      let of = wanted_of (id ∷ rest) fact chosen.passes in
      elim (or_cases (id == of.id) (list_any (λ wanted. wanted == of.id) rest) of.among) [
        | inl here ↦ Has-front (picked (id ∷ []) objects) (picked rest objects) fact
            (has_passed (is_wanted (id ∷ [])) objects fact (record {
              has = chosen.has;
              passes = is_wanted_at (id ∷ []) fact of.id of.of (or_left (id == of.id) false here);
            }))
        | inr later ↦ Has-back (picked (id ∷ []) objects) (picked rest objects) fact
            (has_passed (is_wanted rest) objects fact (record {
              has = chosen.has;
              passes = is_wanted_at rest fact of.id of.of later;
            }))
      ]

  from_both : (fact : FactValue) → Has (picked (id ∷ []) objects ++ picked rest objects) fact → Has (picked (id ∷ rest) objects) fact
  from_both fact has = elim (Has-parts (picked (id ∷ []) objects) (picked rest objects) fact has) [
    | inl here ↦
        let chosen = picked_is (is_wanted (id ∷ [])) objects fact here in
        let of = wanted_of (id ∷ []) fact chosen.passes in
        has_passed (is_wanted (id ∷ rest)) objects fact (record {
          has = chosen.has;
          passes = is_wanted_at (id ∷ rest) fact of.id of.of
              (or_left (id == of.id) (list_any (λ wanted. wanted == of.id) rest)
              (eq-eqb id of.id (only_one id of.id of.among)));
        })
    | inr later ↦
        let chosen = picked_is (is_wanted rest) objects fact later in
        let of = wanted_of rest fact chosen.passes in
        has_passed (is_wanted (id ∷ rest)) objects fact (record {
          has = chosen.has;
          passes = is_wanted_at (id ∷ rest) fact of.id of.of
              (or_right (id == of.id) (list_any (λ wanted. wanted == of.id) rest) of.among);
        })
  ]

  -- the object with the least identifier comes first
  pub first_picked : picked (id ∷ rest) objects ≡ picked (id ∷ []) objects ++ picked rest objects
  first_picked =
      one_order (picked (id ∷ rest) objects) (picked (id ∷ []) objects ++ picked rest objects)
      (passed_ordered (is_wanted (id ∷ rest)) objects ordered)
      (ordered_both (picked (id ∷ []) objects) (picked rest objects) (passed_ordered (is_wanted (id ∷ [])) objects ordered)
      (passed_ordered (is_wanted rest) objects ordered) first_before)
      (λ fact. (into_both fact, from_both fact))
