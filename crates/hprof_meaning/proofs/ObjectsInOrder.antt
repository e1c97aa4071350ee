-- The objects of several classes in order: each stands once, and no other list is theirs.
use Rattle.std.specs.Prelude.{map}
use Rattle.std.proofs.Common.{◌≡◌, ◌↔◌, ℕ, ◌+◌, Bool, true, false, cond, List, [], ◌∷◌, Option, Some, None, get_or, refl, sym, ap, subst}
use Rattle.std.proofs.Common.{◌∙◌, inl, inr, arith, ◌==◌}
use Rattle.std.specs.Prelude.{Contains}
use Rattle.std.specs.List.{AllByRecursion, IsDistinct, filter}
use Rattle.std.specs.List.Sorted.{IsPermutation, IsSorted, IsStrictlySortedBy}
use Rattle.std.specs.Ordering.{is_lt, nat_cmp, ordering_reverse}
use Rattle.std.specs.declared.cmp.Ordering.{Ordering}
use Rattle.std.specs.declared.cmp.Ordering.TheVariants.{Less, Equal, Greater}
use Rattle.std.proofs.lemmas.Bool.{both_ways, eq-eqb, eqb-true}
use Rattle.std.proofs.lemmas.Cmp.{nat_eq_equiv}
use Rattle.std.proofs.lemmas.List.Folds.{Any-from_list_any, list_any_at}
use Rattle.std.proofs.lemmas.List.Sorted.{Contains-permutation, IsPermutation-sym}
use Rattle.std.proofs.lemmas.Map.Keys.{IsDistinct-IsPermutation, apart_from_distinct, sorted_from_all_adjacent}
use Rattle.hprof_values.specs.declared.ids.IdSize.{IdSize}
use Rattle.hprof_items.specs.FactValue.{FactValue, Instance, ObjArray, PrimArray}
use Rattle.hprof_rows.specs.Facts.{Has}
use Rattle.hprof_rows.specs.declared.key.Key.TheVariants as keys
use Rattle.hprof_rows.specs.Key.{key_of}
use Rattle.hprof_rows.specs.Order.{IsBefore, IsCanonicalOrder}
use Rattle.hprof_rows.proofs.Order.{IsBefore-key}
use Rattle.hprof_histogram.specs.declared.objects.SizedObject.{SizedObject}
use Rattle.hprof_histogram.specs.declared.row.Kind.{Kind}
use Rattle.hprof_histogram.specs.declared.row.Kind.TheVariants.{Class, Prim}
use Rattle.hprof_histogram.specs.Histogram.{object_kind}
use Rattle.hprof_histogram.specs.Objects.{AreObjects, IsObjectOfKind, id_of_object, object_cmp, sized_of}
use Rattle.hprof_histogram.proofs.KindObjects.{object_cmp_total}
use Rattle.hprof_histogram.proofs.Joining.{join_one}
use Rattle.hprof_histogram.proofs.Members.{IsIn, Contains-from_in, in_from_Contains, one_sorted}
use Rattle.hprof_histogram.proofs.RowOrder.{then_tied, tied_numbers}
use Rattle.hprof_histogram.proofs.SomeHistogram.{first_tied}
use Rattle.hprof_histogram.specs.declared.chosen.Chosen.{Chosen}
use Rattle.hprof_histogram.specs.Chosen.{AreChosen, chooses, chosen_among, is_among, is_chosen, is_of_classes}
use Rattle.hprof_meaning.specs.ObjectsOf.{AreObjectsOf, IsObjectOf, is_kind_of, of_classes}
use Rattle.hprof_meaning.proofs.ClassLists.{is_there, one_there}
use Rattle.hprof_meaning.proofs.ObjectLists.{kept_first, left_out, of_these}

-- ---- kinds

-- a kind that is of one of the classes
pub record IsOfOne (classes : List ℕ) (found : Option Kind) : Type 0 where
  pub class : ℕ
  pub kind_is : found ≡ Some (Class class)
  pub among : Contains classes class

among_from_test : (classes : List ℕ) (class : ℕ) → is_among classes class ≡ true → Contains classes class
among_from_test classes class e =
    let any = Any-from_list_any (λ other. other == class) classes e in
    let same : any.1 ≡ class = eqb-true any.1 class any.4 in
    subst (Contains classes) same (any.0, any.2, any.3)

test_from_among : (classes : List ℕ) (class : ℕ) → Contains classes class → is_among classes class ≡ true
test_from_among classes class has =
    list_any_at (λ other. other == class) classes has.0 class has.1 (eq-eqb (get_or classes has.0 class) class has.2)

of_one : (classes : List ℕ) (found : Option Kind) → is_kind_of classes found ≡ true → IsOfOne classes found
of_one classes (Some (Class class)) e = record { class = class; kind_is = refl; among = among_from_test classes class e }
of_one classes (Some (Prim elem)) e = absurd cc
of_one classes None e = absurd cc

test_of_one : (classes : List ℕ) (found : Option Kind) (class : ℕ) → found ≡ Some (Class class) → Contains classes class
    → is_kind_of classes found ≡ true
test_of_one classes found class is among = ap (is_kind_of classes) is ∙ test_from_among classes class among

-- ---- members

module _ (ids : IdSize) (classes : List ℕ) where
  -- what is among these is an object of one of the classes
  only_objects : (facts : List FactValue) (object : SizedObject) → IsIn object (of_these ids classes facts)
      → IsObjectOf ids facts classes object
  only_objects [] object has = absurd has
  only_objects (fact ∷ facts) object has =
      by_test (only_objects facts object) (is_kind_of classes (object_kind fact)) refl has where
        by_test : (IsIn object (of_these ids classes facts) → IsObjectOf ids facts classes object) → (b : Bool)
            → is_kind_of classes (object_kind fact) ≡ b
            → IsIn object (map (sized_of ids) (cond b (fact ∷ of_classes classes facts) (of_classes classes facts)))
            → IsObjectOf ids (fact ∷ facts) classes object
        by_test later true e has = elim has [
          | inl is ↦ let one = of_one classes (object_kind fact) e in record {
            fact = fact;
            has = inl refl;
            class = one.class;
            kind_is = one.kind_is;
            among = one.among;
            object_is = is;
          }
          | inr rest ↦ let found = later rest in record {
            fact = found.fact;
            has = inr found.has;
            class = found.class;
            kind_is = found.kind_is;
            among = found.among;
            object_is = found.object_is;
          }
        ]
        by_test later false e has = let found = later has in record {
          fact = found.fact;
          has = inr found.has;
          class = found.class;
          kind_is = found.kind_is;
          among = found.among;
          object_is = found.object_is;
        }

  -- an object of one of the classes is among these
  all_objects : (facts : List FactValue) (object : SizedObject) (fact : FactValue) → Has facts fact
      → is_kind_of classes (object_kind fact) ≡ true → object ≡ sized_of ids fact → IsIn object (of_these ids classes facts)
  all_objects [] object fact has is sized = absurd has
  all_objects (first ∷ facts) object fact has is sized =
      by_test (λ later. all_objects facts object fact later is sized) (is_kind_of classes (object_kind first)) refl where
        by_test : (Has facts fact → IsIn object (of_these ids classes facts)) → (b : Bool) → is_kind_of classes (object_kind first) ≡ b
            → IsIn object (map (sized_of ids) (cond b (first ∷ of_classes classes facts) (of_classes classes facts)))
        by_test later true e = elim has [ inl same ↦ inl (sized ∙ ap (sized_of ids) same) | inr rest ↦ inr (later rest) ]
        by_test later false e = elim has [
          | inl same ↦ absurd (both_ways (is_kind_of classes (object_kind first)) e
              (ap (λ (f : FactValue). is_kind_of classes (object_kind f)) (sym same) ∙ is))
          | inr rest ↦ later rest
        ]

  pub exact_objects : (facts : List FactValue) (object : SizedObject)
      → IsIn object (of_these ids classes facts) ↔ IsObjectOf ids facts classes object
  exact_objects facts object = (
    λ has. only_objects facts object has,
    λ is. all_objects facts object is.fact is.has (test_of_one classes (object_kind is.fact) is.class is.kind_is is.among) is.object_is,
  )

-- ---- each stands once

abbrev same_id : SizedObject → SizedObject → Bool
same_id object other = object.id == other.id

-- the key of an object
key_of_object : (fact : FactValue) (kind : Kind) → object_kind fact ≡ Some kind → key_of fact ≡ Some (keys.Object (id_of_object fact))
key_of_object (Instance id trace class bytes) kind e = refl
key_of_object (ObjArray id trace class elements) kind e = refl
key_of_object (PrimArray id trace elem bytes) kind e = refl
key_of_object _ kind e = absurd cc

-- an object before another one has another identifier
apart_objects : (fact other : FactValue) (kind own : Kind) → object_kind fact ≡ Some kind → object_kind other ≡ Some own
    → IsBefore fact other
    → (id_of_object fact == id_of_object other) ≡ false
apart_objects fact other kind own is is_too before = by_test (id_of_object fact == id_of_object other) refl where
  by_test : (b : Bool) → (id_of_object fact == id_of_object other) ≡ b → b ≡ false
  by_test true e =
      let same : id_of_object fact ≡ id_of_object other = eqb-true (id_of_object fact) (id_of_object other) e in
      absurd (IsBefore-key fact other (keys.Object (id_of_object fact)) before (key_of_object fact kind is)
      (key_of_object other own is_too ∙ ap (λ (n : ℕ). Some (keys.Object n)) (sym same)))
  by_test false e = refl

module _ (ids : IdSize) (classes : List ℕ) where
  -- one is apart from all behind it
  apart_first : (fact : FactValue) (facts : List FactValue) → is_kind_of classes (object_kind fact) ≡ true
      → AllByRecursion (IsBefore fact) facts
      → AllByRecursion (λ object. same_id (sized_of ids fact) object ≡ false) (of_these ids classes facts)
  apart_first fact [] is before = tt
  apart_first fact (next ∷ facts) is before =
      by_test (apart_first fact facts is before.1) (is_kind_of classes (object_kind next)) refl where
        by_test : AllByRecursion (λ object. same_id (sized_of ids fact) object ≡ false) (of_these ids classes facts) → (b : Bool)
            → is_kind_of classes (object_kind next) ≡ b
            → AllByRecursion (λ object. same_id (sized_of ids fact) object ≡ false)
            (map (sized_of ids) (cond b (next ∷ of_classes classes facts) (of_classes classes facts)))
        by_test rest true e =
            let one = of_one classes (object_kind fact) is in
            let other = of_one classes (object_kind next) e in
            (apart_objects fact next (Class one.class) (Class other.class) one.kind_is other.kind_is before.0, rest)
        by_test rest false e = rest

  objects_apart : (facts : List FactValue) → IsCanonicalOrder facts → IsDistinct same_id (of_these ids classes facts)
  unfolding IsDistinct
  objects_apart [] ordered = tt
  objects_apart (fact ∷ facts) ordered = by_test (objects_apart facts ordered.1) (is_kind_of classes (object_kind fact)) refl where
    by_test : IsDistinct same_id (of_these ids classes facts) → (b : Bool) → is_kind_of classes (object_kind fact) ≡ b
        → IsDistinct same_id (map (sized_of ids) (cond b (fact ∷ of_classes classes facts) (of_classes classes facts)))
    by_test rest true e = (apart_first fact facts e ordered.0, rest)
    by_test rest false e = rest

-- ---- in order

tied_objects : (object other : SizedObject) → object_cmp object other ≡ Equal → same_id object other ≡ true
tied_objects object other e =
    tied_numbers object.id other.id (then_tied (nat_cmp other.bytes object.bytes) (nat_cmp object.id other.id) e)

one_tied : (object other : SizedObject) → object_cmp object other ≡ Equal → object ≡ other
one_tied object other e =
    let id : object.id ≡ other.id = eqb-true object.id other.id (tied_objects object other e) in
    let bytes : other.bytes ≡ object.bytes =
    eqb-true other.bytes object.bytes (tied_numbers other.bytes object.bytes
    (first_tied (nat_cmp other.bytes object.bytes) (nat_cmp object.id other.id) e)) in
    λ i. record { bytes = sym bytes i; id = id i }

-- an object is before another one that is not before it and has another identifier
rises : (object other : SizedObject) → is_lt (object_cmp other object) ≡ false → same_id object other ≡ false
    → object_cmp object other ≡ Less
rises object other not_before apart = by_order (object_cmp object other) refl where
  by_order : (order : Ordering) → object_cmp object other ≡ order → order ≡ Less
  by_order Less e = refl
  by_order Equal e = absurd (both_ways _ apart (tied_objects object other e))
  by_order Greater e =
      let back : object_cmp other object ≡ Less = object_cmp_total.antisymm other object ∙ ap ordering_reverse e in
      absurd (both_ways _ not_before (ap is_lt back))

objects_ascend : (objects : List SizedObject) → IsSorted object_cmp objects → IsDistinct same_id objects
    → IsStrictlySortedBy object_cmp objects
unfolding IsStrictlySortedBy
objects_ascend [] sorted apart = tt
objects_ascend (first ∷ objects) sorted apart =
    sorted_from_all_adjacent object_cmp_total (first ∷ objects) first (λ k lt.
    rises (get_or (first ∷ objects) k first) (get_or (first ∷ objects) (k + 1) first) (sorted k first (omega arith) lt)
    (apart_from_distinct same_id (first ∷ objects) k (k + 1) first apart (omega arith) lt))

-- ---- the whole

-- what is chosen by the classes
chosen_by_classes : (chosen : Chosen) (classes : List ℕ) → ((kind : Kind) → chooses chosen kind ≡ is_of_classes classes kind)
    → (facts : List FactValue) → chosen_among chosen facts ≡ of_classes classes facts
chosen_by_classes chosen classes same facts =
    ap (λ (test : FactValue → Bool). filter test facts) (λ i fact. of_kind (object_kind fact) i) where
      of_kind : (found : Option Kind) → is_chosen chosen found ≡ is_kind_of classes found
      of_kind None = refl
      of_kind (Some kind) = same kind

-- those of the facts, sorted, are the objects of the classes
sorted_are_objects : (ids : IdSize) (facts : List FactValue) (classes : List ℕ) (objects : List SizedObject) → IsCanonicalOrder facts
    → IsSorted object_cmp objects → IsPermutation (of_these ids classes facts) objects → AreObjectsOf ids facts classes objects
sorted_are_objects ids facts classes objects ordered sorted same = record {
  ascend = objects_ascend objects sorted
      (IsDistinct-IsPermutation same_id (λ object other. nat_eq_equiv.symm object.id other.id) (of_these ids classes facts) objects same
      (objects_apart ids classes facts ordered));
  exact = λ object. (
    λ there. (exact_objects ids classes facts object).0 (in_from_Contains (of_these ids classes facts) object
        (Contains-permutation objects (of_these ids classes facts) object
        (IsPermutation-sym (of_these ids classes facts) objects same) there)),
    λ is. Contains-permutation (of_these ids classes facts) objects object same
        (Contains-from_in (of_these ids classes facts) object ((exact_objects ids classes facts object).1 is)),
  );
}

-- those that are chosen by the classes are their objects
pub chosen_are_objects : (ids : IdSize) (facts : List FactValue) (chosen : Chosen) (classes : List ℕ)
    → ((kind : Kind) → chooses chosen kind ≡ is_of_classes classes kind) → IsCanonicalOrder facts → (objects : List SizedObject)
    → AreChosen ids facts chosen objects → AreObjectsOf ids facts classes objects
chosen_are_objects ids facts chosen classes same ordered objects are =
    sorted_are_objects ids facts classes objects ordered are.sorted
    (subst (λ (l : List FactValue). IsPermutation (map (sized_of ids) l) objects) (chosen_by_classes chosen classes same facts) are.same)

-- ---- laws

pub one_list : (ids : IdSize) (facts : List FactValue) (classes : List ℕ) (one other : List SizedObject)
    → AreObjectsOf ids facts classes one
    → AreObjectsOf ids facts classes other → one ≡ other
one_list ids facts classes one other are too =
    one_sorted object_cmp_total one other are.ascend too.ascend
    (λ object is. in_from_Contains other object ((too.exact object).1 ((are.exact object).0 (Contains-from_in one object is))))
    (λ object is. in_from_Contains one object ((are.exact object).1 ((too.exact object).0 (Contains-from_in other object is))))

module _ (ids : IdSize) (classes : List ℕ) where
  -- the objects of the classes among some facts, in order
  record Listed (facts : List FactValue) : Type 0 where
    objects : List SizedObject
    ascend : IsStrictlySortedBy object_cmp objects
    only : (object : SizedObject) → IsIn object objects → IsIn object (of_these ids classes facts)
    all : (object : SizedObject) → IsIn object (of_these ids classes facts) → IsIn object objects

  list_more : (fact : FactValue) (facts : List FactValue) → is_kind_of classes (object_kind fact) ≡ true → Listed facts
      → Listed (fact ∷ facts)
  list_more fact facts is before =
      let more = join_one object_cmp object_cmp_total one_tied (sized_of ids fact) before.objects before.ascend in
      let same : of_these ids classes (fact ∷ facts) ≡ sized_of ids fact ∷ of_these ids classes facts =
      ap (map (sized_of ids)) (kept_first classes fact facts is) in
      record {
        objects = more.all;
        ascend = more.sorted;
        only = λ object has. subst (IsIn object) (sym same) (elim (more.only object has) [
          | inl here ↦ inl here
          | inr later ↦ inr (before.only object later)
        ]);
        all = λ object has. elim (subst (IsIn object) same has) [
          | inl here ↦ subst (λ (o : SizedObject). IsIn o more.all) (sym here) more.has
          | inr later ↦ more.keeps object (before.all object later)
        ];
      }

  nothing_sorted : IsStrictlySortedBy object_cmp []
  unfolding IsStrictlySortedBy
  nothing_sorted = tt

  listed : (facts : List FactValue) → Listed facts
  listed [] = record { objects = []; ascend = nothing_sorted; only = λ object has. has; all = λ object has. has }
  listed (fact ∷ facts) = by_test (listed facts) (is_kind_of classes (object_kind fact)) refl where
    by_test : Listed facts → (b : Bool) → is_kind_of classes (object_kind fact) ≡ b → Listed (fact ∷ facts)
    by_test before true e = list_more fact facts e before
    by_test before false e =
        let same : of_these ids classes (fact ∷ facts) ≡ of_these ids classes facts =
        ap (map (sized_of ids)) (left_out classes fact facts e) in
        record {
          objects = before.objects;
          ascend = before.ascend;
          only = λ object has. subst (IsIn object) (sym same) (before.only object has);
          all = λ object has. before.all object (subst (IsIn object) same has);
        }

pub some_list : (ids : IdSize) (facts : List FactValue) (classes : List ℕ)
    → (objects : List SizedObject) × AreObjectsOf ids facts classes objects
some_list ids facts classes =
    let is = listed ids classes facts in (
      is.objects,
      record {
        ascend = is.ascend;
        exact = λ object. (
          λ there. (exact_objects ids classes facts object).0 (is.only object (in_from_Contains is.objects object there)),
          λ has. Contains-from_in is.objects object (is.all object ((exact_objects ids classes facts object).1 has)),
        );
      },
    )

-- ---- one class alone

-- an object of the one class is one of its kind
same_object : (ids : IdSize) (facts : List FactValue) (class : ℕ) (object : SizedObject)
    → IsObjectOf ids facts (class ∷ []) object ↔ IsObjectOfKind ids facts (Class class) object
same_object ids facts class object = (
  λ is. record {
    fact = is.fact;
    has = is.has;
    kind_is = is.kind_is ∙ ap (λ (c : ℕ). Some (Class c)) (one_there class is.class is.among);
    object_is = is.object_is;
  },
  λ is. record {
    fact = is.fact;
    has = is.has;
    class = class;
    kind_is = is.kind_is;
    among = is_there class class refl;
    object_is = is.object_is;
  },
)

pub same_list : (ids : IdSize) (facts : List FactValue) (class : ℕ) (objects : List SizedObject)
    → AreObjectsOf ids facts (class ∷ []) objects ↔ AreObjects ids facts (Class class) objects
same_list ids facts class objects = (
  λ are. record {
    ascend = are.ascend;
    exact = λ object. (
      λ has. (same_object ids facts class object).0 ((are.exact object).0 has),
      λ is. (are.exact object).1 ((same_object ids facts class object).1 is),
    );
  },
  λ are. record {
    ascend = are.ascend;
    exact = λ object. (
      λ has. (same_object ids facts class object).1 ((are.exact object).0 has),
      λ is. (are.exact object).1 ((same_object ids facts class object).0 is),
    );
  },
)
