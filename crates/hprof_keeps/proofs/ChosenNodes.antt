-- The nodes of a choice: those that facts give, and whether a node is one of them.
use Rattle.std.specs.List.Sorted.{IsBinarySearchResult, IsStrictlyIncreasing}
use Rattle.std.specs.Prelude.{◌↔◌, Contains, IsTrue, is_ok}
use Rattle.std.proofs.Common.{◌≡◌, ◌∙◌, ℕ, Bool, true, false, List, Option, Some, None, Result, Ok, Err, nat_cmp, refl, sym, ap, subst}
use Rattle.std.proofs.Common.{inl, inr}
use Rattle.std.proofs.lemmas.Bool.{both_ways}
use Rattle.hprof_items.specs.FactValue.{FactValue, Instance, ObjArray, PrimArray}
use Rattle.hprof_rows.specs.declared.key.Key.TheVariants as keys
use Rattle.hprof_rows.specs.declared.table.Table.TheVariants as tables
use Rattle.hprof_rows.specs.Conflict.{IsConsistent}
use Rattle.hprof_rows.specs.Facts.{Has}
use Rattle.hprof_rows.specs.Key.{key_of}
use Rattle.hprof_rows.specs.Tables.{facts_of_table, number_of_table, stands_in}
use Rattle.hprof_rows.proofs.Picking.{picked, picked_is}
use Rattle.hprof_heap.specs.Classes.{ClassValue, fact_of_class}
use Rattle.hprof_heap.specs.Found.{IsClassFound, IsObjectFound}
use Rattle.hprof_heap.specs.Objects.{IsObject}
use Rattle.hprof_histogram.specs.declared.row.Kind.{Kind}
use Rattle.hprof_histogram.specs.declared.row.Kind.TheVariants.{Class, Prim}
use Rattle.hprof_histogram.specs.Histogram.{object_kind, same_kind}
use Rattle.hprof_histogram.proofs.OneHistogram.{one_kind}
use Rattle.hprof_histogram.proofs.Tallies.{same_itself}
use Rattle.hprof_layouts.proofs.Walks.{dump_in_table}
use Rattle.hprof_naming.proofs.Lookups.{class_exists, object_exists}
use Rattle.hprof_numbers.specs.Places.{number_in}
use Rattle.hprof_numbers.proofs.Placed.{by_halves, has_number}
use Rattle.hprof_retained.proofs.Deciding.{Decided, both_decided, either_decided}
use Rattle.hprof_keeps.specs.Chosen.{HasObjectOfClasses, HasObjectOfKind, IsChosen, IsClassAlone, IsOfClasses}
use Rattle.hprof_keeps.specs.Gathered.{GivesObject, IsChosenObject, IsClassAmong, IsGiven, IsLoneClass, IsObjectOrClass, has_class_dumps}
use Rattle.hprof_keeps.specs.declared.choice.Choice.{Choice}
use Rattle.hprof_keeps.specs.declared.choice.Choice.TheVariants.{Of, OfClasses}

-- ---- what facts give

module _ (facts : List FactValue) (node : ℕ) where
  -- an object of a kind
  of_kind : (kind : Kind) → IsGiven (GivesObject (λ other. other ≡ kind)) facts node ↔ HasObjectOfKind facts kind node
  of_kind kind = (
    λ given. record {
      fact = given.0;
      has = given.1;
      is_object = given.2.is_object;
      kind_is = given.2.kind_is ∙ ap Some given.2.wanted;
    },
    λ has. (has.fact, has.has, record { is_object = has.is_object; kind = kind; kind_is = has.kind_is; wanted = refl }),
  )

  -- an object of classes
  of_classes : (classes : List ℕ) → IsGiven (GivesObject (IsClassAmong classes)) facts node ↔ HasObjectOfClasses facts classes node
  of_classes classes = (
    λ given.
        let is = given.2.wanted in
        (is.0, is.1, record { fact = given.0; has = given.1; is_object = given.2.is_object; kind_is = given.2.kind_is ∙ ap Some is.2 }),
    λ has. (
      has.2.fact,
      has.2.has,
      record { is_object = has.2.is_object; kind = Class has.0; kind_is = has.2.kind_is; wanted = (has.0, has.1, refl) },
    ),
  )

  -- without class dumps
  pub chosen_objects : (choice : Choice) → has_class_dumps choice ≡ false
      → IsGiven (IsChosenObject choice) facts node ↔ IsChosen facts choice node
  chosen_objects (Of kind) none = of_kind kind
  chosen_objects (OfClasses classes with_class_dumps) none =
      let same = of_classes classes.now in (
        λ given. inl (same.0 given),
        λ chosen. elim chosen [ inl has ↦ same.1 has | inr alone ↦ absurd (both_ways with_class_dumps none alone.0) ],
      )

  -- and with them
  pub chosen_with_classes : (choice : Choice) → has_class_dumps choice ≡ true
      → IsObjectOrClass facts choice node ↔ IsChosen facts choice node
  chosen_with_classes (Of kind) some = absurd cc
  chosen_with_classes (OfClasses classes with_class_dumps) some =
      let same = of_classes classes.now in (
        λ is. elim is [ inl given ↦ inl (same.0 given) | inr alone ↦ inr (some, alone) ],
        λ chosen. elim chosen [ inl has ↦ inl (same.1 has) | inr alone ↦ inr alone.1 ],
      )

-- ---- in tables

-- an object dump stands in the table of objects
object_stands : (fact : FactValue) (node : ℕ) → IsObject node fact → stands_in (number_of_table tables.Objects) fact ≡ true
object_stands (Instance id trace class bytes) node is = refl
object_stands (ObjArray id trace class elements) node is = refl
object_stands (PrimArray id trace elem bytes) node is = refl
object_stands _ node is = absurd cc

pub objects_of_table : (facts : List FactValue) (choice : Choice) (node : ℕ)
    → IsGiven (IsChosenObject choice) (facts_of_table tables.Objects facts) node ↔ IsGiven (IsChosenObject choice) facts node
objects_of_table facts choice node = (
  λ given. (given.0, (picked_is (stands_in (number_of_table tables.Objects)) facts given.0 given.1).has, given.2),
  λ given. (
    given.0,
    picked (stands_in (number_of_table tables.Objects)) facts given.0
        (record { has = given.1; passes = object_stands given.0 node given.2.is_object }),
    given.2,
  ),
)

pub classes_of_table : (facts : List FactValue) (node : ℕ)
    → IsGiven (IsLoneClass facts) (facts_of_table tables.Classes facts) node ↔ IsClassAlone facts node
classes_of_table facts node = (
  λ given.
      let has = (picked_is (stands_in (number_of_table tables.Classes)) facts given.0 given.1).has in
      (given.2.dump, subst (Has facts) (sym given.2.fact_is) has, given.2.id_is, given.2.none),
  λ alone. (
    fact_of_class alone.0,
    dump_in_table facts alone.0 alone.1,
    record { dump = alone.0; fact_is = refl; id_is = alone.2; none = alone.3 },
  ),
)

-- what they give has a key
pub object_key : (choice : Choice) (fact : FactValue) (node : ℕ) → IsChosenObject choice fact node → key_of fact ≡ Some (keys.Object node)
object_key choice fact node is = is.is_object

pub class_key : (facts : List FactValue) (fact : FactValue) (node : ℕ) → IsLoneClass facts fact node → key_of fact ≡ Some (keys.Class node)
class_key facts fact node is = ap key_of (sym is.fact_is) ∙ ap (λ (id : ℕ). Some (keys.Class id)) is.id_is

pub one_object_key : (n m : ℕ) → keys.Object n ≡ keys.Object m → n ≡ m
one_object_key n m e = cc

pub one_class_key : (n m : ℕ) → keys.Class n ≡ keys.Class m → n ≡ m
one_class_key n m e = cc

-- ---- whether a choice has a kind

-- that of a class, if the class is among those of the choice
pub has_class : (classes : List ℕ) (class : ℕ) (test : Bool) → IsTrue test ↔ Contains classes class
    → IsTrue test ↔ IsClassAmong classes (Class class)
has_class classes class test is = (
  λ yes. (class, is.0 yes, refl),
  λ has.
      let same : class ≡ has.0 = (let e : Class class ≡ Class has.0 = has.2 in cc) in
      is.1 (subst (Contains classes) (sym same) has.1),
)

-- the class is found by halves
pub class_found : (classes : List ℕ) (class : ℕ) (found : Result ℕ ℕ) → IsStrictlyIncreasing classes
    → IsBinarySearchResult (λ other. nat_cmp other class) classes found → IsTrue (is_ok found) ↔ Contains classes class
class_found classes class (Ok place) ascend is = has_number classes class (Some place) (by_halves classes class ascend (Ok place) is)
class_found classes class (Err place) ascend is = has_number classes class None (by_halves classes class ascend (Err place) is)

-- ---- whether a node is one of them

turned : {P Q : Type 0} → P ↔ Q → Decided P → Decided Q
turned same (inl is) = inl (same.0 is)
turned same (inr none) = inr (λ is. none (same.1 is))

among_or_not : (classes : List ℕ) (class : ℕ) → Decided (Contains classes class)
among_or_not classes class = go (number_in classes class) refl where
  go : (number : Option ℕ) → number ≡ number_in classes class → Decided (Contains classes class)
  go None e = inr (λ has. let yes = (has_number classes class None e).1 has in absurd cc)
  go (Some number) e = inl ((has_number classes class (Some number) e).0 refl)

same_or_not : (kind wanted : Kind) → Decided (kind ≡ wanted)
same_or_not kind wanted = go (same_kind kind wanted) refl where
  go : (b : Bool) → same_kind kind wanted ≡ b → Decided (kind ≡ wanted)
  go true e = inl (one_kind kind wanted e)
  go false e = inr (λ same. both_ways (same_kind kind wanted) e (ap (same_kind kind) (sym same) ∙ same_itself kind))

class_or_not : (classes : List ℕ) (kind : Kind) → Decided (IsClassAmong classes kind)
class_or_not classes (Class class) = elim (among_or_not classes class) [
  | inl has ↦ inl (class, has, refl)
  | inr none ↦ inr (λ is.
      let same : class ≡ is.0 = (let e : Class class ≡ Class is.0 = is.2 in cc) in
      none (subst (Contains classes) (sym same) is.1))
]
class_or_not classes (Prim elem) = inr (λ is. let e : Prim elem ≡ Class is.0 = is.2 in cc)

true_or_not : (b : Bool) → Decided (IsTrue b)
true_or_not true = inl refl
true_or_not false = inr (λ yes. absurd cc)

module _ (facts : List FactValue) (agree : IsConsistent facts) (node : ℕ) where
  module _ (Wanted : Kind → Type 0) (decide : (kind : Kind) → Decided (Wanted kind)) where
    -- a fact that is the object dump of the node gives it, or none does
    given_by : (fact : FactValue) → Has facts fact → IsObject node fact → (kind : Option Kind) → object_kind fact ≡ kind
        → Decided (IsGiven (GivesObject Wanted) facts node)
    given_by fact has is (Some kind) kind_is = elim (decide kind) [
      | inl wanted ↦ inl (fact, has, record { is_object = is; kind = kind; kind_is = kind_is; wanted = wanted })
      | inr none ↦ inr (λ given.
          let one = agree (keys.Object node) given.0 fact given.1 has given.2.is_object is in
          let both : Some given.2.kind ≡ Some kind = sym given.2.kind_is ∙ ap object_kind one ∙ kind_is in
          let same : given.2.kind ≡ kind = cc in
          none (subst Wanted same given.2.wanted))
    ]
    given_by fact has is None kind_is = inr (λ given.
        let one = agree (keys.Object node) given.0 fact given.1 has given.2.is_object is in
        let both : Some given.2.kind ≡ None = sym given.2.kind_is ∙ ap object_kind one ∙ kind_is in
        absurd cc)

    given_or_not : Decided (IsGiven (GivesObject Wanted) facts node)
    given_or_not = go object.0 object.1 where
      object : (object : Option FactValue) × IsObjectFound facts node object
      object = object_exists facts node

      go : (object : Option FactValue) → IsObjectFound facts node object → Decided (IsGiven (GivesObject Wanted) facts node)
      go (Some fact) is = given_by fact is.0 is.1 (object_kind fact) refl
      go None none = inr (λ given. none given.0 given.1 given.2.is_object)

  alone_or_not : Decided (IsClassAlone facts node)
  alone_or_not = go class.0 object.0 class.1 object.1 where
    class : (class : Option ClassValue) × IsClassFound facts node class
    class = class_exists facts node

    object : (object : Option FactValue) × IsObjectFound facts node object
    object = object_exists facts node

    go : (class : Option ClassValue) (object : Option FactValue) → IsClassFound facts node class → IsObjectFound facts node object
        → Decided (IsClassAlone facts node)
    go class (Some fact) is found = inr (λ alone. alone.3 fact found.0 found.1)
    go (Some dump) None is none = inl (dump, is.0, is.1, none)
    go None None none none_too = inr (λ alone. none alone.0 alone.1 alone.2)

  pub kind_or_not : (kind : Kind) → Decided (HasObjectOfKind facts kind node)
  kind_or_not kind = turned (of_kind facts node kind) (given_or_not (λ other. other ≡ kind) (λ other. same_or_not other kind))

  pub classes_or_not : (classes : List ℕ) (with_class_dumps : Bool) → Decided (IsOfClasses facts classes with_class_dumps node)
  classes_or_not classes with_class_dumps =
      either_decided (turned (of_classes facts node classes) (given_or_not (IsClassAmong classes) (class_or_not classes)))
      (both_decided (true_or_not with_class_dumps) alone_or_not)

  pub chosen_or_not : (choice : Choice) → Decided (IsChosen facts choice node)
  chosen_or_not (Of kind) = kind_or_not kind
  chosen_or_not (OfClasses classes with_class_dumps) = classes_or_not classes.now with_class_dumps
