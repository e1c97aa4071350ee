-- The nodes on both sides of the border, as they are collected.
use Rattle.std.specs.Prelude.{◌↔◌, ◌≢◌, Contains, IfOk}
use Rattle.std.proofs.Common.{◌≡◌, ◌⊎◌, ◌==◌, ◌∙◌, ℕ, Bool, true, false, not, Some, List, [], ◌++◌, get_or, length, refl, sym, ap, subst}
use Rattle.std.proofs.Common.{Result, Ok, Err, inl, inr, arith, eq-eqb, eqb-true, ne_eqb}
use Rattle.std.proofs.lemmas.List.Elements.{Contains-append_cases, Contains-append_left, Contains-append_right, Contains-get_or}
use Rattle.std.proofs.lemmas.List.Folds.{list_any_at, list_any_none}
use Rattle.hprof_items.specs.FactValue.{FactValue, Instance}
use Rattle.hprof_rows.specs.declared.key.Key.TheVariants as keys
use Rattle.hprof_rows.specs.declared.table.Table.TheVariants as tables
use Rattle.hprof_rows.specs.Tables.{facts_of_table, number_of_table, stands_in}
use Rattle.hprof_rows.proofs.Picking.{picked, picked_is}
use Rattle.hprof_heap.specs.Objects.{IsObject}
use Rattle.hprof_edges.specs.declared.field_place.FieldPlace.{FieldPlace}
use Rattle.hprof_reach.specs.Nodes.{IsClassNode, IsObjectNode}
use Rattle.hprof_reach.specs.Reaching.{IsNode}
use Rattle.hprof_reach.proofs.Reached.{either_dump}
use Rattle.hprof_reach.proofs.TableNodes.{GivesClass, IsGiven, class_nodes, gives_object, object_nodes}
use Rattle.hprof_retained.specs.Border.{AreAround, IsBorderNode, IsOfClasses, IsOnBorder, IsOutside, has_class}
use Rattle.hprof_retained.specs.Tree.{place_of}
use Rattle.hprof_retained.specs.declared.retained.Retained.{Retained}

-- ---- what an answer has

pub if_ok_too : {A E : Type 0} (r : Result A E) (P Q : A → Type 0) → ((found : A) → P found → Q found) → IfOk r P → IfOk r Q
if_ok_too (Ok found) P Q so is = so found is
if_ok_too (Err fault) P Q so is = tt

-- ---- classes with fields in a table

pub class_there : (fields : List FieldPlace) (field : FieldPlace) → Contains fields field → has_class fields field.class ≡ true
class_there fields field has =
    let test : FieldPlace → Bool = λ other. other.class == field.class in
    list_any_at test fields has.0 field has.1 (ap test has.2 ∙ eq-eqb field.class field.class refl)

-- whether the run of fields of a class has some
pub class_by_run : (fields run : List FieldPlace) (class : ℕ)
    → ((field : FieldPlace) → Contains run field ↔ (Contains fields field × (field.class ≡ class)))
    → (empty : Bool) → empty ≡ (length run == 0) → not empty ≡ has_class fields class
class_by_run fields run class exact true is =
    let none : length run ≡ 0 = eqb-true (length run) 0 (sym is) in
    sym (list_any_none (λ (field : FieldPlace). field.class == class) fields (λ k d below.
    let field = get_or fields k d in
    ne_eqb field.class class (λ same.
    let has = (exact field).1 (Contains-get_or fields k d below, same) in
    let low = has.1 in
    absurd (omega arith))))
class_by_run fields run class exact false is =
    let some : length run ≡ 0 → ⊥ = λ none. (let yes = eq-eqb (length run) 0 none in cc) in
    let d : FieldPlace = record { class = 0; place = 0 } in
    let field = get_or run 0 d in
    let has = (exact field).0 (Contains-get_or run 0 d (omega (arith, some))) in
    sym (subst (λ (c : ℕ). has_class fields c ≡ true) has.1 (class_there fields field has.0))

-- ---- one by one

-- what gives none leaves the list as it was
pub none_more : (first list : List ℕ) (Gives : ℕ → Type 0) → list ≡ first → ((node : ℕ) → Gives node → ⊥) → (node : ℕ)
    → Contains list node ↔ (Contains first node ⊎ Gives node)
none_more first list Gives same none node = (
  λ has. inl (subst (λ (l : List ℕ). Contains l node) same has),
  λ either. elim either [
    | inl has ↦ subst (λ (l : List ℕ). Contains l node) (sym same) has
    | inr gives ↦ absurd (none node gives)
  ],
)

module _ (retained : Retained) where
  abbrev pub GivesOther : FactValue → ℕ → Type 0
  GivesOther fact node = GivesClass fact node × (place_of retained node ≡ 0)

  at_place : (one node : ℕ) → one ≡ node → place_of retained one ≡ 0 → place_of retained node ≡ 0
  at_place one node same none = subst (λ (n : ℕ). place_of retained n ≡ 0) same none

  -- an identifier without a place
  pub other_one : (id : ℕ) → place_of retained id ≡ 0 → (node : ℕ)
      → ((node ≢ 0) × (id ≡ node)) ↔ (((node ≢ 0) × (id ≡ node)) × (place_of retained node ≡ 0))
  other_one id none node = (λ both. (both, at_place id node both.1 none), λ all. all.0)

  pub no_other : (id : ℕ) → place_of retained id ≢ 0 → (node : ℕ) → ((node ≢ 0) × (id ≡ node)) × (place_of retained node ≡ 0) → ⊥
  no_other id some node all = some (at_place node id (sym all.0.1) all.1)

  -- the dump of an object without a place
  pub outside_one : (id : ℕ) (fact : FactValue) → IsObject id fact → place_of retained id ≡ 0 → (node : ℕ)
      → ((node ≢ 0) × (id ≡ node)) ↔ IsOutside retained fact node
  outside_one id fact is none node = (
    λ both. ((gives_object id fact is node).1 both, at_place id node both.1 none),
    λ outside. (gives_object id fact is node).0 outside.0,
  )

  one_object : (id node : ℕ) (fact : FactValue) → IsObject id fact → IsObject node fact → id ≡ node
  one_object id node fact is too = let same : Some (keys.Object id) ≡ Some (keys.Object node) = sym is ∙ too in cc

  pub not_outside : (id : ℕ) (fact : FactValue) → IsObject id fact → place_of retained id ≢ 0 → (node : ℕ)
      → IsOutside retained fact node → ⊥
  not_outside id fact is some node outside = some (at_place node id (sym (one_object id node fact is outside.0.1)) outside.1)

  pub border_one : (fields : List FieldPlace) (id : ℕ) (fact : FactValue) → IsObject id fact → place_of retained id ≢ 0
      → IsOfClasses fields fact → (node : ℕ) → IsOnBorder fields retained fact node ↔ (id ≡ node)
  border_one fields id fact is some of node = (
    λ on. one_object id node fact is on.0.0,
    λ same. (
      (subst (λ (n : ℕ). IsObject n fact) same is, of),
      λ none. some (at_place node id (sym same) none),
    ),
  )

  pub not_border : (fields : List FieldPlace) (id : ℕ) (fact : FactValue) → IsObject id fact
      → ((place_of retained id ≡ 0) ⊎ (IsOfClasses fields fact → ⊥)) → (node : ℕ) → IsOnBorder fields retained fact node → ⊥
  not_border fields id fact is (inl none) node on = on.1 (at_place id node (one_object id node fact is on.0.0) none)
  not_border fields id fact is (inr other) node on = other on.0.1

  -- ---- all of a table

  pub other_classes : (facts : List FactValue) (node : ℕ)
      → IsGiven GivesOther (facts_of_table tables.Classes facts) node ↔ (IsClassNode facts node × (place_of retained node ≡ 0))
  other_classes facts node = (
    λ is. ((class_nodes facts node).0 (record { fact = is.fact; has = is.has; gives = is.gives.0 }), is.gives.1),
    λ both. (let is = (class_nodes facts node).1 both.0 in record { fact = is.fact; has = is.has; gives = (is.gives, both.1) }),
  )

  pub other_objects : (facts : List FactValue) (node : ℕ)
      → IsGiven (IsOutside retained) (facts_of_table tables.Objects facts) node ↔ (IsObjectNode facts node × (place_of retained node ≡ 0))
  other_objects facts node = (
    λ is. ((object_nodes facts node).0 (record { fact = is.fact; has = is.has; gives = is.gives.0 }), is.gives.1),
    λ both. (let is = (object_nodes facts node).1 both.0 in record { fact = is.fact; has = is.has; gives = (is.gives, both.1) }),
  )

  instance_stands : (fields : List FieldPlace) (fact : FactValue) → IsOfClasses fields fact
      → stands_in (number_of_table tables.Objects) fact ≡ true
  instance_stands fields (Instance id trace class bytes) of = refl
  instance_stands fields fact of = absurd of

  pub border_nodes : (fields : List FieldPlace) (facts : List FactValue) (node : ℕ)
      → IsGiven (IsOnBorder fields retained) (facts_of_table tables.Objects facts) node ↔ IsBorderNode fields retained facts node
  border_nodes fields facts node = (
    λ is. (is.fact, (picked_is (stands_in (number_of_table tables.Objects)) facts is.fact is.has).has, is.gives),
    λ on. record {
      fact = on.0;
      has = picked (stands_in (number_of_table tables.Objects)) facts on.0
          (record { has = on.1; passes = instance_stands fields on.0 on.2.0.1 });
      gives = on.2;
    },
  )

  none_in : (id : ℕ) → Contains [] id → ⊥
  none_in id has = omega (arith, has.1)

  -- what was gathered of classes, and then of objects
  pub all_around : (facts : List FactValue) (fields : List FieldPlace) (none classes objects no_sources sources : List ℕ) → none ≡ []
      → ((node : ℕ) → Contains classes node ↔ (Contains none node ⊎ (IsClassNode facts node × (place_of retained node ≡ 0))))
      → ((node : ℕ) → Contains objects node ↔ (Contains classes node ⊎ (IsObjectNode facts node × (place_of retained node ≡ 0))))
      → no_sources ≡ [] → ((node : ℕ) → Contains sources node ↔ (Contains no_sources node ⊎ IsBorderNode fields retained facts node))
      → AreAround facts fields retained objects sources
  all_around facts fields none classes objects no_sources sources nothing of_classes of_objects nothing_too of_border = record {
    others = λ node. (there node, back node);
    sources = λ node. (
      λ has. elim ((of_border node).0 has) [
        | inl old ↦ absurd (none_in node (subst (λ (l : List ℕ). Contains l node) nothing_too old))
        | inr is ↦ is
      ],
      λ is. (of_border node).1 (inr is),
    );
  } where
    there : (node : ℕ) → Contains objects node → IsNode facts node × (place_of retained node ≡ 0)
    there node has = elim ((of_objects node).0 has) [
      | inl before ↦ elim ((of_classes node).0 before) [
        | inl old ↦ absurd (none_in node (subst (λ (l : List ℕ). Contains l node) nothing old))
        | inr is ↦ ((either_dump facts node).1 (inl is.0), is.1)
      ]
      | inr is ↦ ((either_dump facts node).1 (inr is.0), is.1)
    ]

    back : (node : ℕ) → IsNode facts node × (place_of retained node ≡ 0) → Contains objects node
    back node both = elim ((either_dump facts node).0 both.0) [
      | inl class ↦ (of_objects node).1 (inl ((of_classes node).1 (inr (class, both.1))))
      | inr object ↦ (of_objects node).1 (inr (object, both.1))
    ]

  -- and sorted
  pub sorted_around : (facts : List FactValue) (fields : List FieldPlace) (others sorted sources : List ℕ)
      → ((node : ℕ) → Contains sorted node ↔ Contains others node) → AreAround facts fields retained others sources
      → AreAround facts fields retained sorted sources
  sorted_around facts fields others sorted sources same around = record {
    others = λ node. (λ has. (around.others node).0 ((same node).0 has), λ is. (same node).1 ((around.others node).1 is));
    sources = around.sources;
  }

-- what is given behind an empty list
pub only_given : (none list : List ℕ) (Holds : ℕ → Type 0) → none ≡ []
    → ((node : ℕ) → Contains list node ↔ (Contains none node ⊎ Holds node)) → (node : ℕ) → Contains list node ↔ Holds node
only_given none list Holds nothing are node = (
  λ has. elim ((are node).0 has) [
    | inl old ↦ absurd (let low = (subst (λ (l : List ℕ). Contains l node) nothing old).1 in omega arith)
    | inr holds ↦ holds
  ],
  λ holds. (are node).1 (inr holds),
)

-- the members of two lists, one behind the other
pub either_list : (none one two sorted xs ys : List ℕ) → none ≡ [] → one ≡ none ++ xs → two ≡ one ++ ys
    → ((node : ℕ) → Contains sorted node ↔ Contains two node) → (node : ℕ) → Contains sorted node ↔ (Contains xs node ⊎ Contains ys node)
either_list none one two sorted xs ys nothing is then same node =
    let all : two ≡ xs ++ ys = then ∙ ap (λ (l : List ℕ). l ++ ys) (is ∙ ap (λ (l : List ℕ). l ++ xs) nothing) in (
      λ has. Contains-append_cases xs ys node (subst (λ (l : List ℕ). Contains l node) all ((same node).0 has)),
      λ either. (same node).1 (subst (λ (l : List ℕ). Contains l node) (sym all) (elim either [
        | inl has ↦ Contains-append_left xs ys node has
        | inr has ↦ Contains-append_right xs ys node has
      ])),
    )
