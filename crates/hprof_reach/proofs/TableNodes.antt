-- The identifiers that the facts of a table give, which are gone over one by one.
use Rattle.std.specs.Prelude.{◌↔◌, ◌≢◌, Contains}
use Rattle.std.proofs.Common.{◌≡◌, ◌⊎◌, ℕ, Some, true, List, [], ◌∷◌, ◌++◌, refl, sym, ap, subst, ◌∙◌, inl, inr, append_assoc}
use Rattle.std.proofs.lemmas.List.{append-nil}
use Rattle.hprof_values.specs.declared.root.Root.{Root}
use Rattle.std.proofs.lemmas.List.Elements.{Contains-append_left, Contains-push, Contains-push_cases}
use Rattle.hprof_items.specs.declared.fact.Fact.{Fact}
use Rattle.hprof_items.specs.declared.fact.Fact.TheVariants as facts
use Rattle.hprof_items.specs.FactValue.{value_of}
use Rattle.hprof_items.specs.FactValue.{FactValue, Instance, ObjArray, PrimArray, Rooted}
use Rattle.hprof_rows.specs.declared.key.Key.TheVariants as keys
use Rattle.hprof_rows.specs.declared.table.Table.TheVariants as tables
use Rattle.hprof_rows.specs.Key.{key_of}
use Rattle.hprof_rows.specs.Facts.{Has}
use Rattle.hprof_rows.specs.Tables.{facts_of_table, number_of_table, stands_in}
use Rattle.hprof_rows.proofs.FactSets.{Has-back, Has-front, Has-parts}
use Rattle.hprof_rows.proofs.Picking.{picked, picked_is}
use Rattle.hprof_heap.specs.Classes.{ClassValue, fact_of_class}
use Rattle.hprof_heap.specs.Objects.{IsObject}
use Rattle.hprof_heap.proofs.ClassFacts.{dump_in}
use Rattle.hprof_layouts.proofs.Walks.{dump_in_table}
use Rattle.hprof_reach.specs.Nodes.{GivesObject, IsClassNode, IsObjectNode}
use Rattle.hprof_reach.specs.Reaching.{IsRooted, root_id}

-- ---- facts, one by one

module _ (Gives : FactValue → ℕ → Type 0) where
  -- one of the facts gives it
  pub record IsGiven (facts : List FactValue) (id : ℕ) : Type 0 where
    pub fact : FactValue
    pub has : Has facts fact
    pub gives : Gives fact id

  given_more : (facts : List FactValue) (fact : FactValue) (id : ℕ)
      → IsGiven (facts ++ fact ∷ []) id ↔ (IsGiven facts id ⊎ Gives fact id)
  given_more facts fact id = (there, back) where
    there : IsGiven (facts ++ fact ∷ []) id → IsGiven facts id ⊎ Gives fact id
    there is = elim (Has-parts facts (fact ∷ []) is.fact is.has) [
      | inl was ↦ inl (record { fact = is.fact; has = was; gives = is.gives })
      | inr new ↦ elim new [
        | inl same ↦ inr (subst (λ (f : FactValue). Gives f id) same is.gives)
        | inr none ↦ absurd none
      ]
    ]

    back : IsGiven facts id ⊎ Gives fact id → IsGiven (facts ++ fact ∷ []) id
    back (inl is) = record { fact = is.fact; has = Has-front facts (fact ∷ []) is.fact is.has; gives = is.gives }
    back (inr gives) = record { fact = fact; has = Has-back facts (fact ∷ []) fact (inl refl); gives = gives }

  -- the list has what it had first and what came gives, and the rest of the facts is left
  pub record GoneOver (first list : List ℕ) (all left : List FactValue) : Type 0 where
    pub came : List FactValue
    pub all_are : all ≡ came ++ left
    pub are : (id : ℕ) → Contains list id ↔ (Contains first id ⊎ IsGiven came id)

  pub gone_over_none : (first : List ℕ) (all : List FactValue) → GoneOver first first all all
  gone_over_none first all = record {
    came = [];
    all_are = refl;
    are = λ id. (inl, λ either. elim either [ inl has ↦ has | inr is ↦ absurd is.has ]);
  }

  pub gone_over_one : (first before after : List ℕ) (all left later : List FactValue) (fact : FactValue)
      → GoneOver first before all left → left ≡ fact ∷ later
      → ((id : ℕ) → Contains after id ↔ (Contains before id ⊎ Gives fact id)) → GoneOver first after all later
  gone_over_one first before after all left later fact was next gives = record {
    came = was.came ++ fact ∷ [];
    all_are = was.all_are ∙ ap (λ (l : List FactValue). was.came ++ l) next ∙ sym (append_assoc was.came (fact ∷ []) later);
    are = λ id. (there id, back id);
  } where
    there : (id : ℕ) → Contains after id → Contains first id ⊎ IsGiven (was.came ++ fact ∷ []) id
    there id has = elim ((gives id).0 has) [
      | inl old ↦ elim ((was.are id).0 old) [ inl f ↦ inl f | inr is ↦ inr ((given_more was.came fact id).1 (inl is)) ]
      | inr new ↦ inr ((given_more was.came fact id).1 (inr new))
    ]

    back : (id : ℕ) → Contains first id ⊎ IsGiven (was.came ++ fact ∷ []) id → Contains after id
    back id (inl f) = (gives id).1 (inl ((was.are id).1 (inl f)))
    back id (inr is) = elim ((given_more was.came fact id).0 is) [
      | inl old ↦ (gives id).1 (inl ((was.are id).1 (inr old)))
      | inr new ↦ (gives id).1 (inr new)
    ]

  -- a fact that gives none
  pub gone_over_other : (first list : List ℕ) (all left later : List FactValue) (fact : FactValue)
      → GoneOver first list all left → left ≡ fact ∷ later → ((id : ℕ) → Gives fact id → ⊥) → GoneOver first list all later
  gone_over_other first list all left later fact was next none =
      gone_over_one first list list all left later fact was next
      (λ id. (inl, λ either. elim either [ inl has ↦ has | inr gives ↦ absurd (none id gives) ]))

  pub gone_over_all : (first list : List ℕ) (all left : List FactValue) → GoneOver first list all left → left ≡ []
      → (id : ℕ) → Contains list id ↔ (Contains first id ⊎ IsGiven all id)
  gone_over_all first list all left was none =
      let same : all ≡ was.came = was.all_are ∙ ap (λ (l : List FactValue). was.came ++ l) none ∙ append-nil was.came in
      subst (λ (facts : List FactValue). (id : ℕ) → Contains list id ↔ (Contains first id ⊎ IsGiven facts id)) (sym same) was.are

-- what is given in either way
pub same_given : (Given Other : ℕ → Type 0) (first list : List ℕ) → ((id : ℕ) → Given id ↔ Other id)
    → ((id : ℕ) → Contains list id ↔ (Contains first id ⊎ Given id)) → (id : ℕ) → Contains list id ↔ (Contains first id ⊎ Other id)
same_given Given Other first list same are id = (
  λ has. elim ((are id).0 has) [ inl f ↦ inl f | inr g ↦ inr ((same id).0 g) ],
  λ either. (are id).1 (elim either [ inl f ↦ inl f | inr g ↦ inr ((same id).1 g) ]),
)

-- ---- class dumps

-- the fact is a dump of the class, which is a node
pub record GivesClass (fact : FactValue) (id : ℕ) : Type 0 where
  pub not_zero : id ≢ 0
  pub dump : ClassValue
  pub is : fact_of_class dump ≡ fact
  pub id_is : dump.id ≡ id

pub gives_class : (dump : ClassValue) (fact : FactValue) → fact_of_class dump ≡ fact → (id : ℕ)
    → GivesClass fact id ↔ ((id ≢ 0) × (dump.id ≡ id))
gives_class dump fact is id = (
  λ gives. (gives.not_zero, subst (λ (d : ClassValue). d.id ≡ id) (ap dump_in (gives.is ∙ sym is)) gives.id_is),
  λ both. record { not_zero = both.0; dump = dump; is = is; id_is = both.1 },
)

pub no_dump_no_class : (fact : FactValue) → ((dump : ClassValue) → fact_of_class dump ≡ fact → ⊥) → (id : ℕ) → GivesClass fact id → ⊥
no_dump_no_class fact none id gives = none gives.dump gives.is

pub class_nodes : (facts : List FactValue) (id : ℕ) → IsGiven GivesClass (facts_of_table tables.Classes facts) id ↔ IsClassNode facts id
class_nodes facts id = (
  λ is. (
    is.gives.not_zero,
    (
      is.gives.dump,
      subst (Has facts) (sym is.gives.is) (picked_is (stands_in (number_of_table tables.Classes)) facts is.fact is.has).has,
      is.gives.id_is,
    ),
  ),
  λ node. record {
    fact = fact_of_class node.1.0;
    has = dump_in_table facts node.1.0 node.1.1;
    gives = record { not_zero = node.0; dump = node.1.0; is = refl; id_is = node.1.2 };
  },
)

-- ---- object dumps

pub gives_object : (object : ℕ) (fact : FactValue) → IsObject object fact → (id : ℕ) → GivesObject fact id ↔ ((id ≢ 0) × (object ≡ id))
gives_object object fact is id = (
  λ gives. (gives.0, let same : Some (keys.Object object) ≡ Some (keys.Object id) = sym is ∙ gives.1 in cc),
  λ both. (both.0, subst (λ (o : ℕ). IsObject o fact) both.1 is),
)

pub no_object_no_node : (fact : FactValue) → ((object : ℕ) → key_of fact ≡ Some (keys.Object object) → ⊥) → (id : ℕ)
    → GivesObject fact id → ⊥
no_object_no_node fact none id gives = none id gives.1

-- an object dump stands in the table of objects
pub stands_there : (fact : FactValue) (id : ℕ) → IsObject id fact → stands_in (number_of_table tables.Objects) fact ≡ true
stands_there (Instance object trace class bytes) id is = refl
stands_there (ObjArray object trace class elements) id is = refl
stands_there (PrimArray object trace elem bytes) id is = refl
stands_there fact id is = absurd cc

pub object_nodes : (facts : List FactValue) (id : ℕ)
    → IsGiven GivesObject (facts_of_table tables.Objects facts) id ↔ IsObjectNode facts id
object_nodes facts id = (
  λ is. (
    is.gives.0,
    (is.fact, (picked_is (stands_in (number_of_table tables.Objects)) facts is.fact is.has).has, is.gives.1),
  ),
  λ node. record {
    fact = node.1.0;
    has = picked (stands_in (number_of_table tables.Objects)) facts node.1.0
        (record { has = node.1.1; passes = stands_there node.1.0 id node.1.2 });
    gives = (node.0, node.1.2);
  },
)

-- ---- roots

-- the fact is a root that keeps it alive
pub record GivesRoot (fact : FactValue) (id : ℕ) : Type 0 where
  pub root : Root
  pub is : Rooted root ≡ fact
  pub id_is : root_id root ≡ id

pub gives_root : (root : Root) (fact : FactValue) → Rooted root ≡ fact → (id : ℕ) → GivesRoot fact id ↔ (root_id root ≡ id)
gives_root root fact is id = (
  λ gives. let same : Rooted gives.root ≡ Rooted root = gives.is ∙ sym is in
      subst (λ (r : Root). root_id r ≡ id) (let e : gives.root ≡ root = cc in e) gives.id_is,
  λ id_is. record { root = root; is = is; id_is = id_is },
)

pub gives_no_root : (fact : FactValue) → ((root : Root) → Rooted root ≡ fact → ⊥) → (id : ℕ) → GivesRoot fact id → ⊥
gives_no_root fact none id gives = none gives.root gives.is

pub rooted : (facts : List FactValue) (id : ℕ) → IsGiven GivesRoot (facts_of_table tables.Roots facts) id ↔ IsRooted facts id
rooted facts id = (
  λ is. record {
    root = is.gives.root;
    has = subst (Has facts) (sym is.gives.is) (picked_is (stands_in (number_of_table tables.Roots)) facts is.fact is.has).has;
    is = is.gives.id_is;
  },
  λ is. record {
    fact = Rooted is.root;
    has = picked (stands_in (number_of_table tables.Roots)) facts (Rooted is.root) (record { has = is.has; passes = refl });
    gives = record { root = is.root; is = refl; id_is = is.is };
  },
)

-- one is put behind others
pub one_more : (before after : List ℕ) (one : ℕ) (Gives : ℕ → Type 0) → after ≡ before ++ one ∷ [] → ((id : ℕ) → Gives id ↔ (one ≡ id))
    → (id : ℕ) → Contains after id ↔ (Contains before id ⊎ Gives id)
one_more before after one Gives are is id = (
  λ has. elim (Contains-push_cases before one id (subst (λ (l : List ℕ). Contains l id) are has)) [
    | inl old ↦ inl old
    | inr same ↦ inr ((is id).1 same)
  ],
  λ either. subst (λ (l : List ℕ). Contains l id) (sym are) (elim either [
    | inl old ↦ Contains-append_left before (one ∷ []) id old
    | inr gives ↦ subst (λ (n : ℕ). Contains (before ++ one ∷ []) n) ((is id).0 gives) (Contains-push before one)
  ]),
)

-- a fact in hand of another form is no root
pub no_root : (fact : Fact) → ((root : Root) → fact ≡ facts.Root root → ⊥) → (root : Root) → Rooted root ≡ value_of fact → ⊥
no_root (facts.Root own) none root is = none own refl
no_root fact none root is = absurd cc
