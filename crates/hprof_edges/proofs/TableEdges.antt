-- The edges that the dumps of a table give, which are gone over one by one.
use Rattle.std.specs.Prelude.{◌↔◌}
use Rattle.std.proofs.Common.{◌≡◌, ◌⊎◌, ℕ, Some, true, List, [], ◌∷◌, ◌++◌, refl, sym, ap, subst, ◌∙◌, inl, inr, append_assoc}
use Rattle.std.proofs.lemmas.List.{append-nil}
use Rattle.hprof_values.specs.declared.ids.IdSize.{IdSize}
use Rattle.hprof_items.specs.FactValue.{FactValue, Instance, ObjArray}
use Rattle.hprof_rows.specs.declared.key.Key.TheVariants as keys
use Rattle.hprof_rows.specs.declared.table.Table.TheVariants as tables
use Rattle.hprof_rows.specs.Key.{key_of}
use Rattle.hprof_rows.specs.Facts.{Has}
use Rattle.hprof_rows.specs.Tables.{facts_of_table, number_of_table, stands_in}
use Rattle.hprof_rows.proofs.FactSets.{Has-back, Has-front, Has-parts}
use Rattle.hprof_rows.proofs.Picking.{picked, picked_is}
use Rattle.hprof_heap.specs.Classes.{ClassValue, fact_of_class}
use Rattle.hprof_heap.proofs.ClassFacts.{dump_in}
use Rattle.hprof_layouts.proofs.Walks.{dump_in_table}
use Rattle.hprof_edges.specs.declared.edge.Edge.{Edge}
use Rattle.hprof_edges.specs.Collecting.{PutBehind}
use Rattle.hprof_edges.specs.DumpEdges.{GivenByClass, GivenByObject, IsClassEdge, IsObjectEdge}
use Rattle.hprof_edges.specs.Edges.{IsEdge}
use Rattle.hprof_edges.proofs.GivenEdges.{class_edge_back, edge_given, object_edge_back}
use Rattle.hprof_edges.proofs.PutTogether.{put_both, put_nothing}

-- ---- facts, one by one

module _ (P : FactValue → Edge → Type 0) where
  -- one of the facts gives it
  pub record IsGiven (facts : List FactValue) (edge : Edge) : Type 0 where
    pub fact : FactValue
    pub has : Has facts fact
    pub gives : P fact edge

  given_more : (facts : List FactValue) (fact : FactValue) (edge : Edge)
      → IsGiven (facts ++ fact ∷ []) edge ↔ (IsGiven facts edge ⊎ P fact edge)
  given_more facts fact edge = (there, back) where
    there : IsGiven (facts ++ fact ∷ []) edge → IsGiven facts edge ⊎ P fact edge
    there is = elim (Has-parts facts (fact ∷ []) is.fact is.has) [
      | inl was ↦ inl (record { fact = is.fact; has = was; gives = is.gives })
      | inr new ↦ elim new [
        | inl same ↦ inr (subst (λ (f : FactValue). P f edge) same is.gives)
        | inr none ↦ absurd none
      ]
    ]

    back : IsGiven facts edge ⊎ P fact edge → IsGiven (facts ++ fact ∷ []) edge
    back (inl is) = record { fact = is.fact; has = Has-front facts (fact ∷ []) is.fact is.has; gives = is.gives }
    back (inr gives) = record { fact = fact; has = Has-back facts (fact ∷ []) fact (inl refl); gives = gives }

  -- the first fact gives it, or one of the others does
  pub given_first : (fact : FactValue) (facts : List FactValue) (edge : Edge)
      → IsGiven (fact ∷ facts) edge ↔ (P fact edge ⊎ IsGiven facts edge)
  given_first fact facts edge = (there, back) where
    there : IsGiven (fact ∷ facts) edge → P fact edge ⊎ IsGiven facts edge
    there is = elim is.has [
      | inl same ↦ inl (subst (λ (f : FactValue). P f edge) same is.gives)
      | inr later ↦ inr (record { fact = is.fact; has = later; gives = is.gives })
    ]

    back : P fact edge ⊎ IsGiven facts edge → IsGiven (fact ∷ facts) edge
    back (inl gives) = record { fact = fact; has = inl refl; gives = gives }
    back (inr is) = record { fact = is.fact; has = inr is.has; gives = is.gives }

  -- the edges of what came were put, and the rest of the facts is left
  pub record GoneOver (holds : List Edge → Type 0) (edges : List Edge) (all left : List FactValue) : Type 0 where
    pub came : List FactValue
    pub all_are : all ≡ came ++ left
    pub put : PutBehind holds edges (IsGiven came)

  pub gone_over_none : (holds : List Edge → Type 0) (edges : List Edge) (all : List FactValue) → holds edges
      → GoneOver holds edges all all
  gone_over_none holds edges all held = record {
    came = [];
    all_are = refl;
    put = put_nothing edges holds (IsGiven []) held (λ edge is. is.has);
  }

  pub gone_over_one : (before after : List Edge → Type 0) (edges : List Edge) (all left later : List FactValue) (fact : FactValue)
      → GoneOver before edges all left → left ≡ fact ∷ later
      → ((longer : List Edge) → before longer → PutBehind after longer (P fact)) → GoneOver after edges all later
  gone_over_one before after edges all left later fact was next puts = record {
    came = was.came ++ fact ∷ [];
    all_are = was.all_are ∙ ap (λ (l : List FactValue). was.came ++ l) next ∙ sym (append_assoc was.came (fact ∷ []) later);
    put = put_both edges before after (IsGiven was.came) (P fact) (IsGiven (was.came ++ fact ∷ [])) was.put puts
        (given_more was.came fact);
  }

  -- a fact that gives none
  pub gone_over_other : (holds : List Edge → Type 0) (edges : List Edge) (all left later : List FactValue) (fact : FactValue)
      → GoneOver holds edges all left → left ≡ fact ∷ later → ((edge : Edge) → P fact edge → ⊥) → GoneOver holds edges all later
  gone_over_other holds edges all left later fact was next none =
      gone_over_one holds holds edges all left later fact was next (λ longer held. put_nothing longer holds (P fact) held none)

  pub gone_over_all : (holds : List Edge → Type 0) (edges : List Edge) (all left : List FactValue) → GoneOver holds edges all left
      → left ≡ [] → PutBehind holds edges (IsGiven all)
  gone_over_all holds edges all left was none =
      let same : all ≡ was.came = was.all_are ∙ ap (λ (l : List FactValue). was.came ++ l) none ∙ append-nil was.came in
      subst (λ (facts : List FactValue). PutBehind holds edges (IsGiven facts)) (sym same) was.put

-- ---- class dumps

-- the fact is a class dump, which gives it
pub record GivesByClass (fact : FactValue) (edge : Edge) : Type 0 where
  pub dump : ClassValue
  pub is : fact_of_class dump ≡ fact
  pub edge_is : IsClassEdge dump edge

-- one class dump and its edges
pub gives_dump : (dump : ClassValue) (fact : FactValue) → fact_of_class dump ≡ fact → (edge : Edge)
    → GivesByClass fact edge ↔ IsClassEdge dump edge
gives_dump dump fact is edge = (
  λ gives. subst (λ (d : ClassValue). IsClassEdge d edge) (ap dump_in (gives.is ∙ sym is)) gives.edge_is,
  λ edge_is. record { dump = dump; is = is; edge_is = edge_is },
)

pub no_dump_no_edge : (fact : FactValue) → ((dump : ClassValue) → fact_of_class dump ≡ fact → ⊥) → (edge : Edge)
    → GivesByClass fact edge → ⊥
no_dump_no_edge fact none edge gives = none gives.dump gives.is

pub class_table : (facts : List FactValue) (edge : Edge)
    → GivenByClass facts edge ↔ IsGiven GivesByClass (facts_of_table tables.Classes facts) edge
class_table facts edge = (
  λ given. record {
    fact = fact_of_class given.dump;
    has = dump_in_table facts given.dump given.has;
    gives = record { dump = given.dump; is = refl; edge_is = given.edge_is };
  },
  λ is. record {
    dump = is.gives.dump;
    has = subst (Has facts) (sym is.gives.is) (picked_is (stands_in (number_of_table tables.Classes)) facts is.fact is.has).has;
    edge_is = is.gives.edge_is;
  },
)

-- ---- object dumps

module _ (ids : IdSize) (facts : List FactValue) where
  -- what gives an edge stands in the table of objects
  stands_there : (fact : FactValue) (edge : Edge) → IsObjectEdge ids facts fact edge
      → stands_in (number_of_table tables.Objects) fact ≡ true
  stands_there (Instance id trace class bytes) edge is = refl
  stands_there (ObjArray id trace class elements) edge is = refl
  stands_there fact edge is = absurd is

  pub object_table : (edge : Edge)
      → GivenByObject ids facts edge ↔ IsGiven (IsObjectEdge ids facts) (facts_of_table tables.Objects facts) edge
  object_table edge = (
    λ given. record {
      fact = given.fact;
      has = picked (stands_in (number_of_table tables.Objects)) facts given.fact
          (record { has = given.has; passes = stands_there given.fact edge given.edge_is });
      gives = given.edge_is;
    },
    λ is. record {
      fact = is.fact;
      has = (picked_is (stands_in (number_of_table tables.Objects)) facts is.fact is.has).has;
      edge_is = is.gives;
    },
  )

  -- a fact that is no object dump gives none
  pub no_object_no_edge : (fact : FactValue) → ((object : ℕ) → key_of fact ≡ Some (keys.Object object) → ⊥) → (edge : Edge)
      → IsObjectEdge ids facts fact edge → ⊥
  no_object_no_edge (Instance id trace class bytes) none edge is = none id refl
  no_object_no_edge (ObjArray id trace class elements) none edge is = none id refl
  no_object_no_edge fact none edge is = is

  -- ---- both

  pub all_edges : (edge : Edge) → IsEdge ids facts edge ↔ (GivenByClass facts edge ⊎ GivenByObject ids facts edge)
  all_edges edge = (edge_given ids facts edge, back) where
    back : GivenByClass facts edge ⊎ GivenByObject ids facts edge → IsEdge ids facts edge
    back (inl given) = class_edge_back ids facts edge given
    back (inr given) = object_edge_back ids facts edge given
