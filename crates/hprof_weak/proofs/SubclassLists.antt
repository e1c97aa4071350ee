-- The subclasses of each class, as far as class dumps were gone over.
use Rattle.std.specs.Prelude.{◌≢◌, ◌↔◌, Contains}
use Rattle.std.proofs.lemmas.Bool.{cases_eq}
use Rattle.std.proofs.lemmas.List.{append-nil}
use Rattle.std.proofs.lemmas.List.Elements.{Contains-append_left, Contains-push, Contains-push_cases}
use Rattle.std.proofs.Common.{◌≡◌, ℕ, List, [], ◌∷◌, ◌++◌, refl, sym, ap, subst, ◌∙◌, inl, inr, append_assoc}
use Rattle.hprof_items.specs.FactValue.{FactValue}
use Rattle.hprof_rows.specs.declared.table.Table.TheVariants as tables
use Rattle.hprof_rows.specs.Tables.{facts_of_table, number_of_table, stands_in}
use Rattle.hprof_rows.proofs.FactSets.{Has-front, Has-parts}
use Rattle.hprof_rows.proofs.Picking.{picked_is}
use Rattle.hprof_heap.specs.Classes.{ClassValue, HasDump, fact_of_class}
use Rattle.hprof_layouts.specs.WaitingLists.{put}
use Rattle.hprof_layouts.proofs.ReferenceSets.{nothing_there}
use Rattle.hprof_layouts.proofs.TableDumps.{one_dump_more}
use Rattle.hprof_layouts.proofs.Wakings.{put-here, put-other}
use Rattle.hprof_layouts.proofs.Walks.{dump_in_table}
use Rattle.hprof_weak.specs.Strengths.{IsSubclass}

-- what waits are the subclasses
abbrev pub AreSubclasses : List FactValue → (ℕ → List ℕ) → Type 0
AreSubclasses facts waits = (superclass class : ℕ) → Contains (waits superclass) class ↔ IsSubclass facts superclass class

-- those of the facts that were gone over
pub record SubclassesSoFar (all : List FactValue) (waits : ℕ → List ℕ) (left : List FactValue) : Type 0 where
  pub taken : List FactValue
  pub parts : all ≡ taken ++ left
  pub exact : AreSubclasses taken waits

pub subclasses_of_none : (all left : List FactValue) (waits : ℕ → List ℕ) → left ≡ all → ((class : ℕ) → waits class ≡ [])
    → SubclassesSoFar all waits left
subclasses_of_none all left waits e empty = record {
  taken = [];
  parts = sym e;
  exact = λ superclass class. (
    λ there. absurd (nothing_there class (subst (λ (l : List ℕ). Contains l class) (empty superclass) there)),
    λ is. absurd is.has,
  );
}

-- with the same dumps there are the same subclasses
same_dumps : (facts others : List FactValue) (waits : ℕ → List ℕ)
    → ((dump : ClassValue) → dump.id ≢ 0 → HasDump facts dump ↔ HasDump others dump) → AreSubclasses facts waits
    → AreSubclasses others waits
same_dumps facts others waits same are superclass class = (
  λ there.
      let is = (are superclass class).0 there in
      let zero : is.dump.id ≢ 0 = λ e. is.not_zero (sym is.id ∙ e) in
      record { dump = is.dump; has = (same is.dump zero).0 is.has; id = is.id; parent = is.parent; not_zero = is.not_zero },
  λ is.
      let zero : is.dump.id ≢ 0 = λ e. is.not_zero (sym is.id ∙ e) in
      (are superclass class).1 (record {
        dump = is.dump;
        has = (same is.dump zero).1 is.has;
        id = is.id;
        parent = is.parent;
        not_zero = is.not_zero;
      }),
)

module _ (taken : List FactValue) (waits others : ℕ → List ℕ) (dump : ClassValue) (not_zero : dump.id ≢ 0)
    (put_is : others ≡ put waits dump.parent (waits dump.parent ++ dump.id ∷ [])) (are : AreSubclasses taken waits) where
  abbrev more : List FactValue
  more = taken ++ fact_of_class dump ∷ []

  was : (superclass class : ℕ) → IsSubclass taken superclass class → IsSubclass more superclass class
  was superclass class is = record {
    dump = is.dump;
    has = Has-front taken (fact_of_class dump ∷ []) (fact_of_class is.dump) is.has;
    id = is.id;
    parent = is.parent;
    not_zero = is.not_zero;
  }

  at : (superclass : ℕ) → others superclass ≡ put waits dump.parent (waits dump.parent ++ dump.id ∷ []) superclass
  at superclass = ap (λ (w : ℕ → List ℕ). w superclass) put_is

  there_more : (superclass class : ℕ) → Contains (others superclass) class → IsSubclass more superclass class
  there_more superclass class there = elim (cases_eq superclass dump.parent) [
    | inr apart ↦ was superclass class ((are superclass class).0
        (subst (λ (l : List ℕ). Contains l class) (at superclass ∙ put-other waits dump.parent _ superclass apart) there))
    | inl same ↦
        let here : Contains (waits dump.parent ++ dump.id ∷ []) class =
        subst (λ (l : List ℕ). Contains l class) (at superclass ∙ put-here waits dump.parent _ superclass same) there in
        elim (Contains-push_cases (waits dump.parent) dump.id class here) [
          | inl old ↦
              subst (λ (s : ℕ). IsSubclass more s class) (sym same) (was dump.parent class ((are dump.parent class).0 old))
          | inr new ↦ record {
            dump = dump;
            has = ((one_dump_more taken dump) dump).1 (inr refl);
            id = new;
            parent = sym same;
            not_zero = λ e. not_zero (new ∙ e);
          }
        ]
  ]

  back_more : (superclass class : ℕ) → IsSubclass more superclass class → Contains (others superclass) class
  back_more superclass class is = elim (((one_dump_more taken dump) is.dump).0 is.has) [
    | inl old ↦
        let there = (are superclass class).1
        (record { dump = is.dump; has = old; id = is.id; parent = is.parent; not_zero = is.not_zero }) in
        elim (cases_eq superclass dump.parent) [
          | inr apart ↦ subst (λ (l : List ℕ). Contains l class)
              (sym (at superclass ∙ put-other waits dump.parent (waits dump.parent ++ dump.id ∷ []) superclass apart)) there
          | inl same ↦ subst (λ (l : List ℕ). Contains l class)
              (sym (at superclass ∙ put-here waits dump.parent (waits dump.parent ++ dump.id ∷ []) superclass same))
              (Contains-append_left (waits dump.parent) (dump.id ∷ []) class (subst (λ (s : ℕ). Contains (waits s) class) same there))
        ]
    | inr new ↦
        let same : superclass ≡ dump.parent = sym is.parent ∙ ap (λ (d : ClassValue). d.parent) new in
        let id : dump.id ≡ class = sym (ap (λ (d : ClassValue). d.id) new) ∙ is.id in
        subst (λ (l : List ℕ). Contains l class)
        (sym (at superclass ∙ put-here waits dump.parent (waits dump.parent ++ dump.id ∷ []) superclass same))
        (subst (λ (n : ℕ). Contains (waits dump.parent ++ dump.id ∷ []) n) id (Contains-push (waits dump.parent) dump.id))
  ]

module _ (all left rest : List FactValue) (waits : ℕ → List ℕ) (fact : FactValue) (next : left ≡ fact ∷ rest)
    (so_far : SubclassesSoFar all waits left) where
  parts_more : all ≡ (so_far.taken ++ fact ∷ []) ++ rest
  parts_more =
      so_far.parts ∙ ap (λ (l : List FactValue). so_far.taken ++ l) next ∙ sym (append_assoc so_far.taken (fact ∷ []) rest)

  pub subclasses_of_more : (others : ℕ → List ℕ) (dump : ClassValue) → fact_of_class dump ≡ fact → dump.id ≢ 0
      → others ≡ put waits dump.parent (waits dump.parent ++ dump.id ∷ []) → SubclassesSoFar all others rest
  subclasses_of_more others dump is not_zero put_is = record {
    taken = so_far.taken ++ fact ∷ [];
    parts = parts_more;
    exact = subst (λ (f : FactValue). AreSubclasses (so_far.taken ++ f ∷ []) others) is (λ superclass class. (
      there_more so_far.taken waits others dump not_zero put_is so_far.exact superclass class,
      back_more so_far.taken waits others dump not_zero put_is so_far.exact superclass class,
    ));
  }

  -- a fact that is no dump of a class, or of class 0
  pub subclasses_of_same : ((dump : ClassValue) → dump.id ≢ 0 → fact_of_class dump ≡ fact → ⊥) → SubclassesSoFar all waits rest
  subclasses_of_same none = record {
    taken = so_far.taken ++ fact ∷ [];
    parts = parts_more;
    exact = same_dumps so_far.taken (so_far.taken ++ fact ∷ []) waits (λ dump not_zero. (
      λ has. Has-front so_far.taken (fact ∷ []) (fact_of_class dump) has,
      λ has. elim (Has-parts so_far.taken (fact ∷ []) (fact_of_class dump) has) [
        | inl old ↦ old
        | inr new ↦ elim new [ inl same ↦ absurd (none dump not_zero same) | inr no_more ↦ absurd no_more ]
      ],
    )) so_far.exact;
  }

pub subclasses_of_all : (facts left : List FactValue) (waits : ℕ → List ℕ) → left ≡ []
    → SubclassesSoFar (facts_of_table tables.Classes facts) waits left → AreSubclasses facts waits
subclasses_of_all facts left waits none so_far =
    let table = facts_of_table tables.Classes facts in
    let same : table ≡ so_far.taken = so_far.parts ∙ ap (λ (l : List FactValue). so_far.taken ++ l) none ∙ append-nil so_far.taken in
    same_dumps table facts waits (λ dump not_zero. (
      λ has. (picked_is (stands_in (number_of_table tables.Classes)) facts (fact_of_class dump) has).has,
      λ has. dump_in_table facts dump has,
    )) (subst (λ (l : List FactValue). AreSubclasses l waits) (sym same) so_far.exact)
