-- Chains in which a class comes twice.
use Rattle.std.specs.Prelude.{map}
use Rattle.std.specs.List.{IsDistinct, list_any, AllByRecursion}
use Rattle.std.specs.Set.{is_member}
use Rattle.std.proofs.Common.{◌≡◌, ℕ, ◌<◌, ◌==◌, true, false, ◌||◌, List, [], ◌∷◌, length, refl, sym, ap, subst, ◌∙◌, ◌⊎◌}
use Rattle.std.proofs.Common.{inl, inr, arith}
use Rattle.std.proofs.lemmas.Bool.{eqb-true, eq-eqb, or_cases, or_left, or_right}
use Rattle.std.proofs.lemmas.Cmp.{nat_eq_equiv}
use Rattle.std.proofs.lemmas.Map.Made.{length-le_from_is_member}
use Rattle.std.proofs.lemmas.List.{length-map}
use Rattle.hprof_items.specs.FactValue.{FactValue, Class}
use Rattle.hprof_rows.specs.Facts.{Has}
use Rattle.hprof_heap.specs.Classes.{ClassValue, HasDump, fact_of_class}
use Rattle.hprof_layouts.specs.Chain.{IsChain}
use Rattle.hprof_layouts.specs.Layout.{IsCyclic}

abbrev pub ids_of : List ClassValue → List ℕ
ids_of dumps = map (λ dump. dump.id) dumps

-- the identifier of a class dump
abbrev pub class_id : FactValue → ℕ
class_id (Class id trace parent loader signers domain reserved1 reserved2 size constants statics fields) = id
class_id fact = 0

pub record ChainTo (facts : List FactValue) (class end : ℕ) : Type 0 where
  pub dumps : List ClassValue
  pub chain : IsChain facts class dumps end

module _ (facts : List FactValue) where
  -- a chain comes to each class that it has a dump of
  pub chain_to : (class end id : ℕ) (dumps : List ClassValue) → IsChain facts class dumps end
      → list_any (λ other. id == other) (ids_of dumps) ≡ true → ChainTo facts class id
  chain_to class end id [] chain e = absurd cc
  chain_to class end id (dump ∷ dumps) chain e = elim (or_cases (id == dump.id) (list_any (λ other. id == other) (ids_of dumps)) e) [
    | inl here ↦ record { dumps = []; chain = sym chain.1 ∙ sym (eqb-true id dump.id here) }
    | inr there ↦
        let more = chain_to dump.parent end id dumps chain.3 there in
        record { dumps = dump ∷ more.dumps; chain = (chain.0, chain.1, chain.2, more.chain) }
  ]

  fresh : (id : ℕ) (ids : List ℕ) → list_any (λ other. id == other) ids ≡ false → AllByRecursion (λ other. (id == other) ≡ false) ids
  fresh id [] e = tt
  fresh id (other ∷ ids) e = elim (id == other) as (λ v. (v || list_any (λ other. id == other) ids) ≡ false
      → (v ≡ false) × AllByRecursion (λ other. (id == other) ≡ false) ids) [
        | true ↦ λ h. absurd cc
        | false ↦ λ h. (refl, fresh id ids h)
      ] e

  -- either no class comes twice, or the chain turns
  pub repeats : (class end : ℕ) (dumps : List ClassValue) → IsChain facts class dumps end
      → IsDistinct (λ one other. one == other) (ids_of dumps) ⊎ IsCyclic facts class
  unfolding IsDistinct
  repeats class end [] chain = inl tt
  repeats class end (dump ∷ dumps) chain = elim (repeats dump.parent end dumps chain.3) [
    | inr cyclic ↦ inr (record {
      dumps = dump ∷ cyclic.dumps;
      ring = cyclic.ring;
      again = cyclic.again;
      chain = (chain.0, chain.1, chain.2, cyclic.chain);
      turns = cyclic.turns;
      not_empty = cyclic.not_empty;
    })
    | inl distinct ↦ elim (list_any (λ other. dump.id == other) (ids_of dumps)) as
        (λ v. list_any (λ other. dump.id == other) (ids_of dumps) ≡ v
        → IsDistinct (λ one other. one == other) (dump.id ∷ ids_of dumps) ⊎ IsCyclic facts class) [
          | true ↦ λ e.
              let back = chain_to dump.parent end dump.id dumps chain.3 e in
              inr (record {
                dumps = [];
                ring = dump ∷ back.dumps;
                again = class;
                chain = refl;
                turns = (chain.0, chain.1, chain.2, subst (IsChain facts dump.parent back.dumps) chain.1 back.chain);
                not_empty = λ e. absurd cc;
              })
          | false ↦ λ e. inl (fresh dump.id (ids_of dumps) e, distinct)
        ] refl
  ]

  -- the classes of a chain are among the class dumps
  is_among : (id : ℕ) (classes : List FactValue) (dump : ClassValue) → Has classes (fact_of_class dump) → id ≡ dump.id
      → is_member (λ one other. one == other) (map class_id classes) id ≡ true
  is_among id [] dump has e = absurd has
  is_among id (first ∷ classes) dump (inl same) e = or_left _ _ (eq-eqb id (class_id first) (e ∙ ap class_id same))
  is_among id (first ∷ classes) dump (inr has) e = or_right _ _ (is_among id classes dump has e)

  all_among : (classes : List FactValue) → ((dump : ClassValue) → HasDump facts dump → Has classes (fact_of_class dump))
      → (class end : ℕ) (dumps : List ClassValue) → IsChain facts class dumps end → (id : ℕ)
      → is_member (λ one other. one == other) (ids_of dumps) id ≡ true
      → is_member (λ one other. one == other) (map class_id classes) id ≡ true
  all_among classes are class end [] chain id e = absurd cc
  all_among classes are class end (dump ∷ dumps) chain id e =
      elim (or_cases (id == dump.id) (list_any (λ other. id == other) (ids_of dumps)) e) [
        | inl here ↦ is_among id classes dump (are dump chain.2) (eqb-true id dump.id here)
        | inr there ↦ all_among classes are dump.parent end dumps chain.3 id there
      ]

  -- a chain longer than there are class dumps turns
  pub longer_turns : (classes : List FactValue) → ((dump : ClassValue) → HasDump facts dump → Has classes (fact_of_class dump))
      → (class end : ℕ) (dumps : List ClassValue) → IsChain facts class dumps end → length classes < length dumps → IsCyclic facts class
  longer_turns classes are class end dumps chain long = elim (repeats class end dumps chain) [
    | inr cyclic ↦ cyclic
    | inl distinct ↦
        let few = length-le_from_is_member nat_eq_equiv (ids_of dumps) (map class_id classes) distinct
        (all_among classes are class end dumps chain) in
        let counted = length-map dumps (λ (dump : ClassValue). dump.id) in
        let counted_too = length-map classes class_id in
        absurd (omega (arith, few, counted, counted_too))
  ]
