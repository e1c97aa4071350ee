-- The class dumps of a heap, that come one by one.
use Rattle.std.proofs.Common.{◌≡◌, ℕ, ◌⊎◌, List, [], ◌∷◌, ◌++◌, Some, refl, sym, ap, subst, ◌∙◌, inl, inr, append_assoc}
use Rattle.std.proofs.lemmas.List.{append-nil}
use Rattle.hprof_values.specs.declared.ids.IdSize.{IdSize}
use Rattle.hprof_items.specs.FactValue.{FactValue}
use Rattle.hprof_rows.specs.declared.key.Key.TheVariants as keys
use Rattle.hprof_rows.specs.declared.table.Table.TheVariants as tables
use Rattle.hprof_rows.specs.Facts.{Has}
use Rattle.hprof_rows.specs.Order.{IsBefore, IsCanonicalOrder}
use Rattle.hprof_rows.specs.Tables.{facts_of_table, number_of_table, stands_in}
use Rattle.hprof_rows.proofs.FactSets.{All-has, Has-back, Has-front, Has-parts}
use Rattle.hprof_rows.proofs.Order.{IsBefore-key}
use Rattle.hprof_rows.proofs.Picking.{picked_is}
use Rattle.hprof_heap.specs.Classes.{ClassValue, HasDump, HasNoDump, fact_of_class}
use Rattle.hprof_heap.proofs.ClassFacts.{dump_in}
use Rattle.hprof_layouts.proofs.Walks.{dump_in_table}
use Rattle.hprof_layouts.specs.declared.known.KnownLayouts.{KnownLayouts}
use Rattle.hprof_layouts.specs.Known.{HasDumpMore, Knows}
use Rattle.hprof_layouts.proofs.KnownPlans.{knows_same}

-- what came is known, and the rest of the facts is left
pub record Coming (ids : IdSize) (all left : List FactValue) (known : KnownLayouts) : Type 0 where
  pub came : List FactValue
  pub all_are : all ≡ came ++ left
  pub knows : Knows ids came known

pub none_came : (ids : IdSize) (all : List FactValue) (known : KnownLayouts) → Knows ids [] known → Coming ids all all known
none_came ids all known knows = record { came = []; all_are = refl; knows = knows }

-- a fact stands before those behind it
before_in_order : (came left : List FactValue) (fact other : FactValue) → IsCanonicalOrder (came ++ fact ∷ left) → Has came other
    → IsBefore other fact
before_in_order [] left fact other ordered has = absurd has
before_in_order (first ∷ came) left fact other ordered (inl same) =
    subst (λ (f : FactValue). IsBefore f fact) (sym same)
    (All-has (IsBefore first) (came ++ fact ∷ left) fact ordered.0 (Has-back came (fact ∷ left) fact (inl refl)))
before_in_order (first ∷ came) left fact other ordered (inr has) = before_in_order came left fact other ordered.1 has

module _ (came left : List FactValue) (dump : ClassValue) (ordered : IsCanonicalOrder (came ++ fact_of_class dump ∷ left)) where
  -- a class dump is the first of its class
  pub first_of_class : HasNoDump came dump.id
  first_of_class other has same =
      IsBefore-key (fact_of_class other) (fact_of_class dump) (keys.Class dump.id)
      (before_in_order came left (fact_of_class dump) (fact_of_class other) ordered has)
      (ap (λ (id : ℕ). Some (keys.Class id)) same) refl

-- with it there is one dump more
pub one_dump_more : (came : List FactValue) (dump : ClassValue) → HasDumpMore came dump (came ++ fact_of_class dump ∷ [])
one_dump_more came dump other = (there, back) where
  there : HasDump (came ++ fact_of_class dump ∷ []) other → HasDump came other ⊎ (other ≡ dump)
  there has = elim (Has-parts came (fact_of_class dump ∷ []) (fact_of_class other) has) [
    | inl was ↦ inl was
    | inr new ↦ elim new [ inl same ↦ inr (ap dump_in same) | inr none ↦ absurd none ]
  ]

  back : HasDump came other ⊎ (other ≡ dump) → HasDump (came ++ fact_of_class dump ∷ []) other
  back (inl was) = Has-front came (fact_of_class dump ∷ []) (fact_of_class other) was
  back (inr same) = Has-back came (fact_of_class dump ∷ []) (fact_of_class other) (inl (ap fact_of_class same))

module _ (ids : IdSize) (all left later : List FactValue) (known other : KnownLayouts) (fact : FactValue)
    (coming : Coming ids all left known) (next : left ≡ fact ∷ later) where
  parts : all ≡ (coming.came ++ fact ∷ []) ++ later
  parts =
      coming.all_are ∙ ap (λ (l : List FactValue). coming.came ++ l) next ∙ sym (append_assoc coming.came (fact ∷ []) later)

  -- a class came
  pub came_more : (dump : ClassValue) → fact_of_class dump ≡ fact → IsCanonicalOrder all
      → ((facts more : List FactValue) → Knows ids facts known → HasNoDump facts dump.id → HasDumpMore facts dump more
      → Knows ids more other)
      → Coming ids all later other
  came_more dump is ordered comes =
      let here : IsCanonicalOrder (coming.came ++ fact_of_class dump ∷ later) =
      subst (λ (f : FactValue). IsCanonicalOrder (coming.came ++ f ∷ later)) (sym is)
      (subst (λ (l : List FactValue). IsCanonicalOrder (coming.came ++ l)) next (subst IsCanonicalOrder coming.all_are ordered)) in
      let more : Knows ids (coming.came ++ fact_of_class dump ∷ []) other =
      comes coming.came (coming.came ++ fact_of_class dump ∷ []) coming.knows (first_of_class coming.came later dump here)
      (one_dump_more coming.came dump) in
      record {
        came = coming.came ++ fact ∷ [];
        all_are = parts;
        knows = subst (λ (f : FactValue). Knows ids (coming.came ++ f ∷ []) other) is more;
      }

  -- another fact came
  pub came_other : ((dump : ClassValue) → fact_of_class dump ≡ fact → ⊥) → Coming ids all later known
  came_other no_dump = record {
    came = coming.came ++ fact ∷ [];
    all_are = parts;
    knows = knows_same ids coming.came (coming.came ++ fact ∷ []) known (λ dump. (there dump, back dump)) coming.knows;
  } where
    there : (dump : ClassValue) → HasDump (coming.came ++ fact ∷ []) dump → HasDump coming.came dump
    there dump has = elim (Has-parts coming.came (fact ∷ []) (fact_of_class dump) has) [
      | inl was ↦ was
      | inr new ↦ elim new [ inl same ↦ absurd (no_dump dump same) | inr none ↦ absurd none ]
    ]

    back : (dump : ClassValue) → HasDump coming.came dump → HasDump (coming.came ++ fact ∷ []) dump
    back dump has = Has-front coming.came (fact ∷ []) (fact_of_class dump) has

-- the class dumps of a heap came
pub all_came : (ids : IdSize) (facts left : List FactValue) (known : KnownLayouts)
    → Coming ids (facts_of_table tables.Classes facts) left known → left ≡ [] → Knows ids facts known
all_came ids facts left known coming none =
    let table = facts_of_table tables.Classes facts in
    let same : table ≡ coming.came =
    coming.all_are ∙ ap (λ (l : List FactValue). coming.came ++ l) none ∙ append-nil coming.came in
    knows_same ids table facts known
    (λ dump. (
      λ has. dump_in_table facts dump has,
      λ has. (picked_is (stands_in (number_of_table tables.Classes)) facts (fact_of_class dump) has).has,
    ))
    (subst (λ (l : List FactValue). Knows ids l known) (sym same) coming.knows)
