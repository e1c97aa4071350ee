-- Chains of superclasses along which a layout is known.
use Rattle.std.specs.Prelude.{◌≢◌}
use Rattle.std.proofs.Common.{◌≡◌, ◌⊎◌, inl, inr, ℕ, ◌+◌, ◌-◌, ◌<◌, ◌≤◌, List, [], ◌∷◌, ◌++◌, length, map, refl, sym, ap, subst, ◌∙◌, arith}
use Rattle.std.proofs.lemmas.Bool.Decides.{leb_tells}
use Rattle.hprof_items.specs.FactValue.{FactValue}
use Rattle.hprof_values.specs.declared.entry.Entry.{Entry}
use Rattle.hprof_values.specs.Value.{field_of}
use Rattle.hprof_rows.specs.declared.table.Table.TheVariants as tables
use Rattle.hprof_rows.specs.Conflict.{IsConsistent}
use Rattle.hprof_rows.specs.Tables.{facts_of_table}
use Rattle.hprof_heap.specs.Classes.{ClassValue, HasDump, HasNoDump}
use Rattle.hprof_heap.proofs.ClassFacts.{one_dump_each}
use Rattle.hprof_layouts.specs.declared.slot.Slot.{Slot}
use Rattle.hprof_layouts.specs.Chain.{IsChain}
use Rattle.hprof_layouts.specs.Layout.{Cyclic, IsCyclic, IsKnown, Known, own_slots, slot_of, slots_of}
use Rattle.hprof_layouts.proofs.Layouts.{at_most_one}
use Rattle.hprof_layouts.proofs.Walks.{Walking, walked_more, walked_round, walking_none}
use Rattle.hprof_reports.specs.Skipped.{HasSameLayout, IsKnownWithin}

-- ---- a chain that comes to 0 has no more classes than there are

module _ (facts : List FactValue) (class classes : ℕ) where
  chain_fits : (at passed : ℕ) (rest : List ClassValue) → Walking facts class at passed classes → IsChain facts at rest 0
      → (passed + length rest ≤ classes) ⊎ IsCyclic facts class
  chain_fits at passed [] walking chain = inl (let few = walking.few in omega arith)
  chain_fits at passed (dump ∷ rest) walking chain = elim (leb_tells classes passed) [
    | inl full ↦ inr (walked_round facts class at passed classes walking dump chain.0 chain.2 chain.1
        (let few = walking.few in omega arith))
    | inr more ↦
        elim (chain_fits dump.parent (passed + 1) rest
        (walked_more facts class at passed classes walking dump chain.0 chain.2 chain.1 (omega arith)) chain.3) [
          | inl fits ↦ inl (omega (arith, fits))
          | inr cyclic ↦ inr cyclic
        ]
  ]

pub known_within : (facts : List FactValue) (class : ℕ) (slots : List Slot) → IsConsistent facts → IsKnown facts class slots
    → IsKnownWithin facts class slots (length (facts_of_table tables.Classes facts))
known_within facts class slots agree known =
    let classes = length (facts_of_table tables.Classes facts) in
    record {
      dumps = known.dumps;
      chain = known.chain;
      slots_are = known.slots_are;
      few = elim (chain_fits facts class classes class 0 known.dumps (walking_none facts class classes refl) known.chain) [
        | inl fits ↦ omega (arith, fits)
        | inr cyclic ↦
            let same : Known slots ≡ Cyclic = at_most_one facts class (Known slots) Cyclic (one_dump_each facts agree) known cyclic in
            absurd cc
      ];
    }

-- ---- one class up

-- the layout of the superclass, behind the own fields
pub record IsKnownAbove (facts : List FactValue) (dump : ClassValue) (slots : List Slot) (count : ℕ) : Type 0 where
  pub above : List Slot
  pub known : IsKnownWithin facts dump.parent above (count - 1)
  pub slots_are : slots ≡ own_slots dump ++ above

module _ (facts : List FactValue) (class count : ℕ) (slots : List Slot) where
  pub known_above : (dump : ClassValue) → ((other : ClassValue) → HasDump facts other → other.id ≡ class → dump ≡ other) → class ≢ 0
      → IsKnownWithin facts class slots count → IsKnownAbove facts dump slots count
  known_above dump only not_zero known = go known.dumps known.chain known.slots_are known.few where
    go : (dumps : List ClassValue) → IsChain facts class dumps 0 → slots ≡ slots_of dumps → length dumps ≤ count
        → IsKnownAbove facts dump slots count
    go [] chain are few = absurd (not_zero chain)
    go (first ∷ rest) chain are few =
        let same : dump ≡ first = only first chain.2 chain.1 in
        record {
          above = slots_of rest;
          known = record {
            dumps = rest;
            chain = subst (λ (d : ClassValue). IsChain facts d.parent rest 0) (sym same) chain.3;
            slots_are = refl;
            few = omega (arith, few);
          };
          slots_are = are ∙ ap (λ (d : ClassValue). own_slots d ++ slots_of rest) (sym same);
        }

  -- a layout that has a slot is of a class, and some class is left
  pub some_class : (slot : Slot) (others : List Slot) → slots ≡ slot ∷ others → IsKnownWithin facts class slots count → (class ≢ 0)
      × (0 < count)
  some_class slot others there known = go known.dumps known.chain known.slots_are known.few where
    go : (dumps : List ClassValue) → IsChain facts class dumps 0 → slots ≡ slots_of dumps → length dumps ≤ count → (class ≢ 0) × (0 < count)
    go [] chain are few = let none : slot ∷ others ≡ [] = sym there ∙ are in absurd cc
    go (first ∷ rest) chain are few = (chain.0, omega (arith, few))

  -- and that class has a dump
  pub has_dump : class ≢ 0 → HasNoDump facts class → IsKnownWithin facts class slots count → ⊥
  has_dump not_zero none known = go known.dumps known.chain where
    go : (dumps : List ClassValue) → IsChain facts class dumps 0 → ⊥
    go [] chain = not_zero chain
    go (first ∷ rest) chain = none first chain.2 chain.1

-- ---- classes without own fields

-- a class without own fields has the layout of its superclass
pub same_above : (facts : List FactValue) (class : ℕ) (dump : ClassValue)
    → ((other : ClassValue) → HasDump facts other → other.id ≡ class → dump ≡ other) → class ≢ 0 → dump.fields ≡ []
    → HasSameLayout facts class dump.parent
same_above facts class dump only not_zero none slots count known =
    let above = known_above facts class count slots dump only not_zero known in
    let own : own_slots dump ≡ [] = ap (λ (l : List Entry). map (slot_of dump.id) (map field_of l)) none in
    let few = above.known.few in
    record {
      dumps = above.known.dumps;
      chain = above.known.chain;
      slots_are = above.slots_are ∙ ap (λ (l : List Slot). l ++ above.above) own ∙ above.known.slots_are;
      few = omega (arith, few);
    }

pub same_itself : (facts : List FactValue) (class : ℕ) → HasSameLayout facts class class
same_itself facts class slots count known = known

pub same_further : (facts : List FactValue) (class next last : ℕ) → HasSameLayout facts class next → HasSameLayout facts next last
    → HasSameLayout facts class last
same_further facts class next last one other slots count known = other slots count (one slots count known)
