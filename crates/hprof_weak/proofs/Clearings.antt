-- Whether the referents of a class are cleared, by its superclass.
use Rattle.std.specs.Prelude.{◌≢◌, ◌↔◌, IsTrue}
use Rattle.std.proofs.Common.{◌≡◌, ◌⊎◌, ℕ, Bool, List, [], ◌∷◌, ◌++◌, Option, refl, sym, subst, inl, inr}
use Rattle.hprof_items.specs.FactValue.{FactValue}
use Rattle.hprof_heap.specs.Classes.{ClassValue, HasDump}
use Rattle.hprof_heap.proofs.ClassFacts.{OneDumpEach}
use Rattle.hprof_layouts.specs.declared.slot.Slot.{Slot}
use Rattle.hprof_layouts.specs.Chain.{IsChain}
use Rattle.hprof_layouts.specs.Layout.{IsKnown, own_slots}
use Rattle.hprof_layouts.proofs.Outlines.{known_below}
use Rattle.hprof_weak.specs.declared.links.Link.{Link}
use Rattle.hprof_weak.specs.declared.strengths.Strength.{Strength}
use Rattle.hprof_weak.specs.Links.{Leads}
use Rattle.hprof_weak.specs.Strengths.{IsStrength}
use Rattle.hprof_weak.specs.Weak.{IsCleared, IsClearing}

module _ (facts : List FactValue) where
  pub zero_not_cleared : IsCleared facts 0 → ⊥
  zero_not_cleared is = go is.dumps is.chain where
    go : (dumps : List ClassValue) → IsChain facts 0 dumps is.superclass → ⊥
    go [] end = is.not_zero (sym end)
    go (dump ∷ dumps) chain = chain.0 refl

  module _ (each : OneDumpEach facts) (dump : ClassValue) (has : HasDump facts dump) (not_zero : dump.id ≢ 0) where
    pub cleared_by : IsCleared facts dump.id → IsClearing facts dump.id ⊎ IsCleared facts dump.parent
    cleared_by is = go is.dumps is.chain where
      go : (dumps : List ClassValue) → IsChain facts dump.id dumps is.superclass → IsClearing facts dump.id ⊎ IsCleared facts dump.parent
      go [] end = inl (subst (IsClearing facts) (sym end) is.clearing)
      go (other ∷ dumps) chain =
          let same : other ≡ dump = each other dump chain.2 has chain.1 in
          inr (record {
            dumps = dumps;
            superclass = is.superclass;
            chain = subst (λ (d : ClassValue). IsChain facts d.parent dumps is.superclass) same chain.3;
            not_zero = is.not_zero;
            clearing = is.clearing;
          })

    pub cleared_itself : IsClearing facts dump.id → IsCleared facts dump.id
    cleared_itself clearing = record {
      dumps = [];
      superclass = dump.id;
      chain = refl;
      not_zero = not_zero;
      clearing = clearing;
    }

    pub cleared_above : IsCleared facts dump.parent → IsCleared facts dump.id
    cleared_above is = record {
      dumps = dump ∷ is.dumps;
      superclass = is.superclass;
      chain = (not_zero, refl, has, is.chain);
      not_zero = is.not_zero;
      clearing = is.clearing;
    }

    -- so it is with a class, where it is so with its superclass
    pub strength_below : (nexts longer : List (Option Link)) (above : Strength) → IsStrength facts nexts above → dump.parent ≡ above.class
        → (is_cleared : Bool) (first : Option Link)
        → ((slots : List Slot) → Leads facts nexts above.first slots → Leads facts longer first (own_slots dump ++ slots))
        → IsTrue is_cleared ↔ (IsClearing facts dump.id ⊎ IsTrue above.is_cleared)
        → IsStrength facts longer (record { class = dump.id; is_cleared = is_cleared; first = first })
    strength_below nexts longer above is parent is_cleared first leads cleared = record {
      slots = own_slots dump ++ is.slots;
      known = known_below facts dump is.slots not_zero has (subst (λ (c : ℕ). IsKnown facts c is.slots) (sym parent) is.known);
      leads = leads is.slots is.leads;
      cleared = (
        λ on. elim (cleared.0 on) [
          | inl clearing ↦ cleared_itself clearing
          | inr was ↦ cleared_above (subst (IsCleared facts) (sym parent) (is.cleared.0 was))
        ],
        λ now. elim (cleared_by now) [
          | inl clearing ↦ cleared.1 (inl clearing)
          | inr was ↦ cleared.1 (inr (is.cleared.1 (subst (IsCleared facts) parent was)))
        ],
      );
    }
