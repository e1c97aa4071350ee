-- Links that lead from one referent to the next.
use Rattle.std.specs.Prelude.{option_map, slice_get, MatchOption}
use Rattle.std.proofs.Common.{◌≡◌, ℕ, zero, suc, Bool, true, false, List, [], ◌∷◌, ◌++◌, length, Option}
use Rattle.std.proofs.Common.{Some, None, refl, sym, ap, subst, ◌∙◌, arith, append_assoc}
use Rattle.hprof_items.specs.FactValue.{FactValue}
use Rattle.hprof_layouts.specs.declared.slot.Slot.{Slot}
use Rattle.hprof_weak.specs.declared.links.Link.{Link}
use Rattle.hprof_weak.specs.Links.{AreFlags, Extends, Leads, NoMore, NoReferent, OneMore, link_behind}
use Rattle.hprof_weak.specs.Weak.{IsReferent}
use Rattle.hprof_weak.proofs.FlagLists.{FlagsEnd, flags_end}
use Rattle.hprof_weak.proofs.SlotPlaces.{at_front, at_seam}

-- ---- more links

pub extends_itself : (nexts : List (Option Link)) → nexts ≡ nexts ++ [] → Extends nexts nexts
extends_itself nexts e = record { more = []; longer_is = e }

pub extends_more : (nexts longer : List (Option Link)) (next : Option Link) → Extends nexts longer → Extends nexts (longer ++ next ∷ [])
extends_more nexts longer next extends = record {
  more = extends.more ++ next ∷ [];
  longer_is = ap (λ (l : List (Option Link)). l ++ next ∷ []) extends.longer_is ∙ append_assoc nexts extends.more (next ∷ []);
}

module _ (facts : List FactValue) where
  pub leads_more : (nexts longer : List (Option Link)) → Extends nexts longer → (first : Option Link) (slots : List Slot)
      → Leads facts nexts first slots → Leads facts longer first slots
  leads_more nexts longer extends _ _ (NoMore slots none) = NoMore slots none
  leads_more nexts longer extends _ _ (OneMore link slots front slot rest next parts before none is there leads) =
      OneMore link slots front slot rest next parts before none is
      (subst (λ (l : List (Option Link)). slice_get l link.number ≡ Some next) (sym extends.longer_is)
      (at_front nexts extends.more link.number next there))
      (leads_more nexts longer extends next rest leads)

  module _ (nexts : List (Option Link)) where
    -- one field more, which is no referent
    pub leads_behind : (slot : Slot) → ¬ IsReferent facts slot → (first : Option Link) (slots : List Slot)
        → Leads facts nexts first slots → Leads facts nexts (option_map link_behind first) (slot ∷ slots)
    leads_behind other not _ _ (NoMore slots none) = NoMore (other ∷ slots) (not, none)
    leads_behind other not _ _ (OneMore link slots front slot rest next parts before none is there leads) =
        OneMore (link_behind link) (other ∷ slots) (other ∷ front) slot rest next (ap (λ (l : List Slot). other ∷ l) parts)
        (omega (arith, before)) (not, none) is there leads

    -- one field more, which is a referent
    pub leads_to : (slot : Slot) → IsReferent facts slot → (first : Option Link) (slots : List Slot) → Leads facts nexts first slots
        → Leads facts (nexts ++ first ∷ []) (Some (record { before = 0; number = length nexts })) (slot ∷ slots)
    leads_to slot is first slots leads =
        OneMore (record { before = 0; number = length nexts }) (slot ∷ slots) [] slot slots first refl refl tt is
        (at_seam nexts first []) (leads_more nexts (nexts ++ first ∷ []) (record { more = first ∷ []; longer_is = refl }) first slots leads)

    pub leads_nowhere : (slots : List Slot) → Leads facts nexts None slots → NoReferent facts slots
    leads_nowhere _ (NoMore slots none) = none

  pub none_at : (slots : List Slot) (place : ℕ) (slot : Slot) → NoReferent facts slots → slice_get slots place ≡ Some slot
      → IsReferent facts slot → ⊥
  none_at [] place slot none e is = absurd cc
  none_at (first ∷ slots) zero slot none e is = let same : first ≡ slot = cc in none.0 (subst (IsReferent facts) (sym same) is)
  none_at (first ∷ slots) (suc place) slot none e is = none_at slots place slot none.1 e is

  -- ---- the own fields of a class, from the last to the first

  -- some of the own fields are left, and the links lead through the others
  pub record LeadsBehind (nexts : List (Option Link)) (flags : List Bool) (own slots : List Slot) (first : Option Link) : Type 0 where
    pub front : List Slot
    pub back : List Slot
    pub own_are : own ≡ front ++ back
    pub flags_are : AreFlags facts flags front
    pub leads : Leads facts nexts first (back ++ slots)

  module _ (nexts : List (Option Link)) (flags rest : List Bool) (flag : Bool) (own slots : List Slot) (first : Option Link)
      (was : LeadsBehind nexts flags own slots first) (next : flags ≡ rest ++ flag ∷ []) where
    last : FlagsEnd facts rest flag was.front
    last = flags_end facts rest flag was.front (subst (λ (l : List Bool). AreFlags facts l was.front) next was.flags_are)

    parts_are : own ≡ last.front ++ last.slot ∷ was.back
    parts_are =
        was.own_are ∙ ap (λ (l : List Slot). l ++ was.back) last.slots_are ∙ append_assoc last.front (last.slot ∷ []) was.back

    pub behind_referent : flag ≡ true
        → LeadsBehind (nexts ++ first ∷ []) rest own slots (Some (record { before = 0; number = length nexts }))
    behind_referent on = record {
      front = last.front;
      back = last.slot ∷ was.back;
      own_are = parts_are;
      flags_are = last.flags_are;
      leads = leads_to nexts last.slot (last.is.0 on) first (was.back ++ slots) was.leads;
    }

    pub behind_other : flag ≡ false → LeadsBehind nexts rest own slots (option_map link_behind first)
    behind_other off = record {
      front = last.front;
      back = last.slot ∷ was.back;
      own_are = parts_are;
      flags_are = last.flags_are;
      leads = leads_behind nexts last.slot (λ is. let on = last.is.1 is in absurd cc) first (was.back ++ slots) was.leads;
    }

  pub all_behind : (nexts : List (Option Link)) (flags : List Bool) (own slots : List Slot) (first : Option Link) → flags ≡ []
      → LeadsBehind nexts flags own slots first → Leads facts nexts first (own ++ slots)
  all_behind nexts flags own slots first none was =
      let front_is = no_front was.front (subst (λ (l : List Bool). AreFlags facts l was.front) none was.flags_are) in
      let same : own ≡ was.back = was.own_are ∙ ap (λ (l : List Slot). l ++ was.back) front_is in
      subst (λ (l : List Slot). Leads facts nexts first (l ++ slots)) (sym same) was.leads where
        no_front : (front : List Slot) → AreFlags facts [] front → front ≡ []
        no_front [] are = refl
        no_front (slot ∷ front) are = absurd are

-- what holds where nothing came out of a list
pub nothing_popped : (flag : Option Bool) (P : Type 0) (Q : Bool → Type 0) → MatchOption flag P Q → ((there : Bool) → flag ≡ Some there → ⊥)
    → P
nothing_popped None P Q is none = is
nothing_popped (Some there) P Q is none = absurd (none there refl)
