-- Referents of a layout that are put into a table, one behind the other.
use Rattle.std.specs.Prelude.{slice_get, Contains}
use Rattle.std.proofs.lemmas.List.Elements.{Contains-append_left, Contains-push, Contains-push_cases}
use Rattle.std.proofs.Common.{◌≡◌, ◌⊎◌, ℕ, zero, suc, ◌+◌, ◌^◌, ◌<◌, ◌≤◌, min, true, false, List, [], ◌∷◌, ◌++◌, length, Option, Some}
use Rattle.std.proofs.Common.{None, refl, sym, ap, subst, ◌∙◌, inl, inr, arith, append_assoc, length-append}
use Rattle.hprof_items.specs.FactValue.{FactValue}
use Rattle.hprof_layouts.specs.declared.slot.Slot.{Slot}
use Rattle.hprof_layouts.specs.Plan.{most}
use Rattle.hprof_edges.specs.declared.field_place.FieldPlace.{FieldPlace}
use Rattle.hprof_weak.specs.declared.links.Link.{Link}
use Rattle.hprof_weak.specs.Links.{IsReferentOf, Leads, NoMore, NoReferent, OneMore, PushesReferents}
use Rattle.hprof_weak.specs.Weak.{IsReferent}
use Rattle.hprof_weak.proofs.LinkLists.{leads_nowhere, none_at}
use Rattle.hprof_weak.proofs.SlotPlaces.{at_seam, in_either}

module _ (facts : List FactValue) (nexts : List (Option Link)) (class : ℕ) (slots : List Slot) (old : List FieldPlace) where
  -- the referents before that place were put
  pub record PutBefore (fields : List FieldPlace) (done : List Slot) : Type 0 where
    pub keeps : (field : FieldPlace) → Contains old field → Contains fields field
    pub only : (field : FieldPlace) → Contains fields field → Contains old field ⊎ IsReferentOf facts class slots field
    pub every : (place : ℕ) (slot : Slot) → slice_get done place ≡ Some slot → IsReferent facts slot
        → Contains fields (record { class = class; place = place })

  -- the next stands at that place, with that link
  pub record Pushing (fields : List FieldPlace) (place number : ℕ) : Type 0 where
    pub done : List Slot
    pub slot : Slot
    pub rest : List Slot
    pub next : Option Link
    pub slots_are : slots ≡ done ++ slot ∷ rest
    pub place_is : place ≡ min (length done) most
    pub referent : IsReferent facts slot
    pub there : slice_get nexts number ≡ Some next
    pub leads : Leads facts nexts next rest
    pub put : PutBefore fields done

  pub pushing_begins : (first : Link) → Leads facts nexts (Some first) slots → Pushing old first.before first.number
  pushing_begins first leads = go (Some first) slots leads first refl refl where
    go : (o : Option Link) (l : List Slot) → Leads facts nexts o l → (link : Link) → o ≡ Some link → l ≡ slots
        → Pushing old link.before link.number
    go _ _ (NoMore l none) link e same = absurd cc
    go _ _ (OneMore from l front slot rest next parts before none is there leads) link e same =
        let link_is : from ≡ link = cc in
        subst (λ (k : Link). Pushing old k.before k.number) link_is (record {
          done = front;
          slot = slot;
          rest = rest;
          next = next;
          slots_are = sym same ∙ parts;
          place_is = before;
          referent = is;
          there = there;
          leads = leads;
          put = record {
            keeps = λ field has. has;
            only = λ field has. inl has;
            every = λ place other at referent. absurd (none_at facts front place other none at referent);
          };
        })

  module _ (fields : List FieldPlace) (place number room : ℕ) (pushing : Pushing fields place number) where
    -- no more are below
    pub pushing_stops : room ≤ place → PushesReferents facts class slots room false old fields
    pushing_stops late =
        let counted = ap length pushing.slots_are ∙ length-append pushing.done (pushing.slot ∷ pushing.rest) in
        let place_is = pushing.place_is in
        record {
          keeps = pushing.put.keeps;
          only = pushing.put.only;
          every = λ on. absurd cc;
          short = λ off. omega (arith, counted, place_is, late);
        }

    module _ (below : place < room) (small : room < 2 ^ 64) where
      place_exact : place ≡ length pushing.done
      place_exact = let place_is = pushing.place_is in omega (arith, place_is, below, small)

      abbrev more : List FieldPlace
      more = fields ++ record { class = class; place = place } ∷ []

      here : IsReferentOf facts class slots (record { class = class; place = place })
      here = record {
        of_class = refl;
        slot = pushing.slot;
        there = subst (λ (n : ℕ). slice_get slots n ≡ Some pushing.slot) (sym place_exact)
            (subst (λ (l : List Slot). slice_get l (length pushing.done) ≡ Some pushing.slot) (sym pushing.slots_are)
            (at_seam pushing.done pushing.slot pushing.rest));
        referent = pushing.referent;
      }

      -- that one was put, and none stands between it and the next
      pub put_more : (front : List Slot) → NoReferent facts front → PutBefore more (pushing.done ++ pushing.slot ∷ front)
      put_more front none = record {
        keeps = λ field has. Contains-append_left fields _ field (pushing.put.keeps field has);
        only = λ field has. elim (Contains-push_cases fields (record { class = class; place = place }) field has) [
          | inl was ↦ pushing.put.only field was
          | inr same ↦ inr (subst (IsReferentOf facts class slots) same here)
        ];
        every = λ at other there referent. elim (in_either pushing.done (pushing.slot ∷ front) at other there) [
          | inl before ↦ Contains-append_left fields _ _ (pushing.put.every at other before referent)
          | inr behind ↦ past at other referent behind.behind behind.place_is behind.there
        ];
      } where
        past : (at : ℕ) (other : Slot) → IsReferent facts other → (behind : ℕ) → at ≡ length pushing.done + behind
            → slice_get (pushing.slot ∷ front) behind ≡ Some other → Contains more (record { class = class; place = at })
        past at other referent zero e there =
            let same : place ≡ at = let exact = place_exact in omega (arith, exact, e) in
            subst (λ (n : ℕ). Contains more (record { class = class; place = n })) same
            (Contains-push fields (record { class = class; place = place }))
        past at other referent (suc behind) e there = absurd (none_at facts front behind other none there referent)

      -- it was the last
      pub pushing_ends : pushing.next ≡ None → PushesReferents facts class slots room true old more
      pushing_ends last =
          let none = leads_nowhere facts nexts pushing.rest
          (subst (λ (o : Option Link). Leads facts nexts o pushing.rest) last pushing.leads) in
          let all = put_more pushing.rest none in
          record {
            keeps = all.keeps;
            only = all.only;
            every = λ on field is.
                subst (λ (n : ℕ). Contains more (record { class = n; place = field.place })) (sym is.of_class)
                (all.every field.place is.slot
                (subst (λ (l : List Slot). slice_get l field.place ≡ Some is.slot) pushing.slots_are is.there) is.referent);
            short = λ off. absurd cc;
          }

      -- and on to the next
      pub pushing_on : (link : Link) → pushing.next ≡ Some link
          → Pushing more (min (min (place + 1) most + link.before) most) link.number
      pushing_on link next = go pushing.next pushing.rest pushing.leads next refl where
        go : (o : Option Link) (l : List Slot) → Leads facts nexts o l → o ≡ Some link → l ≡ pushing.rest
            → Pushing more (min (min (place + 1) most + link.before) most) link.number
        go _ _ (NoMore l none) e same = absurd cc
        go _ _ (OneMore from l front slot rest after parts before none is there leads) e same =
            let link_is : from ≡ link = cc in
            let counted = length-append pushing.done (pushing.slot ∷ front) in
            let exact = place_exact in
            let rest_is : pushing.rest ≡ front ++ slot ∷ rest = sym same ∙ parts in
            subst (λ (k : Link). Pushing more (min (min (place + 1) most + k.before) most) k.number) link_is (record {
              done = pushing.done ++ pushing.slot ∷ front;
              slot = slot;
              rest = rest;
              next = after;
              slots_are = pushing.slots_are ∙ ap (λ (l : List Slot). pushing.done ++ pushing.slot ∷ l) rest_is
                  ∙ sym (append_assoc pushing.done (pushing.slot ∷ front) (slot ∷ rest));
              place_is = omega (arith, before, counted, exact, below, small);
              referent = is;
              there = there;
              leads = leads;
              put = put_more front none;
            })

-- what is not found is none
pub no_next : (found next : Option Link) → found ≡ next → ((link : Link) → found ≡ Some link → ⊥) → next ≡ None
no_next found None e none = refl
no_next found (Some link) e none = absurd (none link e)
