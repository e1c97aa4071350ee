-- The first weak field of each class, as far as classes were gone over.
use Rattle.std.specs.Prelude.{slice_get, Contains}
use Rattle.std.proofs.lemmas.Bool.{cases_eq}
use Rattle.std.proofs.lemmas.List.Elements.{Contains-push_cases}
use Rattle.std.proofs.Common.{◌≡◌, ℕ, Bool, true, false, List, [], ◌∷◌, ◌++◌, Option, Some, None}
use Rattle.std.proofs.Common.{refl, sym, ap, subst, ◌∙◌, inl, inr}
use Rattle.hprof_items.specs.FactValue.{FactValue}
use Rattle.hprof_heap.proofs.ClassFacts.{OneDumpEach}
use Rattle.hprof_layouts.specs.declared.slot.Slot.{Slot}
use Rattle.hprof_layouts.specs.Layout.{IsKnown}
use Rattle.hprof_layouts.specs.WaitingLists.{put}
use Rattle.hprof_layouts.proofs.Outlines.{one_known}
use Rattle.hprof_layouts.proofs.ReferenceSets.{nothing_there}
use Rattle.hprof_layouts.proofs.Wakings.{put-here, put-other}
use Rattle.hprof_edges.specs.declared.field_place.FieldPlace.{FieldPlace}
use Rattle.hprof_weak.specs.declared.links.Link.{Link}
use Rattle.hprof_weak.specs.declared.strengths.Strength.{Strength}
use Rattle.hprof_weak.specs.declared.strengths.Strengths.{Strengths}
use Rattle.hprof_weak.specs.declared.weak_classes.WeakClasses.{WeakClasses}
use Rattle.hprof_weak.specs.Links.{Leads, nexts_in}
use Rattle.hprof_weak.specs.Strengths.{AreStrengths, IsStrength, strengths_in}
use Rattle.hprof_weak.specs.Weak.{IsCleared, IsWeakField}
use Rattle.hprof_weak.specs.WeakClasses.{AreWeakClasses, HasFirst, IsFirstWeak, PutsFirst, first_of}
use Rattle.hprof_weak.proofs.LinkLists.{leads_nowhere, none_at}
use Rattle.hprof_weak.proofs.Members.{from_map}

module _ (facts : List FactValue) (nexts : List (Option Link)) where
  -- the first weak fields of those classes
  pub record FirstsSoFar (taken : List Strength) (firsts : ℕ → Option Link) : Type 0 where
    pub right : (class : ℕ) (first : Link) → firsts class ≡ Some first → IsFirstWeak facts nexts class first
    pub all : (strength : Strength) → Contains taken strength → strength.is_cleared ≡ true → (first : Link)
        → strength.first ≡ Some first → firsts strength.class ≡ None → ⊥

  pub firsts_of_none : (firsts : ℕ → Option Link) → ((class : ℕ) → firsts class ≡ None) → FirstsSoFar [] firsts
  firsts_of_none firsts none = record {
    right = λ class first e. let is = none class in absurd cc;
    all = λ strength has. absurd (nothing_there strength has);
  }

  module _ (taken : List Strength) (firsts : ℕ → Option Link) (strength : Strength) (so_far : FirstsSoFar taken firsts) where
    -- a class that has no weak field
    firsts_of_same : ((first : Link) → HasFirst strength first → ⊥) → FirstsSoFar (taken ++ strength ∷ []) firsts
    firsts_of_same none = record {
      right = so_far.right;
      all = λ other has on first is. elim (Contains-push_cases taken strength other has) [
        | inl was ↦ so_far.all other was on first is
        | inr same ↦ λ e. none first
            (ap (λ (s : Strength). s.is_cleared) same ∙ on, ap (λ (s : Strength). s.first) same ∙ is)
      ];
    }

    -- a class that has one
    firsts_of_more : (others : ℕ → Option Link) (first : Link) → strength.is_cleared ≡ true → strength.first ≡ Some first
        → IsStrength facts nexts strength → others ≡ put firsts strength.class (Some first) → FirstsSoFar (taken ++ strength ∷ []) others
    firsts_of_more others first on is strong put_is = record {
      right = λ class link e. elim (cases_eq class strength.class) [
        | inl same ↦
            let here : others class ≡ Some first = at class ∙ put-here firsts strength.class (Some first) class same in
            let link_is : first ≡ link = cc in
            record {
              cleared = subst (λ (c : ℕ). IsCleared facts c) (sym same) (strong.cleared.0 on);
              slots = strong.slots;
              known = subst (λ (c : ℕ). IsKnown facts c strong.slots) (sym same) strong.known;
              leads = subst (λ (o : Option Link). Leads facts nexts o strong.slots) (is ∙ ap Some link_is) strong.leads;
            }
        | inr apart ↦
            so_far.right class link (sym (at class ∙ put-other firsts strength.class (Some first) class apart) ∙ e)
      ];
      all = λ other has cleared link other_is none. elim (cases_eq other.class strength.class) [
        | inl same ↦
            let here : others other.class ≡ Some first = at other.class ∙ put-here firsts strength.class (Some first) other.class same in
            absurd cc
        | inr apart ↦ elim (Contains-push_cases taken strength other has) [
          | inl was ↦ so_far.all other was cleared link other_is
              (sym (at other.class ∙ put-other firsts strength.class (Some first) other.class apart) ∙ none)
          | inr same ↦ apart (sym (ap (λ (s : Strength). s.class) same))
        ]
      ];
    } where
      at : (class : ℕ) → others class ≡ put firsts strength.class (Some first) class
      at class = ap (λ (f : ℕ → Option Link). f class) put_is

    -- either
    pub firsts_of_put : (others : ℕ → Option Link) → IsStrength facts nexts strength → PutsFirst strength firsts others
        → FirstsSoFar (taken ++ strength ∷ []) others
    firsts_of_put others strong puts = go strength.is_cleared strength.first refl refl where
      same : ((first : Link) → HasFirst strength first → ⊥) → FirstsSoFar (taken ++ strength ∷ []) others
      same none = subst (FirstsSoFar (taken ++ strength ∷ [])) (sym (puts.none none)) (firsts_of_same none)

      go : (on : Bool) (o : Option Link) → strength.is_cleared ≡ on → strength.first ≡ o → FirstsSoFar (taken ++ strength ∷ []) others
      go true (Some first) on is = firsts_of_more others first on is strong (puts.some first (on, is))
      go true None on is = same (λ first has. let some = has.1 in absurd cc)
      go false o on is = same (λ first has. let off = has.0 in absurd cc)

-- ---- all classes were gone over

module _ (facts : List FactValue) (each : OneDumpEach facts) (strengths : Strengths) (are : AreStrengths facts strengths)
    (classes : WeakClasses) (links_are : nexts_in classes.links ≡ nexts_in strengths.links)
    (so_far : FirstsSoFar facts (nexts_in strengths.links) (strengths_in strengths) (first_of classes)) where
  found_first : (field : FieldPlace) (weak : IsWeakField facts field) (strength : Strength) → Contains (strengths_in strengths) strength
      → strength.class ≡ field.class → IsStrength facts (nexts_in strengths.links) strength → first_of classes field.class ≡ None → ⊥
  found_first field weak strength has of_class strong none = go strength.first refl strong.leads where
    slots_are : weak.slots ≡ strong.slots
    slots_are =
        one_known facts each field.class weak.slots strong.slots weak.known
        (subst (λ (c : ℕ). IsKnown facts c strong.slots) of_class strong.known)

    on : strength.is_cleared ≡ true
    on = strong.cleared.1 (subst (λ (c : ℕ). IsCleared facts c) (sym of_class) weak.cleared)

    go : (o : Option Link) → strength.first ≡ o → Leads facts (nexts_in strengths.links) o strong.slots → ⊥
    go None e leads =
        none_at facts strong.slots field.place weak.slot (leads_nowhere facts (nexts_in strengths.links) strong.slots leads)
        (subst (λ (l : List Slot). slice_get l field.place ≡ Some weak.slot) slots_are weak.there) weak.referent
    go (Some first) e leads = so_far.all strength has on first e (ap (first_of classes) of_class ∙ none)

  pub weak_of_all : AreWeakClasses facts classes
  weak_of_all = record {
    right = λ class first e.
        subst (λ (l : List (Option Link)). IsFirstWeak facts l class first) (sym links_are) (so_far.right class first e);
    all = λ field weak none.
        let at = from_map (λ (s : Strength). s.class) (strengths_in strengths) field.class (are.all field.class weak.slots weak.known) in
        found_first field weak at.0 at.1 at.2 (are.right at.0 at.1) none;
  }
