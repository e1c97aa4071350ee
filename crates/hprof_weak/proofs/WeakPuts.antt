-- Weak fields that are put into a table, class by class, and instance by instance.
use Rattle.std.specs.Prelude.{slice_get, Contains}
use Rattle.std.proofs.lemmas.Bool.{cases_eq}
use Rattle.std.proofs.Common.{◌≡◌, ℕ, ◌≤◌, Bool, true, false, List, [], ◌∷◌, length, Option, Some, None}
use Rattle.std.proofs.Common.{refl, sym, ap, subst, ◌∙◌, inl, inr, arith}
use Rattle.hprof_values.specs.declared.ids.IdSize.{IdSize}
use Rattle.hprof_items.specs.FactValue.{FactValue, Instance}
use Rattle.hprof_rows.specs.Conflict.{IsConsistent}
use Rattle.hprof_heap.proofs.ClassFacts.{one_dump_each}
use Rattle.hprof_layouts.specs.declared.slot.Slot.{Slot}
use Rattle.hprof_layouts.specs.Fields.{width_of_slots}
use Rattle.hprof_layouts.specs.Layout.{IsKnown}
use Rattle.hprof_layouts.specs.WaitingLists.{put}
use Rattle.hprof_layouts.proofs.Maps.{get-empty}
use Rattle.hprof_layouts.proofs.Outlines.{no_elements, one_known}
use Rattle.hprof_layouts.proofs.Places.{width-cons, width_some}
use Rattle.hprof_layouts.proofs.ReferenceSets.{nothing_there}
use Rattle.hprof_layouts.proofs.Wakings.{put-here, put-other}
use Rattle.hprof_edges.specs.declared.field_place.FieldPlace.{FieldPlace}
use Rattle.hprof_weak.specs.declared.links.Link.{Link}
use Rattle.hprof_weak.specs.declared.weak_classes.WeakClasses.{WeakClasses}
use Rattle.hprof_weak.specs.Links.{PushesReferents, nexts_in}
use Rattle.hprof_weak.specs.Rows.{ArePut, AreWeakRows, IsPut}
use Rattle.hprof_weak.specs.Weak.{IsCleared, IsWeakField}
use Rattle.hprof_weak.specs.WeakClasses.{AreWeakClasses, IsFirstWeak, first_of}

-- ---- one class

module _ (facts : List FactValue) (agree : IsConsistent facts) (class room : ℕ) (first : Link) (classes : WeakClasses)
    (fields more : List FieldPlace) (were : ArePut facts classes fields) (is : IsFirstWeak facts (nexts_in classes.links) class first) where
  -- what was pushed is weak
  only_weak : (all : Bool) → PushesReferents facts class is.slots room all fields more → (field : FieldPlace) → Contains more field
      → IsWeakField facts field
  only_weak all pushes field has = elim (pushes.only field has) [
    | inl was ↦ were.only field was
    | inr new ↦ record {
      slots = is.slots;
      known = subst (λ (c : ℕ). IsKnown facts c is.slots) (sym new.of_class) is.known;
      slot = new.slot;
      there = new.there;
      referent = new.referent;
      cleared = subst (IsCleared facts) (sym new.of_class) is.cleared;
    }
  ]

  same_slots : (other : ℕ) (slots : List Slot) → IsKnown facts other slots → other ≡ class → slots ≡ is.slots
  same_slots other slots known same =
      one_known facts (one_dump_each facts agree) class slots is.slots (subst (λ (c : ℕ). IsKnown facts c slots) same known) is.known

  -- all were pushed, and the class was taken out
  pub puts_all : (others : WeakClasses) → nexts_in others.links ≡ nexts_in classes.links
      → first_of others ≡ put (first_of classes) class None → PushesReferents facts class is.slots room true fields more
      → IsPut facts class room others fields more
  puts_all others links_are out pushes = record {
    put = record {
      right = λ other link e. elim (cases_eq other class) [
        | inl same ↦ let none : first_of others other ≡ None = at other ∙ put-here (first_of classes) class None other same in absurd cc
        | inr apart ↦ subst (λ (l : List (Option Link)). IsFirstWeak facts l other link) (sym links_are)
            (were.right other link (sym (at other ∙ put-other (first_of classes) class None other apart) ∙ e))
      ];
      only = only_weak true pushes;
      all = λ field weak none. elim (cases_eq field.class class) [
        | inl same ↦ every field weak same
        | inr apart ↦ pushes.keeps field
            (were.all field weak (sym (at field.class ∙ put-other (first_of classes) class None field.class apart) ∙ none))
      ];
    };
    keeps = pushes.keeps;
    within = λ slots known le field same weak. every field weak same;
  } where
    at : (other : ℕ) → first_of others other ≡ put (first_of classes) class None other
    at other = ap (λ (f : ℕ → Option Link). f other) out

    every : (field : FieldPlace) → IsWeakField facts field → field.class ≡ class → Contains more field
    every field weak same = pushes.every refl field (record {
      of_class = same;
      slot = weak.slot;
      there = subst (λ (l : List Slot). slice_get l field.place ≡ Some weak.slot) (same_slots field.class weak.slots weak.known same)
          weak.there;
      referent = weak.referent;
    })

  -- there was no room for all
  pub puts_some : PushesReferents facts class is.slots room false fields more → IsPut facts class room classes fields more
  puts_some pushes = record {
    put = record {
      right = were.right;
      only = only_weak false pushes;
      all = λ field weak none. pushes.keeps field (were.all field weak none);
    };
    keeps = pushes.keeps;
    within = λ slots known le field same weak.
        let slots_are = ap (λ (l : List Slot). length l) (same_slots class slots known refl) in
        let short = pushes.short refl in
        absurd (omega (arith, slots_are, short, le));
  }

-- ---- no class yet

-- nothing was put yet
pub put_of_none : (facts : List FactValue) (classes : WeakClasses) (fields : List FieldPlace) → fields ≡ []
    → AreWeakClasses facts classes → ArePut facts classes fields
put_of_none facts classes fields none are = record {
  right = are.right;
  only = λ field has. absurd (nothing_there field (subst (λ (l : List FieldPlace). Contains l field) none has));
  all = λ field weak out. absurd (are.all field weak out);
}

-- what an instance says
abbrev pub class_in : FactValue → ℕ
class_in (Instance object trace class bytes) = class
class_in fact = 0

-- ---- all classes

-- a field has one byte at least
pub no_more_than_bytes : (ids : IdSize) (slots : List Slot) → length slots ≤ width_of_slots ids slots
no_more_than_bytes ids [] = omega arith
no_more_than_bytes ids (slot ∷ slots) =
    let rest = no_more_than_bytes ids slots in
    let one = width_some ids slot.basic in
    let both = width-cons ids slot slots in
    omega (arith, rest, one, both)

-- all weak fields of all classes were put
pub rows_when_all_put : (ids : IdSize) (facts : List FactValue) (classes : WeakClasses) (fields : List FieldPlace)
    → ArePut facts classes fields → length classes.firsts.entries ≡ 0 → AreWeakRows ids facts fields
rows_when_all_put ids facts classes fields put empty = record {
  only = put.only;
  all = λ object class bytes slots instance known fills field of_class weak.
      put.all field weak (get-empty classes.firsts field.class (no_elements classes.firsts.entries empty));
}
