-- Classes that are added, each behind its superclass.
use Rattle.std.specs.Prelude.{◌≢◌, slice_get, map, option_map, Contains}
use Rattle.std.proofs.Math.Path.{fun_ext}
use Rattle.std.proofs.lemmas.Bool.{cases_eq}
use Rattle.std.proofs.lemmas.List.{map-append}
use Rattle.std.proofs.lemmas.List.Elements.{Contains-append_left, Contains-push, Contains-push_cases}
use Rattle.std.proofs.lemmas.Option.{slice_get-map, slice_get_within}
use Rattle.std.proofs.Common.{◌≡◌, ◌⊎◌, ℕ, ◌+◌, ◌≤◌, List, [], ◌∷◌, ◌++◌, length, drop, Option, Some, add-one}
use Rattle.std.proofs.Common.{refl, sym, ap, subst, ◌∙◌, inl, inr, arith}
use Rattle.hprof_items.specs.FactValue.{FactValue}
use Rattle.hprof_heap.specs.Classes.{ClassValue}
use Rattle.hprof_layouts.specs.Chain.{IsChain}
use Rattle.hprof_layouts.specs.WaitingLists.{put}
use Rattle.hprof_layouts.proofs.Outlines.{known_zero}
use Rattle.hprof_layouts.proofs.ReferenceSets.{nothing_there, one_there}
use Rattle.hprof_layouts.proofs.Wakings.{put-here, put-other}
use Rattle.hprof_weak.specs.declared.links.Link.{Link}
use Rattle.hprof_weak.specs.declared.strengths.Strength.{Strength}
use Rattle.hprof_weak.specs.declared.strengths.Strengths.{Strengths}
use Rattle.hprof_weak.specs.Links.{NoMore, nexts_in}
use Rattle.hprof_weak.specs.Strengths.{AddsClass, AreStrengths, IsStanding, IsStrength, IsSubclass, class_zero, classes_in, strengths_in}
use Rattle.hprof_weak.proofs.Clearings.{zero_not_cleared}
use Rattle.hprof_weak.proofs.LinkLists.{leads_more}
use Rattle.hprof_weak.proofs.Members.{drop_at, drop_front, front_or_later, front_there, later_there, there_at}
use Rattle.hprof_weak.proofs.SlotPlaces.{at_front}
use Rattle.hprof_weak.proofs.SubclassLists.{AreSubclasses}

-- ---- at first

module _ (facts : List FactValue) where
  zero_right : (nexts : List (Option Link)) → IsStrength facts nexts class_zero
  zero_right nexts = record {
    slots = [];
    known = known_zero facts;
    leads = NoMore [] tt;
    cleared = (λ on. absurd cc, λ is. absurd (zero_not_cleared facts is));
  }

  pub stands_begin : (strengths : Strengths) (waits : ℕ → List ℕ) → strengths_in strengths ≡ class_zero ∷ [] → AreSubclasses facts waits
      → IsStanding facts strengths waits 0
  stands_begin strengths waits is are =
      let classes_are : classes_in strengths ≡ 0 ∷ [] = ap (map (λ (s : Strength). s.class)) is in
      record {
        right = λ strength has. subst (IsStrength facts (nexts_in strengths.links))
            (one_there class_zero strength (subst (λ (l : List Strength). Contains l strength) is has))
            (zero_right (nexts_in strengths.links));
        zero = subst (λ (l : List ℕ). Contains l 0) (sym classes_are) (front_there 0 []);
        subclasses = λ superclass class there. (are superclass class).0 there;
        all = λ dump has not_zero. inr ((are dump.parent dump.id).1
            (record { dump = dump; has = has; id = refl; parent = refl; not_zero = not_zero }));
        closed = λ superclass class there. elim (cases_eq superclass 0) [
          | inl same ↦ inl (subst (λ (l : List ℕ). Contains l superclass) (sym classes_are)
              (subst (λ (n : ℕ). Contains (0 ∷ []) n) (sym same) (front_there 0 [])))
          | inr apart ↦ inr (λ has. apart (sym (one_there 0 superclass (subst (λ (l : List ℕ). Contains l superclass) classes_are has))))
        ];
      }

  -- ---- the subclasses of a class, in hand

  -- the class stands at that place, and some of its subclasses are left
  pub record InHand (strengths : Strengths) (waits : ℕ → List ℕ) (place : ℕ) (above : Strength) (left : List ℕ) : Type 0 where
    pub stands : IsStanding facts strengths (put waits above.class left) place
    pub at : slice_get (strengths_in strengths) place ≡ Some above
    pub taken : waits above.class ≡ []

  pub put_back : (waits others : ℕ → List ℕ) (class : ℕ) → others ≡ put waits class [] → waits ≡ put others class (waits class)
  put_back waits others class e = fun_ext (λ at. elim (cases_eq at class) [
    | inl same ↦ ap waits same ∙ sym (put-here others class (waits class) at same)
    | inr apart ↦
        sym (put-other waits class [] at apart) ∙ sym (ap (λ (w : ℕ → List ℕ). w at) e)
        ∙ sym (put-other others class (waits class) at apart)
  ])

  pub hand_begins : (strengths : Strengths) (waits others : ℕ → List ℕ) (place : ℕ) (above : Strength) (list : List ℕ)
      → IsStanding facts strengths waits place → slice_get (strengths_in strengths) place ≡ Some above
      → others ≡ put waits above.class [] → list ≡ waits above.class → InHand strengths others place above list
  hand_begins strengths waits others place above list stands at e list_is = record {
    stands = subst (λ (w : ℕ → List ℕ). IsStanding facts strengths w place)
        (put_back waits others above.class e ∙ ap (λ (l : List ℕ). put others above.class l) (sym list_is)) stands;
    at = at;
    taken = ap (λ (w : ℕ → List ℕ). w above.class) e ∙ put-here waits above.class [] above.class refl;
  }

  module _ (old new : Strengths) (waits : ℕ → List ℕ) (place : ℕ) (above : Strength) (class : ℕ) (left later : List ℕ)
      (hand : InHand old waits place above left) (next : left ≡ class ∷ later) (adds : AddsClass facts old new class) where
    before : ℕ → List ℕ
    before = put waits above.class left

    after : ℕ → List ℕ
    after = put waits above.class later

    -- what waits afterwards waited before
    waited : (superclass other : ℕ) → Contains (put waits above.class later superclass) other
        → Contains (put waits above.class left superclass) other
    waited superclass other there = elim (cases_eq superclass above.class) [
      | inl same ↦
          subst (λ (l : List ℕ). Contains l other) (sym (put-here waits above.class left superclass same ∙ next))
          (later_there class later other
          (subst (λ (l : List ℕ). Contains l other) (put-here waits above.class later superclass same) there))
      | inr apart ↦
          subst (λ (l : List ℕ). Contains l other)
          (put-other waits above.class later superclass apart ∙ sym (put-other waits above.class left superclass apart)) there
    ]

    -- what waited waits, but for the class
    waits_or : (superclass other : ℕ) → Contains (put waits above.class left superclass) other
        → (class ≡ other) ⊎ Contains (put waits above.class later superclass) other
    waits_or superclass other there = elim (cases_eq superclass above.class) [
      | inl same ↦ elim (front_or_later class later other
          (subst (λ (l : List ℕ). Contains l other) (put-here waits above.class left superclass same ∙ next) there)) [
            | inl is ↦ inl is
            | inr more ↦ inr (subst (λ (l : List ℕ). Contains l other) (sym (put-here waits above.class later superclass same)) more)
          ]
      | inr apart ↦ inr (subst (λ (l : List ℕ). Contains l other)
          (put-other waits above.class left superclass apart ∙ sym (put-other waits above.class later superclass apart)) there)
    ]

    classes_are : classes_in new ≡ classes_in old ++ class ∷ []
    classes_are =
        ap (map (λ (s : Strength). s.class)) adds.strengths_are
        ∙ map-append (λ (s : Strength). s.class) (strengths_in old) (adds.strength ∷ [])
        ∙ ap (λ (n : ℕ). classes_in old ++ n ∷ []) adds.class_is

    was_there : (other : ℕ) → Contains (classes_in old) other → Contains (classes_in new) other
    was_there other has =
        subst (λ (l : List ℕ). Contains l other) (sym classes_are) (Contains-append_left (classes_in old) (class ∷ []) other has)

    is_there : Contains (classes_in new) class
    is_there = subst (λ (l : List ℕ). Contains l class) (sym classes_are) (Contains-push (classes_in old) class)

    within : place ≤ length (classes_in old)
    within =
        let at = slice_get-map (λ (s : Strength). s.class) (strengths_in old) place ∙ ap (option_map (λ (s : Strength). s.class)) hand.at in
        let lt = slice_get_within (classes_in old) place above.class at in
        omega (arith, lt)

    dropped : drop place (classes_in new) ≡ drop place (classes_in old) ++ class ∷ []
    dropped = ap (drop place) classes_are ∙ drop_front place (classes_in old) (class ∷ []) within

    right_more : (strength : Strength) → Contains (strengths_in new) strength → IsStrength facts (nexts_in new.links) strength
    right_more strength has = elim (Contains-push_cases (strengths_in old) adds.strength strength
        (subst (λ (l : List Strength). Contains l strength) adds.strengths_are has)) [
          | inl was ↦
              let is = hand.stands.right strength was in
              record {
                slots = is.slots;
                known = is.known;
                leads = leads_more facts (nexts_in old.links) (nexts_in new.links) adds.extends strength.first is.slots is.leads;
                cleared = is.cleared;
              }
          | inr same ↦ subst (IsStrength facts (nexts_in new.links)) same adds.right
        ]

    closed_more : (superclass other : ℕ) → Contains (put waits above.class later superclass) other
        → Contains (drop place (classes_in new)) superclass ⊎ (¬ Contains (classes_in new) superclass)
    closed_more superclass other there = elim (hand.stands.closed superclass other (waited superclass other there)) [
      | inl coming ↦ inl (subst (λ (l : List ℕ). Contains l superclass) (sym dropped)
          (Contains-append_left (drop place (classes_in old)) (class ∷ []) superclass coming))
      | inr not ↦ elim (cases_eq superclass class) [
        | inl same ↦ inl (subst (λ (l : List ℕ). Contains l superclass) (sym dropped)
            (subst (λ (n : ℕ). Contains (drop place (classes_in old) ++ class ∷ []) n) (sym same)
            (Contains-push (drop place (classes_in old)) class)))
        | inr apart ↦ inr (λ has. elim (Contains-push_cases (classes_in old) class superclass
            (subst (λ (l : List ℕ). Contains l superclass) classes_are has)) [
              | inl was ↦ not was
              | inr is ↦ apart (sym is)
            ])
      ]
    ]

    pub hand_more : InHand new waits place above later
    hand_more = record {
      stands = record {
        right = right_more;
        zero = was_there 0 hand.stands.zero;
        subclasses = λ superclass other there. hand.stands.subclasses superclass other (waited superclass other there);
        all = λ dump has not_zero. elim (hand.stands.all dump has not_zero) [
          | inl there ↦ inl (was_there dump.id there)
          | inr waiting ↦ elim (waits_or dump.parent dump.id waiting) [
            | inl same ↦ inl (subst (λ (n : ℕ). Contains (classes_in new) n) same is_there)
            | inr more ↦ inr more
          ]
        ];
        closed = closed_more;
      };
      at = subst (λ (l : List Strength). slice_get l place ≡ Some above) (sym adds.strengths_are)
          (at_front (strengths_in old) (adds.strength ∷ []) place above hand.at);
      taken = hand.taken;
    }

  -- what is known of the first that is left
  pub hand_first : (strengths : Strengths) (waits : ℕ → List ℕ) (place : ℕ) (above : Strength) (class : ℕ) (left later : List ℕ)
      → InHand strengths waits place above left → left ≡ class ∷ later → IsSubclass facts above.class class
  hand_first strengths waits place above class left later hand next =
      hand.stands.subclasses above.class class
      (subst (λ (l : List ℕ). Contains l class) (sym (put-here waits above.class left above.class refl ∙ next)) (front_there class later))

  pub hand_above : (strengths : Strengths) (waits : ℕ → List ℕ) (place : ℕ) (above : Strength) (left : List ℕ)
      → InHand strengths waits place above left → IsStrength facts (nexts_in strengths.links) above
  hand_above strengths waits place above left hand =
      hand.stands.right above (there_at (strengths_in strengths) place above hand.at)

  -- none is left
  pub hand_ends : (strengths : Strengths) (waits : ℕ → List ℕ) (place : ℕ) (above : Strength) (left : List ℕ) → left ≡ []
      → InHand strengths waits place above left → IsStanding facts strengths waits (place + 1)
  hand_ends strengths waits place above left none hand =
      let same : waits ≡ put waits above.class left = fun_ext (λ at. elim (cases_eq at above.class) [
        | inl here ↦ ap waits here ∙ hand.taken ∙ sym none ∙ sym (put-here waits above.class left at here)
        | inr apart ↦ sym (put-other waits above.class left at apart)
      ]) in
      let stands = subst (λ (w : ℕ → List ℕ). IsStanding facts strengths w place) (sym same) hand.stands in
      let classes = classes_in strengths in
      let at = slice_get-map (λ (s : Strength). s.class) (strengths_in strengths) place
      ∙ ap (option_map (λ (s : Strength). s.class)) hand.at in
      let cut : drop place classes ≡ above.class ∷ drop (place + 1) classes =
      drop_at classes place above.class at ∙ ap (λ (n : ℕ). above.class ∷ drop n classes) (sym (add-one place)) in
      record {
        right = stands.right;
        zero = stands.zero;
        subclasses = stands.subclasses;
        all = stands.all;
        closed = λ superclass class there. elim (stands.closed superclass class there) [
          | inr not ↦ inr not
          | inl coming ↦ elim (front_or_later above.class (drop (place + 1) classes) superclass
              (subst (λ (l : List ℕ). Contains l superclass) cut coming)) [
                | inr later ↦ inl later
                | inl same_class ↦ absurd (nothing_there class
                    (subst (λ (l : List ℕ). Contains l class) (ap waits (sym same_class) ∙ hand.taken) there))
              ]
        ];
      }

  -- ---- at last

  module _ (strengths : Strengths) (waits : ℕ → List ℕ) (place : ℕ) (stands : IsStanding facts strengths waits place)
      (last : drop place (classes_in strengths) ≡ []) where
    reached : (class : ℕ) (dumps : List ClassValue) → IsChain facts class dumps 0 → Contains (classes_in strengths) class
    reached class [] end = subst (λ (n : ℕ). Contains (classes_in strengths) n) (sym end) stands.zero
    reached class (dump ∷ dumps) chain =
        let above = reached dump.parent dumps chain.3 in
        let not_zero : dump.id ≢ 0 = λ e. chain.0 (sym chain.1 ∙ e) in
        elim (stands.all dump chain.2 not_zero) [
          | inl there ↦ subst (λ (n : ℕ). Contains (classes_in strengths) n) chain.1 there
          | inr waiting ↦ elim (stands.closed dump.parent dump.id waiting) [
            | inl coming ↦ absurd (nothing_there dump.parent (subst (λ (l : List ℕ). Contains l dump.parent) last coming))
            | inr not ↦ absurd (not above)
          ]
        ]

    pub stands_last : AreStrengths facts strengths
    stands_last = record { right = stands.right; all = λ class slots is. reached class is.dumps is.chain }
