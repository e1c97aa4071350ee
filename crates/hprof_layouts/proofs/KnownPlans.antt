-- What is known, told by what stands when no class is to be woken.
use Rattle.std.specs.Prelude.{◌≢◌, IsTrue, is_some}
use Rattle.std.specs.List.{IsDistinct}
use Rattle.std.proofs.Common.{◌≡◌, ℕ, ◌↔◌, Bool, true, false, List, [], ◌∷◌, ◌++◌, Contains, Option, Some, None, refl, sym, ap, subst, ◌∙◌}
use Rattle.std.proofs.Common.{inl, inr, arith}
use Rattle.std.proofs.lemmas.Bool.{cases_eq}
use Rattle.hprof_values.specs.declared.ids.IdSize.{IdSize}
use Rattle.hprof_items.specs.FactValue.{FactValue}
use Rattle.hprof_heap.specs.Classes.{ClassValue, HasDump}
use Rattle.hprof_layouts.specs.declared.slot.Slot.{Slot}
use Rattle.hprof_layouts.specs.Chain.{IsChain}
use Rattle.hprof_layouts.specs.Layout.{IsKnown, own_slots}
use Rattle.hprof_layouts.specs.declared.known.KnownLayouts.{KnownLayouts}
use Rattle.hprof_layouts.specs.declared.known.Waiting.{Waiting}
use Rattle.hprof_layouts.specs.declared.plan.Plan.{Plan}
use Rattle.hprof_layouts.specs.Known.{HasLayout, HasPlan, IsOnceEach, IsWaiting, Knows, Waits, plan_of, waiting_below}
use Rattle.hprof_layouts.specs.Waking.{IsPlanned, CanWake, PlansStand}
use Rattle.hprof_layouts.proofs.MoreDumps.{known_stays, plan_stays, waiting_stays}
use Rattle.hprof_layouts.proofs.ReferenceSets.{nothing_there}
use Rattle.hprof_layouts.proofs.Outlines.{one_known, known_zero, known_below}

-- there is a plan or none
pub data IsThere (found : Option Plan) : Type 0 where
  There : (plan : Plan) → found ≡ Some plan → IsThere found
  Nowhere : found ≡ None → IsThere found

pub look : (found : Option Plan) → IsThere found
look None = Nowhere refl
look (Some plan) = There plan refl

-- not both
pub not_both : (found : Option Plan) (plan : Plan) → found ≡ Some plan → found ≡ None → ⊥
not_both found plan e f = let clash : Some plan ≡ None = sym e ∙ f in cc

-- a plan that is found is the one
pub one_plan : (found : Option Plan) (plan other : Plan) → found ≡ Some plan → found ≡ Some other → plan ≡ other
one_plan found plan other e f = let same : Some plan ≡ Some other = sym e ∙ f in cc

-- ---- what stands

module _ (ids : IdSize) (facts : List FactValue) (plans : ℕ → Option Plan) (waits : ℕ → List Waiting)
    (stands : PlansStand ids facts plans waits []) where
  -- a class whose chain comes to 0 has a plan
  pub known_planned : (class : ℕ) (dumps : List ClassValue) → IsChain facts class dumps 0 → class ≢ 0 → IsPlanned plans class
  known_planned class [] chain not_zero = absurd (not_zero chain)
  known_planned class (dump ∷ dumps) chain not_zero =
      elim (stands.all dump chain.2 (λ e. not_zero (sym chain.1 ∙ e))) [
        | inl planned ↦ subst (IsPlanned plans) chain.1 planned
        | inr waiting ↦ elim (stands.closed dump.parent waiting.waiting waiting.there) [
          | inl pending ↦ absurd (let lt = pending.1 in omega arith)
          | inr off ↦
              let planned = known_planned dump.parent dumps chain.3 off.0 in
              absurd (not_both (plans dump.parent) planned.0 planned.1 off.1)
        ]
      ]

  -- the layout of each class that has a plan is known
  pub planned_known : (class : ℕ) (plan : Plan) → plans class ≡ Some plan → (class ≢ 0) × HasLayout facts class
  planned_known class plan e =
      let has = stands.plans_are class plan e in
      (has.1.is.not_zero, (has.0, has.1.is.known))

  -- the plan is of the slots
  pub planned_slots : (class : ℕ) (slots : List Slot) → class ≢ 0 → IsKnown facts class slots → HasPlan ids facts plans class slots
  planned_slots class slots not_zero known =
      let planned = known_planned class known.dumps known.chain not_zero in
      let has = stands.plans_are class planned.0 planned.1 in
      let same = one_known facts stands.each class has.0 slots has.1.is.known known in
      subst (HasPlan ids facts plans class) same has.1

  -- what waits has no known layout
  pub waits_unknown : (superclass : ℕ) (waiting : Waiting) → Contains (waits superclass) waiting → HasLayout facts waiting.class → ⊥
  waits_unknown superclass waiting there known =
      let no = stands.unplanned superclass waiting there in
      let planned = known_planned waiting.class known.1.dumps known.1.chain no.0 in
      not_both (plans waiting.class) planned.0 planned.1 no.1

  -- each class that has a dump and no known layout waits
  pub unknown_waits : (dump : ClassValue) → HasDump facts dump → (HasLayout facts dump.id → ⊥) → Waits waits dump
  unknown_waits dump has unknown =
      let not_zero : dump.id ≢ 0 = λ e. unknown (subst (HasLayout facts) (sym e) ([], known_zero facts)) in
      elim (stands.all dump has not_zero) [
        | inl planned ↦ absurd (unknown (planned_known dump.id planned.0 planned.1).1)
        | inr waiting ↦ waiting
      ]

pub standing_knows : (ids : IdSize) (facts : List FactValue) (known : KnownLayouts)
    → PlansStand ids facts (plan_of known) (waiting_below known) [] → Knows ids facts known
standing_knows ids facts known stands = record {
  each = stands.each;
  planned = planned_slots ids facts (plan_of known) (waiting_below known) stands;
  only = planned_known ids facts (plan_of known) (waiting_below known) stands;
  waits = λ superclass waiting there. (
    stands.waits_are superclass waiting there,
    waits_unknown ids facts (plan_of known) (waiting_below known) stands superclass waiting there,
  );
  all_wait = unknown_waits ids facts (plan_of known) (waiting_below known) stands;
  once = stands.once;
}

-- ---- what is known

module _ (ids : IdSize) (facts : List FactValue) (known : KnownLayouts) (knows : Knows ids facts known) where
  -- a class is ready when its layout is known
  pub known_ready : (class : ℕ) → HasLayout facts class → CanWake (plan_of known) class
  known_ready class layout = elim (cases_eq class 0) [
    | inl zero_is ↦ inl zero_is
    | inr other ↦ let has = knows.planned class layout.0 other layout.1 in inr (has.plan, has.found)
  ]

  pub ready_known : (class : ℕ) → CanWake (plan_of known) class → HasLayout facts class
  ready_known class (inl zero_is) = subst (HasLayout facts) (sym zero_is) ([], known_zero facts)
  ready_known class (inr planned) = (knows.only class planned.0 planned.1).1

  -- a class without a plan has no known layout
  pub unplanned_unknown : (class : ℕ) → plan_of known class ≡ None → class ≢ 0 → HasLayout facts class → ⊥
  unplanned_unknown class none not_zero layout =
      let has = knows.planned class layout.0 not_zero layout.1 in
      not_both (plan_of known class) has.plan has.found none

  unplanned_when : (class : ℕ) → (HasLayout facts class → ⊥) → plan_of known class ≡ None
  unplanned_when class unknown = elim (look (plan_of known class)) [
    | There plan e ↦ absurd (unknown (knows.only class plan e).1)
    | Nowhere e ↦ e
  ]

  -- a class below a known layout has one
  below_known : (superclass : ℕ) (waiting : Waiting) → IsWaiting ids facts superclass waiting → waiting.class ≢ 0
      → HasLayout facts superclass → HasLayout facts waiting.class
  below_known superclass waiting is not_zero layout =
      let above : IsKnown facts is.dump.parent layout.0 = subst (λ (c : ℕ). IsKnown facts c layout.0) (sym is.parent) layout.1 in
      let below = known_below facts is.dump layout.0 (λ e. not_zero (sym is.id ∙ e)) is.has above in
      (own_slots is.dump ++ layout.0, subst (λ (c : ℕ). IsKnown facts c (own_slots is.dump ++ layout.0)) is.id below)

  pub knows_standing : PlansStand ids facts (plan_of known) (waiting_below known) []
  knows_standing = record {
    each = knows.each;
    plans_are = λ class plan e.
        let only = knows.only class plan e in
        (only.1.0, knows.planned class only.1.0 only.0 only.1.1);
    waits_are = λ superclass waiting there. (knows.waits superclass waiting there).0;
    unplanned = λ superclass waiting there. (
      no_zero superclass waiting there,
      unplanned_when waiting.class (knows.waits superclass waiting there).1,
    );
    all = λ dump has not_zero. elim (look (plan_of known dump.id)) [
      | There plan e ↦ inl (plan, e)
      | Nowhere e ↦ inr (knows.all_wait dump has (λ layout.
          let found = knows.planned dump.id layout.0 not_zero layout.1 in
          not_both (plan_of known dump.id) found.plan found.found e))
    ];
    closed = λ superclass waiting there.
        let waits = knows.waits superclass waiting there in
        let unknown : HasLayout facts superclass → ⊥ = λ layout.
        waits.1 (below_known superclass waiting waits.0 (no_zero superclass waiting there) layout) in
        inr (λ e. unknown (subst (HasLayout facts) (sym e) ([], known_zero facts)), unplanned_when superclass unknown);
    once = knows.once;
  } where
    no_zero : (superclass : ℕ) (waiting : Waiting) → Contains (waiting_below known superclass) waiting → waiting.class ≢ 0
    no_zero superclass waiting there e =
        (knows.waits superclass waiting there).1 (subst (HasLayout facts) (sym e) ([], known_zero facts))

-- a class is ready where the map has a plan, or where it is 0
pub ready_by : (plans : ℕ → Option Plan) (class : ℕ) (t : Bool) → class ≢ 0 → t ≡ is_some (plans class) → IsTrue t ↔ CanWake plans class
ready_by plans class t not_zero e = (there, back) where
  there : IsTrue t → CanWake plans class
  there yes_it_is = elim (look (plans class)) [
    | There plan is ↦ inr (plan, is)
    | Nowhere is ↦ let clash : true ≡ false = sym yes_it_is ∙ e ∙ ap is_some is in absurd cc
  ]

  back : CanWake plans class → IsTrue t
  back (inl zero_is) = absurd (not_zero zero_is)
  back (inr planned) = e ∙ ap is_some planned.1

-- ---- no facts

-- a layout that is known over no facts is that of class 0
known_nowhere : (class : ℕ) (dumps : List ClassValue) → IsChain [] class dumps 0 → class ≡ 0
known_nowhere class [] chain = chain
known_nowhere class (dump ∷ dumps) chain = absurd chain.2

pub knows_nothing : (ids : IdSize) (known : KnownLayouts) → ((class : ℕ) → plan_of known class ≡ None)
    → ((superclass : ℕ) → waiting_below known superclass ≡ []) → Knows ids [] known
unfolding IsDistinct
knows_nothing ids known no_plans no_waits = record {
  each = λ one other has too same. absurd has;
  planned = λ class slots not_zero is. absurd (not_zero (known_nowhere class is.dumps is.chain));
  only = λ class plan e. absurd (not_both (plan_of known class) plan e (no_plans class));
  waits = λ superclass waiting there.
      absurd (nothing_there waiting (subst (λ (l : List Waiting). Contains l waiting) (no_waits superclass) there));
  all_wait = λ dump has unknown. absurd has;
  once = λ superclass. subst IsOnceEach (sym (no_waits superclass)) tt;
}

-- ---- other facts with the same dumps

pub knows_same : (ids : IdSize) (facts more : List FactValue) (known : KnownLayouts)
    → ((dump : ClassValue) → HasDump more dump ↔ HasDump facts dump) → Knows ids facts known → Knows ids more known
knows_same ids facts more known same knows = record {
  each = λ one other has too e. knows.each one other (back one has) (back other too) e;
  planned = λ class slots not_zero is.
      let has = knows.planned class slots not_zero (known_stays more facts back class slots is) in
      record { plan = has.plan; found = has.found; is = plan_stays facts more there ids class slots has.plan has.is };
  only = λ class plan e. let only = knows.only class plan e in (only.0, there_known class only.1);
  waits = λ superclass waiting in_list.
      let is = knows.waits superclass waiting in_list in
      (waiting_stays facts more there ids superclass waiting is.0, λ layout. is.1 (back_known waiting.class layout));
  all_wait = λ dump has unknown. knows.all_wait dump (back dump has) (λ layout. unknown (there_known dump.id layout));
  once = knows.once;
} where
  there : (dump : ClassValue) → HasDump facts dump → HasDump more dump
  there dump has = (same dump).1 has

  back : (dump : ClassValue) → HasDump more dump → HasDump facts dump
  back dump has = (same dump).0 has

  there_known : (class : ℕ) → HasLayout facts class → HasLayout more class
  there_known class layout = (layout.0, known_stays facts more there class layout.0 layout.1)

  back_known : (class : ℕ) → HasLayout more class → HasLayout facts class
  back_known class layout = (layout.0, known_stays more facts back class layout.0 layout.1)
