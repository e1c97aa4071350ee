-- An instance that is laid by jumps from class to class.
use Rattle.std.specs.Prelude.{◌≢◌, ◌↔◌, IsTrue, nat_eq}
use Rattle.std.proofs.lemmas.List.{append-nil}
use Rattle.std.proofs.lemmas.List.Elements.{filter-append}
use Rattle.std.proofs.lemmas.Bool.{cases_eq, eqb-true}
use Rattle.std.proofs.Common.{◌≡◌, ℕ, ◌+◌, ◌^◌, ◌<◌, ◌≤◌, min, List, [], ◌++◌, length, drop, Option, Some, None, refl, sym, ap, subst, ◌∙◌}
use Rattle.std.proofs.Common.{append_assoc, inl, inr, arith, length-append, length-drop}
use Rattle.hprof_values.specs.declared.ids.IdSize.{IdSize}
use Rattle.hprof_items.specs.FactValue.{FactValue}
use Rattle.hprof_heap.specs.Classes.{ClassValue}
use Rattle.hprof_layouts.specs.declared.slot.Slot.{Slot}
use Rattle.hprof_layouts.specs.declared.field_value.FieldValue.{FieldValue}
use Rattle.hprof_layouts.specs.Fields.{HasValues, width_of_slots}
use Rattle.hprof_layouts.specs.Layout.{IsKnown, own_slots}
use Rattle.hprof_layouts.specs.declared.known.KnownLayouts.{KnownLayouts}
use Rattle.hprof_layouts.specs.declared.plan.Jump.{Jump}
use Rattle.hprof_layouts.specs.declared.plan.Plan.{Plan}
use Rattle.hprof_layouts.specs.declared.reference.Reference.{Reference}
use Rattle.hprof_layouts.specs.declared.reference.Wanted.{Wanted}
use Rattle.hprof_layouts.specs.Known.{HasLayout, HasPlan, Knows, plan_of}
use Rattle.hprof_layouts.specs.OwnFields.{IsOwn, references_in}
use Rattle.hprof_layouts.specs.Plan.{IsFirstJump, IsPlan, most}
use Rattle.hprof_layouts.specs.References.{AreWanted, is_wanted, wanted_of}
use Rattle.hprof_layouts.proofs.KnownPlans.{one_plan, unplanned_unknown}
use Rattle.hprof_layouts.proofs.Outlines.{known_zero, one_known, zero_known}
use Rattle.hprof_layouts.proofs.Places.{length-le-width, references_in-append, references_in-behind, references_in-none, width-append}
use Rattle.hprof_layouts.proofs.ReferenceSets.{are_references, no_references}

-- some slots were gone over: what was found, and what those that are left have over the bytes that are left, is the answer
pub record Laying (ids : IdSize) (facts : List FactValue) (which : Wanted) (answer : List Reference) (next : Option Jump) (rest : List ℕ)
    (place : ℕ) (references : List Reference) : Type 0 where
  pub left : List Slot
  pub first : IsFirstJump ids facts left next
  pub fills : width_of_slots ids left ≡ length rest
  pub few : place + length left < 2 ^ 64
  pub small : length rest < 2 ^ 64
  pub all : references ++ wanted_of which (references_in ids place left rest) ≡ answer

module _ (ids : IdSize) (facts : List FactValue) (which : Wanted) (answer : List Reference) where
  -- where no class is left
  pub laying_ends : (rest : List ℕ) (place : ℕ) (references : List Reference) → Laying ids facts which answer None rest place references
      → references ≡ answer
  laying_ends rest place references laying =
      sym (append-nil references)
      ∙ sym (ap (λ (l : List Reference). references ++ wanted_of which l) (references_in-none ids place laying.left rest laying.first))
      ∙ laying.all

  -- a jump
  module _ (known : KnownLayouts) (knows : Knows ids facts known) (jump : Jump) (rest : List ℕ) (place : ℕ) (references : List Reference)
      (laying : Laying ids facts which answer (Some jump) rest place references) where
    -- where the fields lie that the plan of the class speaks of
    record Landing (plan : Plan) : Type 0 where
      pub own : List Slot
      pub above : List Slot
      pub are : IsOwn ids own plan.own
      pub first : IsFirstJump ids facts above plan.above
      pub some : 0 < plan.own.width
      pub offset_is : jump.offset ≡ width_of_slots ids laying.first.before
      pub place_is : jump.place ≡ length laying.first.before
      pub left_are : laying.left ≡ laying.first.before ++ (own ++ above)
      pub width_is : width_of_slots ids laying.left ≡ jump.offset + (plan.own.width + width_of_slots ids above)
      pub count_is : length laying.left ≡ jump.place + (plan.own.count + length above)

    planned : HasPlan ids facts (plan_of known) jump.class laying.first.rest
    planned = knows.planned jump.class laying.first.rest laying.first.not_zero laying.first.known

    landing : Landing planned.plan
    landing =
        let here = laying.first in
        let is = planned.is in
        let own = own_slots is.dump ++ is.more in
        let dumps : here.dump ≡ is.dump = knows.each here.dump is.dump here.has is.has (here.id ∙ sym is.id) in
        let wide : 0 < width_of_slots ids (own_slots is.dump) =
        subst (λ (d : ClassValue). 0 < width_of_slots ids (own_slots d)) dumps here.some in
        let wider : width_of_slots ids own ≡ width_of_slots ids (own_slots is.dump) + width_of_slots ids is.more =
        width-append ids (own_slots is.dump) is.more in
        let width : planned.plan.own.width ≡ width_of_slots ids own = is.own_are.width_is in
        let count : planned.plan.own.count ≡ length own = is.own_are.count_is in
        let left : laying.left ≡ here.before ++ (own ++ is.left) =
        here.slots_are ∙ ap (λ (l : List Slot). here.before ++ l) is.slots_are in
        let split : width_of_slots ids laying.left ≡ width_of_slots ids here.before + width_of_slots ids (own ++ is.left) =
        ap (width_of_slots ids) left ∙ width-append ids here.before (own ++ is.left) in
        let split_rest : width_of_slots ids (own ++ is.left) ≡ width_of_slots ids own + width_of_slots ids is.left =
        width-append ids own is.left in
        let lengths : length laying.left ≡ length here.before + length (own ++ is.left) =
        ap length left ∙ length-append here.before (own ++ is.left) in
        let lengths_rest : length (own ++ is.left) ≡ length own + length is.left = length-append own is.left in
        let offset = here.offset_is in
        let places = here.place_is in
        let fills = laying.fills in
        let small = laying.small in
        let few = laying.few in
        let exact : jump.offset ≡ width_of_slots ids here.before = omega arith in
        let exact_place : jump.place ≡ length here.before = omega arith in
        record {
          own = own;
          above = is.left;
          are = is.own_are;
          first = is.above_is;
          some = omega arith;
          offset_is = exact;
          place_is = exact_place;
          left_are = left;
          width_is = omega arith;
          count_is = omega arith;
        }

    landing_at : (plan : Plan) → plan_of known jump.class ≡ Some plan → Landing plan
    landing_at plan found = subst Landing (one_plan (plan_of known jump.class) planned.plan plan planned.found found) landing

    -- they lie within the bytes
    lands_within : (plan : Plan) → plan_of known jump.class ≡ Some plan → jump.offset + plan.own.width ≤ length rest
    lands_within plan found = let width = (landing_at plan found).width_is in let fills = laying.fills in omega arith

    -- there is such a plan
    pub lands : ((plan : Plan) → plan_of known jump.class ≡ Some plan → 0 < plan.own.width → jump.offset + plan.own.width ≤ length rest
        → ⊥) → ⊥
    lands none = none planned.plan planned.found landing.some (lands_within planned.plan planned.found)

    -- what they refer to is found, and the slots behind them are left
    module _ (plan : Plan) (found : plan_of known jump.class ≡ Some plan) (start : ℕ)
        (start_is : start ≡ min (place + jump.place) most) where
      own_here : List Slot
      own_here = (landing_at plan found).own

      start_exact : start ≡ place + jump.place
      start_exact =
          let count = (landing_at plan found).count_is in
          let few = laying.few in
          omega arith

      own_are : IsOwn ids own_here plan.own
      unfolding own_here
      own_are = (landing_at plan found).are

      own_wide : plan.own.width ≤ length (drop jump.offset rest)
      own_wide = let within = lands_within plan found in let left = length-drop jump.offset rest in omega arith

      own_few : start + length own_here < 2 ^ 64
      unfolding own_here
      own_few =
          let count = (landing_at plan found).count_is in
          let own = own_are.count_is in
          let few = laying.few in
          let exact = start_exact in
          omega arith

      laying_on : (later : List ℕ) (end : ℕ) (new : List Reference) → later ≡ drop plan.own.width (drop jump.offset rest)
          → end ≡ min (start + plan.own.count) most
          → new ≡ references ++ wanted_of which (references_in ids start own_here (drop jump.offset rest))
          → Laying ids facts which answer plan.above later end new
      unfolding own_here
      laying_on later end new e f g =
          let here = landing_at plan found in
          let landed = drop jump.offset rest in
          let width = here.width_is in
          let count = here.count_is in
          let own_width = here.are.width_is in
          let own_count = here.are.count_is in
          let fills = laying.fills in
          let few = laying.few in
          let small = laying.small in
          let exact = start_exact in
          let left = length-drop jump.offset rest in
          let left_too = length-drop plan.own.width landed in
          let later_len : length later ≡ length (drop plan.own.width landed) = ap length e in
          let end_exact : end ≡ start + plan.own.count = omega arith in
          let above : references_in ids (start + length here.own) here.above (drop (width_of_slots ids here.own) landed)
          ≡ references_in ids end here.above later =
          ap (λ (w : ℕ). references_in ids (start + length here.own) here.above (drop w landed)) (sym own_width)
          ∙ ap (λ (l : List ℕ). references_in ids (start + length here.own) here.above l) (sym e)
          ∙ ap (λ (p : ℕ). references_in ids p here.above later)
          (let same : start + length here.own ≡ end = omega arith in same) in
          let own_then : references_in ids place laying.left rest
          ≡ references_in ids start here.own landed ++ references_in ids end here.above later =
          ap (λ (l : List Slot). references_in ids place l rest) here.left_are
          ∙ references_in-behind ids place laying.first.before (here.own ++ here.above) rest laying.first.none_refers
          ∙ ap (λ (p : ℕ). references_in ids p (here.own ++ here.above) (drop (width_of_slots ids laying.first.before) rest))
          (let same : place + length laying.first.before ≡ start = let p = here.place_is in omega arith in same)
          ∙ ap (λ (w : ℕ). references_in ids start (here.own ++ here.above) (drop w rest)) (sym here.offset_is)
          ∙ references_in-append ids start here.own here.above landed
          ∙ ap (λ (l : List Reference). references_in ids start here.own landed ++ l) above in
          let wanted_then : wanted_of which (references_in ids place laying.left rest)
          ≡ wanted_of which (references_in ids start here.own landed) ++ wanted_of which (references_in ids end here.above later) =
          ap (wanted_of which) own_then ∙ filter-append (λ (r : Reference). is_wanted which r.to) (references_in ids start here.own landed)
          (references_in ids end here.above later) in
          record {
            left = here.above;
            first = here.first;
            fills = omega arith;
            few = omega arith;
            small = omega arith;
            all = ap (λ (l : List Reference). l ++ wanted_of which (references_in ids end here.above later)) g
                ∙ append_assoc references (wanted_of which (references_in ids start here.own landed))
                (wanted_of which (references_in ids end here.above later))
                ∙ sym (ap (λ (l : List Reference). references ++ l) wanted_then)
                ∙ laying.all;
          }

      module _ (landed : List ℕ) (new : List Reference) (landed_is : landed ≡ drop jump.offset rest)
          (pushed : (own : List Slot) → IsOwn ids own plan.own → plan.own.width ≤ length landed → start + length own < 2 ^ 64
          → new ≡ references ++ wanted_of which (references_in ids start own landed)) where
        pub lays_on : (later : List ℕ) (end : ℕ) → later ≡ drop plan.own.width landed → end ≡ min (start + plan.own.count) most
            → Laying ids facts which answer plan.above later end new
        lays_on later end e f =
            laying_on later end new (e ∙ ap (drop plan.own.width) landed_is) f
            (pushed own_here own_are (subst (λ (l : List ℕ). plan.own.width ≤ length l) (sym landed_is) own_wide) own_few
            ∙ ap (λ (l : List ℕ). references ++ wanted_of which (references_in ids start own_here l)) landed_is)

        -- and where none is left above, all was found
        pub lays_last : plan.above ≡ None → new ≡ answer
        lays_last none =
            let later = drop plan.own.width landed in
            let end = min (start + plan.own.count) most in
            laying_ends later end new
            (subst (λ (next : Option Jump). Laying ids facts which answer next later end new) none (lays_on later end refl refl))

-- ---- by a plan

-- what the plan's own fields refer to, and what those above them do, is what all slots refer to
module _ (ids : IdSize) (facts : List FactValue) (class : ℕ) (slots : List Slot) (plan : Plan) (is : IsPlan ids facts class slots plan)
    (bytes : List ℕ) (fills : width_of_slots ids slots ≡ length bytes) where
  pub plan_fields : List Slot
  plan_fields = own_slots is.dump ++ is.more

  pub plan_own : IsOwn ids plan_fields plan.own
  unfolding plan_fields
  plan_own = is.own_are

  split_width : width_of_slots ids slots ≡ plan.own.width + width_of_slots ids is.left
  unfolding plan_fields
  split_width =
      ap (width_of_slots ids) is.slots_are ∙ width-append ids plan_fields is.left
      ∙ sym (ap (λ (w : ℕ). w + width_of_slots ids is.left) is.own_are.width_is)

  split_count : length slots ≡ plan.own.count + length is.left
  unfolding plan_fields
  split_count =
      ap length is.slots_are ∙ length-append plan_fields is.left ∙ sym (ap (λ (n : ℕ). n + length is.left) is.own_are.count_is)

  pub plan_within : plan.own.width ≤ length bytes
  plan_within = let split = split_width in omega arith

  pub plan_few : length bytes < 2 ^ 64 → plan.own.count + length is.left < 2 ^ 64
  plan_few small = let split = split_count in let less = length-le-width ids slots in omega arith

  pub fields_few : length bytes < 2 ^ 64 → 0 + length plan_fields < 2 ^ 64
  unfolding plan_fields
  fields_few small = let few = plan_few small in let count = is.own_are.count_is in omega arith

  pub above_fills : width_of_slots ids is.left ≡ length (drop plan.own.width bytes)
  above_fills = let split = split_width in let rest = length-drop plan.own.width bytes in omega arith

  pub plan_refers : (which : Wanted) → wanted_of which (references_in ids 0 slots bytes)
      ≡ wanted_of which (references_in ids 0 plan_fields bytes)
      ++ wanted_of which (references_in ids plan.own.count is.left (drop plan.own.width bytes))
  unfolding plan_fields
  plan_refers which =
      ap (wanted_of which)
      (ap (λ (l : List Slot). references_in ids 0 l bytes) is.slots_are
      ∙ references_in-append ids 0 plan_fields is.left bytes
      ∙ ap (λ (w : ℕ). references_in ids 0 plan_fields bytes ++ references_in ids (0 + length plan_fields) is.left (drop w bytes))
      (sym is.own_are.width_is)
      ∙ ap (λ (n : ℕ). references_in ids 0 plan_fields bytes ++ references_in ids n is.left (drop plan.own.width bytes))
      (let count = is.own_are.count_is in let same : 0 + length plan_fields ≡ plan.own.count = omega arith in same))
      ∙ filter-append (λ (r : Reference). is_wanted which r.to) (references_in ids 0 plan_fields bytes)
      (references_in ids plan.own.count is.left (drop plan.own.width bytes))

  -- where no class is left above
  pub plan_last : (which : Wanted) → plan.above ≡ None
      → wanted_of which (references_in ids 0 slots bytes) ≡ wanted_of which (references_in ids 0 plan_fields bytes)
  plan_last which none =
      plan_refers which
      ∙ ap (λ (l : List Reference). wanted_of which (references_in ids 0 plan_fields bytes) ++ wanted_of which l)
      (references_in-none ids plan.own.count is.left (drop plan.own.width bytes) (subst (IsFirstJump ids facts is.left) none is.above_is))
      ∙ append-nil (wanted_of which (references_in ids 0 plan_fields bytes))

-- ---- what is answered

module _ (ids : IdSize) (facts : List FactValue) (known : KnownLayouts) (knows : Knows ids facts known) (class : ℕ) (bytes : List ℕ)
    (which : Wanted) where
  -- where an instance has no values, there is nothing
  without_values : ((values : List FieldValue) → HasValues ids facts class bytes values → ⊥) → AreWanted ids facts class bytes which []
  without_values none = record {
    all = [];
    all_are = no_references ids facts class bytes none;
    wanted_are = refl;
  }

  -- where the class has no plan
  pub unplanned_laid : plan_of known class ≡ None → AreWanted ids facts class bytes which []
  unplanned_laid no_plan = elim (cases_eq class 0) [
    | inl zero_is ↦ elim (cases_eq (length bytes) 0) [
      | inl empty ↦ record {
        all = [];
        all_are = are_references ids facts class bytes [] (subst (λ (c : ℕ). IsKnown facts c []) (sym zero_is) (known_zero facts))
            (sym empty)
            (λ others is. zero_known facts others (subst (λ (c : ℕ). IsKnown facts c others) zero_is is));
        wanted_are = refl;
      }
      | inr some ↦ without_values (λ values has.
          let none = zero_known facts has.slots (subst (λ (c : ℕ). IsKnown facts c has.slots) zero_is has.known) in
          some (sym (sym (ap (width_of_slots ids) none) ∙ has.fills)))
    ]
    | inr other ↦ without_values (λ values has. unplanned_unknown ids facts known knows class no_plan other (has.slots, has.known))
  ]

  -- then its layout is known where it is class 0
  pub unplanned_known : plan_of known class ≡ None → IsTrue (nat_eq class 0) ↔ HasLayout facts class
  unplanned_known no_plan = (
    λ zero. subst (HasLayout facts) (sym (eqb-true class 0 zero)) ([], known_zero facts),
    λ layout. elim (cases_eq class 0) [
      | inl zero_is ↦ subst (λ (c : ℕ). IsTrue (nat_eq c 0)) (sym zero_is) refl
      | inr other ↦ absurd (unplanned_unknown ids facts known knows class no_plan other layout)
    ],
  )

  module _ (plan : Plan) (found : plan_of known class ≡ Some plan) where
    pub planned_slots : List Slot
    planned_slots = (knows.only class plan found).1.0

    slots_known : IsKnown facts class planned_slots
    unfolding planned_slots
    slots_known = (knows.only class plan found).1.1

    pub the_plan : IsPlan ids facts class planned_slots plan
    the_plan =
        let has = knows.planned class planned_slots (knows.only class plan found).0 slots_known in
        subst (IsPlan ids facts class planned_slots) (one_plan (plan_of known class) has.plan plan has.found found) has.is

    -- where its layout has another number of bytes, there is nothing
    pub differs_laid : length bytes < 2 ^ 64 → plan.width ≢ length bytes → AreWanted ids facts class bytes which []
    differs_laid small differs = without_values (λ values has.
        let same = one_known facts knows.each class planned_slots has.slots slots_known has.known in
        let fills : width_of_slots ids planned_slots ≡ length bytes = ap (width_of_slots ids) same ∙ has.fills in
        let width = the_plan.width_is in
        differs (omega arith))

    -- where it has as many, it is what the slots refer to
    pub laid : (references : List Reference) → length bytes < 2 ^ 64 → plan.width ≡ length bytes
        → ((slots : List Slot) → IsPlan ids facts class slots plan → width_of_slots ids slots ≡ length bytes
        → references ≡ wanted_of which (references_in ids 0 slots bytes)) → AreWanted ids facts class bytes which references
    laid references small same answers =
        let width = the_plan.width_is in
        let fills : width_of_slots ids planned_slots ≡ length bytes = omega arith in
        record {
          all = references_in ids 0 planned_slots bytes;
          all_are = are_references ids facts class bytes planned_slots slots_known fills
              (λ others is. one_known facts knows.each class others planned_slots is slots_known);
          wanted_are = answers planned_slots the_plan fills;
        }
