-- Plans, and outlines of layouts.
use Rattle.std.specs.Prelude.{◌≢◌, vec_len}
use Rattle.std.specs.Option.{option_map}
use Rattle.std.proofs.lemmas.Bool.{eqb-true}
use Rattle.std.proofs.lemmas.List.{append-nil}
use Rattle.std.proofs.Common.{◌≡◌, ℕ, ◌==◌, ◌+◌, ◌<◌, min, Bool, true, false, cond, List, [], ◌∷◌, ◌++◌, length, Option, Some, None}
use Rattle.std.proofs.Common.{refl, sym, ap, subst, ◌∙◌, append_assoc, arith, length-append}
use Rattle.hprof_values.specs.declared.ids.IdSize.{IdSize}
use Rattle.hprof_items.specs.FactValue.{FactValue}
use Rattle.hprof_heap.specs.Classes.{ClassValue, HasDump}
use Rattle.hprof_heap.proofs.ClassFacts.{OneDumpEach}
use Rattle.hprof_layouts.specs.declared.slot.Slot.{Slot}
use Rattle.hprof_layouts.specs.Fields.{width_of_slots}
use Rattle.hprof_layouts.specs.Layout.{IsKnown, own_slots, slots_of}
use Rattle.hprof_layouts.proofs.Chains.{stops_zero, stopped_list}
use Rattle.hprof_layouts.proofs.Layouts.{one_chain}
use Rattle.hprof_layouts.specs.declared.own_fields.OwnReference.{OwnReference}
use Rattle.hprof_layouts.specs.declared.own_fields.OwnLayout.{OwnLayout}
use Rattle.hprof_layouts.specs.declared.plan.Jump.{Jump}
use Rattle.hprof_layouts.specs.declared.plan.Outline.{Outline}
use Rattle.hprof_layouts.specs.declared.plan.Plan.{Plan}
use Rattle.hprof_layouts.specs.OwnFields.{IsOwn, referring}
use Rattle.hprof_layouts.specs.Plan.{IsFirstJump, IsJump, IsOutline, IsPlan, IsPlanBelow}
use Rattle.hprof_layouts.specs.Plan.{jump_behind, most, most_wide, outline_of, plan_below}
use Rattle.hprof_layouts.specs.Refers.{NoneRefers}
use Rattle.hprof_layouts.proofs.Places.{NoneRefers-append, referring-none, referring-some, width-append}

-- ---- layouts that are known

module _ (facts : List FactValue) where
  -- a class has one layout
  pub one_known : OneDumpEach facts → (class : ℕ) (slots others : List Slot) → IsKnown facts class slots → IsKnown facts class others
      → slots ≡ others
  one_known each class slots others is too =
      let same = one_chain facts each class 0 0 is.dumps too.dumps (stops_zero facts) (stops_zero facts) is.chain too.chain in
      is.slots_are ∙ ap slots_of same.lists ∙ sym too.slots_are

  -- that of class 0 has no slots
  pub known_zero : IsKnown facts 0 []
  known_zero = record { dumps = []; chain = refl; slots_are = refl }

  pub zero_known : (slots : List Slot) → IsKnown facts 0 slots → slots ≡ []
  zero_known slots is = is.slots_are ∙ ap slots_of (stopped_list facts 0 0 is.dumps (stops_zero facts) is.chain)

  -- one class more
  pub known_below : (dump : ClassValue) (slots : List Slot) → dump.id ≢ 0 → HasDump facts dump → IsKnown facts dump.parent slots
      → IsKnown facts dump.id (own_slots dump ++ slots)
  known_below dump slots not_zero has is = record {
    dumps = dump ∷ is.dumps;
    chain = (not_zero, refl, has, is.chain);
    slots_are = ap (λ (l : List Slot). own_slots dump ++ l) is.slots_are;
  }

-- ---- numbers that stop at a greatest

-- a sum of which a part stopped there
pub stopped_sum : (part full other total most : ℕ) → part ≡ min full most → total ≡ full + other
    → min (part + other) most ≡ min total most
stopped_sum part full other total most e f = omega arith

-- a list without elements
pub no_elements : {X : Type 0} (xs : List X) → length xs ≡ 0 → xs ≡ []
no_elements [] e = refl
no_elements (x ∷ xs) e = absurd (omega arith)

module _ (ids : IdSize) (facts : List FactValue) where
  -- ---- from above to below

  plan_is : (dump : ClassValue) (own : OwnLayout) (slots : List Slot) (outline : Outline) (place : ℕ) → dump.id ≢ 0 → HasDump facts dump
      → IsOwn ids (own_slots dump) own → IsKnown facts dump.parent slots → IsOutline ids facts slots outline
      → IsPlan ids facts dump.id (own_slots dump ++ slots) (plan_below outline place own)
  plan_is dump own slots outline place not_zero has own_are known is = record {
    not_zero = not_zero;
    dump = dump;
    has = has;
    id = refl;
    known = known_below facts dump slots not_zero has known;
    more = [];
    left = slots;
    slots_are = ap (λ (l : List Slot). l ++ slots) (sym (append-nil (own_slots dump)));
    width_is = stopped_sum outline.width (width_of_slots ids slots) own.width (width_of_slots ids (own_slots dump ++ slots)) most_wide
        is.width_is (width-append ids (own_slots dump) slots
        ∙ (let e = own_are.width_is in let sum : width_of_slots ids (own_slots dump) + width_of_slots ids slots
        ≡ width_of_slots ids slots + own.width = omega arith in sum));
    own_are = subst (λ (l : List Slot). IsOwn ids l own) (sym (append-nil (own_slots dump))) own_are;
    above_is = is.first_is;
    begins = λ some.
        let len = own.references.ok.0 in
        let same = ap (λ (l : List OwnReference). length l) own_are.references_are in
        let lt : 0 < length (referring ids 0 0 (own_slots dump)) = omega arith in
        referring-some ids 0 0 (own_slots dump) lt;
  }

  pub is_below : (own : OwnLayout) (slots : List Slot) (outline : Outline) (place : ℕ) (plan : Plan) → plan ≡ plan_below outline place own
      → IsOutline ids facts slots outline → IsPlanBelow ids facts slots own plan
  is_below own slots outline place plan e outline_are dump not_zero has own_are known =
      subst (IsPlan ids facts dump.id (own_slots dump ++ slots)) (sym e)
      (plan_is dump own slots outline place not_zero has own_are known outline_are)

  -- ---- the outline of a plan

  module _ (class : ℕ) (slots : List Slot) (plan : Plan) (is : IsPlan ids facts class slots plan) where
    -- what the plan speaks of
    fields : List Slot
    fields = own_slots is.dump ++ is.more

    -- some of it refers to something
    first_here : 0 < vec_len plan.own.references → IsJump ids facts slots (record { class = class; at = plan.at; offset = 0; place = 0 })
    first_here some = record {
      before = [];
      rest = slots;
      slots_are = refl;
      none_refers = tt;
      offset_is = refl;
      place_is = refl;
      not_zero = is.not_zero;
      known = is.known;
      dump = is.dump;
      has = is.has;
      id = is.id;
      some = is.begins some;
    }

    -- none of it does
    none_own : vec_len plan.own.references ≡ 0 → NoneRefers fields
    unfolding fields
    none_own none =
        let len = plan.own.references.ok.0 in
        let e : length plan.own.references.items ≡ 0 = omega arith in
        referring-none ids 0 0 fields (sym is.own_are.references_are ∙ no_elements plan.own.references.items e)

    first_above : (first : Option Jump) → NoneRefers fields → IsFirstJump ids facts is.left first
        → IsFirstJump ids facts slots (option_map (jump_behind plan.own) first)
    unfolding fields
    first_above None none above = subst NoneRefers (sym is.slots_are) (NoneRefers-append ids fields is.left none above)
    first_above (Some jump) none above =
        let own = fields in
        let wide = is.own_are.width_is in
        let long = is.own_are.count_is in
        let width : width_of_slots ids (own ++ above.before) ≡ width_of_slots ids above.before + plan.own.width =
        width-append ids own above.before ∙ omega arith in
        let count : length (own ++ above.before) ≡ length above.before + plan.own.count = length-append own above.before ∙ omega arith in
        record {
          before = own ++ above.before;
          rest = above.rest;
          slots_are = is.slots_are ∙ ap (λ (l : List Slot). own ++ l) above.slots_are ∙ sym (append_assoc own above.before above.rest);
          none_refers = NoneRefers-append ids own above.before none above.none_refers;
          offset_is = stopped_sum jump.offset (width_of_slots ids above.before) plan.own.width (width_of_slots ids (own ++ above.before))
              most above.offset_is width;
          place_is = stopped_sum jump.place (length above.before) plan.own.count (length (own ++ above.before)) most above.place_is count;
          not_zero = above.not_zero;
          known = above.known;
          dump = above.dump;
          has = above.has;
          id = above.id;
          some = above.some;
        }

    first_by : (t : Bool) → (vec_len plan.own.references == 0) ≡ t → IsFirstJump ids facts slots
        (cond t (option_map (jump_behind plan.own) plan.above) (Some (record { class = class; at = plan.at; offset = 0; place = 0 })))
    first_by true none = first_above plan.above (none_own (eqb-true (vec_len plan.own.references) 0 none)) is.above_is
    first_by false some = first_here (grind (arith, some))

    pub outline_is : IsOutline ids facts slots (outline_of class plan)
    outline_is = record { width_is = is.width_is; first_is = first_by (vec_len plan.own.references == 0) refl }
