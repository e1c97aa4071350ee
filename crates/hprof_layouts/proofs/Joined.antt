-- Fields of several classes, kept together.
use Rattle.std.specs.Prelude.{vec_len}
use Rattle.std.proofs.Common.{◌≡◌, ℕ, ◌+◌, ◌<◌, ◌≤◌, min, List, [], ◌++◌, map, length, Some, sym, ap, subst, ◌∙◌, append_assoc, arith}
use Rattle.std.proofs.Common.{length-append, drop, get_or, ◌∷◌}
use Rattle.std.proofs.lemmas.List.{append-nil, drop_all}
use Rattle.hprof_values.specs.declared.ids.IdSize.{IdSize}
use Rattle.hprof_items.specs.FactValue.{FactValue}
use Rattle.hprof_rows.proofs.Tables.{drop_from}
use Rattle.hprof_layouts.specs.declared.slot.Slot.{Slot}
use Rattle.hprof_layouts.specs.Fields.{width_of_slots}
use Rattle.hprof_layouts.specs.Layout.{own_slots}
use Rattle.hprof_layouts.specs.declared.own_fields.OwnReference.{OwnReference}
use Rattle.hprof_layouts.specs.declared.own_fields.OwnLayout.{OwnLayout}
use Rattle.hprof_layouts.specs.declared.plan.Jump.{Jump}
use Rattle.hprof_layouts.specs.declared.plan.Plan.{Plan}
use Rattle.hprof_layouts.specs.OwnFields.{IsOwn, referring}
use Rattle.hprof_layouts.specs.Plan.{IsFirstJump, IsJump, IsPlan, NoTwoDumps, most, reference_behind}
use Rattle.hprof_layouts.specs.Refers.{NoneRefers}
use Rattle.hprof_layouts.proofs.Outlines.{one_known}
use Rattle.hprof_layouts.proofs.Places.{length-le-width, nothing-referring, referring-append, referring-behind, width-append}

-- ---- what refers to something, put one by one behind others

module _ (start before : ℕ) (others : List OwnReference) where
  -- those from a place on
  abbrev pub behind_from : ℕ → List OwnReference
  behind_from at = map (reference_behind start before) (drop at others)

  pub appended_one : (items old : List OwnReference) (at : ℕ) (one first : OwnReference) → at < length others
      → one ≡ reference_behind start before (get_or others at first) → items ++ behind_from at ≡ old
      → (items ++ one ∷ []) ++ behind_from (at + 1) ≡ old
  appended_one items old at one first within is so_far =
      append_assoc items (one ∷ []) (behind_from (at + 1))
      ∙ ap (λ (r : OwnReference). items ++ (r ∷ behind_from (at + 1))) is
      ∙ ap (λ (l : List OwnReference). items ++ map (reference_behind start before) l) (sym (drop_from others at first within))
      ∙ so_far

  pub appended_all : (items old : List OwnReference) (at : ℕ) → length others ≤ at → items ++ behind_from at ≡ old → items ≡ old
  appended_all items old at over so_far =
      sym (append-nil items)
      ∙ ap (λ (l : List OwnReference). items ++ map (reference_behind start before) l) (sym (drop_all at others over))
      ∙ so_far

module _ (ids : IdSize) where
  -- ---- fields that lie behind others

  width-three : (slots between behind : List Slot) → width_of_slots ids (slots ++ (between ++ behind))
      ≡ width_of_slots ids slots + (width_of_slots ids between + width_of_slots ids behind)
  width-three slots between behind =
      width-append ids slots (between ++ behind) ∙ ap (λ (n : ℕ). width_of_slots ids slots + n) (width-append ids between behind)

  length-three : (slots between behind : List Slot)
      → length (slots ++ (between ++ behind)) ≡ length slots + (length between + length behind)
  length-three slots between behind =
      length-append slots (between ++ behind) ∙ ap (λ (n : ℕ). length slots + n) (length-append between behind)

  -- what of them refers to something
  referring-three : (slots between behind : List Slot) (start before : ℕ) → NoneRefers between
      → start ≡ width_of_slots ids slots + width_of_slots ids between → before ≡ length slots + length between
      → referring ids 0 0 slots ++ referring ids (0 + start) (0 + before) behind ≡ referring ids 0 0 (slots ++ (between ++ behind))
  referring-three slots between behind start before none e f =
      let width = 0 + width_of_slots ids slots in
      let count = 0 + length slots in
      let starts : 0 + start ≡ width + width_of_slots ids between = omega arith in
      let places : 0 + before ≡ count + length between = omega arith in
      ap (λ (l : List OwnReference). referring ids 0 0 slots ++ l)
      (ap (λ (o : ℕ). referring ids o (0 + before) behind) starts
      ∙ ap (λ (p : ℕ). referring ids (width + width_of_slots ids between) p behind) places
      ∙ ap (λ (l : List OwnReference). l ++ referring ids (width + width_of_slots ids between) (count + length between) behind)
      (sym (nothing-referring ids width count between none))
      ∙ sym (referring-append ids width count between behind))
      ∙ sym (referring-append ids 0 0 slots (between ++ behind))

  -- their layout
  pub are_joined : (slots between behind : List Slot) (own others new : OwnLayout) (offset place start before : ℕ) → IsOwn ids slots own
      → NoneRefers between → IsOwn ids behind others → offset ≡ width_of_slots ids between → place ≡ length between
      → width_of_slots ids (slots ++ (between ++ behind)) < most
      → start ≡ min (own.width + offset) most → before ≡ min (own.count + place) most
      → new.width ≡ min (start + others.width) most → new.count ≡ min (before + others.count) most
      → new.references.items ≡ own.references.items ++ map (reference_behind start before) others.references.items
      → IsOwn ids (slots ++ (between ++ behind)) new
  are_joined slots between behind own others new offset place start before are none are_too e f fits start_is before_is width_is count_is
      references_are =
      let three = width-three slots between behind in
      let three_too = length-three slots between behind in
      let less = length-le-width ids (slots ++ (between ++ behind)) in
      let wide = are.width_is in
      let wide_too = are_too.width_is in
      let long = are.count_is in
      let long_too = are_too.count_is in
      let starts : start ≡ width_of_slots ids slots + width_of_slots ids between = omega arith in
      let places : before ≡ length slots + length between = omega arith in
      let room : (0 + start) + width_of_slots ids behind ≤ most = omega arith in
      let room_too : (0 + before) + length behind ≤ most = omega arith in
      record {
        width_is = omega arith;
        count_is = omega arith;
        references_are = references_are
            ∙ ap (λ (l : List OwnReference). l ++ map (reference_behind start before) others.references.items) are.references_are
            ∙ ap (λ (l : List OwnReference). referring ids 0 0 slots ++ map (reference_behind start before) l) are_too.references_are
            ∙ ap (λ (l : List OwnReference). referring ids 0 0 slots ++ l) (referring-behind ids start before 0 0 behind room room_too)
            ∙ referring-three slots between behind start before none starts places;
      }

  -- ---- plans that have more of what lies above

  module _ (facts : List FactValue) (each : NoTwoDumps facts) (class : ℕ) (slots others : List Slot) (plan above : Plan) (jump : Jump)
      (is : IsPlan ids facts class slots plan) (jumps : plan.above ≡ Some jump) (there : IsPlan ids facts jump.class others above)
      (some : 0 < vec_len plan.own.references) (fits : (plan.own.width + jump.offset) + above.own.width < most) (new : OwnLayout)
      (appended : (ids : IdSize) (slots between behind : List Slot) → IsOwn ids slots plan.own → NoneRefers between
      → IsOwn ids behind above.own → jump.offset ≡ width_of_slots ids between → jump.place ≡ length between
      → width_of_slots ids (slots ++ (between ++ behind)) < most → IsOwn ids (slots ++ (between ++ behind)) new) where
    pub joined_plan : IsPlan ids facts class slots (record plan { own = new; above = above.above })
    joined_plan =
        let first : IsJump ids facts is.left jump = subst (IsFirstJump ids facts is.left) jumps is.above_is in
        let same : first.rest ≡ others = one_known facts each jump.class first.rest others first.known there.known in
        let here = own_slots is.dump ++ is.more in
        let behind = own_slots there.dump ++ there.more in
        let between = first.before in
        let three = width-three here between behind in
        let less = length-le-width ids between in
        let wide : plan.own.width ≡ width_of_slots ids here = is.own_are.width_is in
        let wide_too : above.own.width ≡ width_of_slots ids behind = there.own_are.width_is in
        let offset_is = first.offset_is in
        let place_is = first.place_is in
        let exact : jump.offset ≡ width_of_slots ids between = omega arith in
        let exact_too : jump.place ≡ length between = omega arith in
        let small : width_of_slots ids (here ++ (between ++ behind)) < most = omega arith in
        let fields : (here ++ (between ++ behind)) ≡ own_slots is.dump ++ (is.more ++ (between ++ behind)) =
        append_assoc (own_slots is.dump) is.more (between ++ behind) in
        let left : is.left ≡ (between ++ behind) ++ there.left =
        first.slots_are ∙ ap (λ (l : List Slot). between ++ l) (same ∙ there.slots_are)
        ∙ sym (append_assoc between behind there.left) in
        record {
          not_zero = is.not_zero;
          dump = is.dump;
          has = is.has;
          id = is.id;
          known = is.known;
          more = is.more ++ (between ++ behind);
          left = there.left;
          slots_are = is.slots_are ∙ ap (λ (l : List Slot). here ++ l) left
              ∙ sym (append_assoc here (between ++ behind) there.left)
              ∙ ap (λ (l : List Slot). l ++ there.left) fields;
          width_is = is.width_is;
          own_are = subst (λ (l : List Slot). IsOwn ids l new) fields
              (appended ids here between behind is.own_are first.none_refers there.own_are exact exact_too small);
          above_is = there.above_is;
          begins = λ more. is.begins some;
        }
