-- What own fields refer to, put one by one behind other references.
use Rattle.std.specs.List.{AllByRecursion}
use Rattle.std.proofs.Common.{◌≡◌, ℕ, zero, suc, ◌+◌, ◌-◌, ◌^◌, ◌<◌, min, Bool, true, false, cond, List, [], ◌∷◌, ◌++◌, map, length, get_or}
use Rattle.std.proofs.Common.{drop, sym, ap, subst}
use Rattle.std.proofs.Common.{◌∙◌}
use Rattle.std.proofs.Common.{append_assoc, arith}
use Rattle.byteorder.specs.Endian.{big_number}
use Rattle.hprof_values.specs.declared.ids.IdSize.{IdSize}
use Rattle.hprof_values.specs.Ids.{width_of}
use Rattle.hprof_rows.proofs.Tables.{drop_from}
use Rattle.hprof_layouts.specs.declared.slot.Slot.{Slot}
use Rattle.hprof_layouts.specs.declared.reference.Reference.{Reference}
use Rattle.hprof_layouts.specs.declared.own_fields.OwnReference.{OwnReference}
use Rattle.hprof_layouts.specs.declared.own_fields.OwnLayout.{OwnLayout}
use Rattle.hprof_layouts.specs.declared.reference.Wanted.{Wanted}
use Rattle.hprof_layouts.specs.OwnFields.{IsOwn, references_in}
use Rattle.hprof_layouts.specs.References.{is_wanted, wanted_of}
use Rattle.hprof_layouts.proofs.Places.{IsWithin, reference_at, references_in-referring, referring-within}

-- what holds of each element holds at a place
pub at_place : {X : Type 0} (P : X → Type 0) (xs : List X) (place : ℕ) (d : X) → AllByRecursion P xs → place < length xs
    → P (get_or xs place d)
at_place P [] place d all lt = absurd (omega arith)
at_place P (x ∷ xs) zero d all lt = all.0
at_place P (x ∷ xs) (suc place) d all lt = at_place P xs place d all.1 (omega arith)

-- what is wanted of what they refer to
abbrev pub wanted_left : IdSize → List ℕ → ℕ → Wanted → List OwnReference → List Reference
wanted_left ids bytes place which left = wanted_of which (map (reference_at ids place bytes) left)

module _ (ids : IdSize) (bytes : List ℕ) (place : ℕ) (which : Wanted) (own : OwnLayout) (slots : List Slot) (are : IsOwn ids slots own)
  where
    abbrev left_of : List OwnReference → List Reference
    left_of = wanted_left ids bytes place which

    pub pushing_begins : (references : List Reference)
        → references ++ left_of own.references.items ≡ references ++ wanted_of which (references_in ids place slots bytes)
    pushing_begins references =
        ap (λ (l : List Reference). references ++ wanted_of which l)
        (ap (map (reference_at ids place bytes)) are.references_are ∙ references_in-referring ids place bytes 0 0 slots
        ∙ ap (λ (p : ℕ). references_in ids p slots bytes) (let e : place + 0 ≡ place = omega arith in e))

    module _ (at : ℕ) (one d : OwnReference) (within : at < length own.references.items) (is : one ≡ get_or own.references.items at d) where
      -- its value lies within the bytes
      pub one_within : IsWithin ids own.width (length slots) one
      one_within =
          let width = are.width_is in
          let all = referring-within ids 0 0 own.width (length slots) slots (omega arith) (omega arith) in
          let all_own : AllByRecursion (IsWithin ids own.width (length slots)) own.references.items =
          subst (AllByRecursion (IsWithin ids own.width (length slots))) (sym are.references_are) all in
          subst (IsWithin ids own.width (length slots)) (sym is)
          (at_place (IsWithin ids own.width (length slots)) own.references.items at d all_own within)

      abbrev target : ℕ
      target = big_number (width_of ids) (drop one.offset bytes)

      abbrev later : List Reference
      later = left_of (drop (at + 1) own.references.items)

      -- it is the first of those that are left
      wanted_next : (t : Bool) → is_wanted which target ≡ t
          → left_of (drop at own.references.items) ≡ cond t (record { place = place + one.place; to = target } ∷ later) later
      wanted_next t e =
          let next : drop at own.references.items ≡ one ∷ drop (at + 1) own.references.items =
          drop_from own.references.items at d within
          ∙ ap (λ (r : OwnReference). r ∷ drop (at + 1) own.references.items) (sym is) in
          ap left_of next ∙ ap (λ (b : Bool). cond b (record { place = place + one.place; to = target } ∷ later) later) e

      pub pushing_wanted : (references old : List Reference) (placed : ℕ) → place + length slots < 2 ^ 64
          → placed ≡ min (place + one.place) (2 ^ 64 - 1) → is_wanted which target ≡ true
          → references ++ left_of (drop at own.references.items) ≡ old
          → (references ++ record { place = placed; to = target } ∷ []) ++ later ≡ old
      pushing_wanted references old placed small e wanted so_far =
          let lt = one_within.1 in
          let exact : placed ≡ place + one.place = omega arith in
          append_assoc references (record { place = placed; to = target } ∷ []) later
          ∙ ap (λ (n : ℕ). references ++ (record { place = n; to = target } ∷ later)) exact
          ∙ sym (ap (λ (l : List Reference). references ++ l) (wanted_next true wanted))
          ∙ so_far

      pub pushing_other : (references old : List Reference) → is_wanted which target ≡ false
          → references ++ left_of (drop at own.references.items) ≡ old → references ++ later ≡ old
      pushing_other references old unwanted so_far =
          sym (ap (λ (l : List Reference). references ++ l) (wanted_next false unwanted)) ∙ so_far
