-- What values refer to, by their places.
use Rattle.std.specs.Prelude.{◌≢◌, map, slice_get}
use Rattle.std.proofs.Common.{◌≡◌, ℕ, zero, suc, Bool, true, false, cond, List, [], ◌∷◌, Some, refl, sym, ap, ◌∙◌}
use Rattle.std.proofs.lemmas.Simd.{map-map}
use Rattle.hprof_values.specs.declared.basic.Basic.{Basic}
use Rattle.hprof_values.specs.declared.entry.Entry.{Entry}
use Rattle.hprof_values.specs.Value.{constant_of, static_of}
use Rattle.hprof_layouts.specs.Refers.{refers}
use Rattle.hprof_edges.specs.EdgeLists.{target_of, targets_of_constants, targets_of_statics}
use Rattle.hprof_edges.specs.Edges.{EntryRefers}

module _ {X : Type 0} (basic_of : X → Basic) (bits_of : X → ℕ) where
  -- at that place stands a value that refers there
  pub record IsTarget (values : List X) (position to : ℕ) : Type 0 where
    pub value : X
    pub there : slice_get values position ≡ Some value
    pub refers_is : refers (basic_of value) ≡ true
    pub to_is : bits_of value ≡ to

  abbrev pub target : X → ℕ
  target value = target_of (basic_of value) (bits_of value)

  first_target : (value : X) (to : ℕ) (t : Bool) → refers (basic_of value) ≡ t → cond t (bits_of value) 0 ≡ to → to ≢ 0
      → (refers (basic_of value) ≡ true) × (bits_of value ≡ to)
  first_target value to true refers_is e not_zero = (refers_is, e)
  first_target value to false refers_is e not_zero = absurd (not_zero (sym e))

  pub is_target : (values : List X) (position to : ℕ) → to ≢ 0 → slice_get (map target values) position ≡ Some to
      → IsTarget values position to
  is_target [] position to not_zero there = absurd cc
  is_target (value ∷ values) zero to not_zero there =
      let same : target value ≡ to = cc in
      let is = first_target value to (refers (basic_of value)) refl same not_zero in
      record { value = value; there = refl; refers_is = is.0; to_is = is.1 }
  is_target (value ∷ values) (suc position) to not_zero there =
      let is = is_target values position to not_zero there in
      record { value = is.value; there = is.there; refers_is = is.refers_is; to_is = is.to_is }

  pub target_there : (values : List X) (position : ℕ) (value : X) → slice_get values position ≡ Some value
      → refers (basic_of value) ≡ true → slice_get (map target values) position ≡ Some (bits_of value)
  target_there [] position value there refers_is = absurd cc
  target_there (first ∷ values) zero value there refers_is =
      let same : first ≡ value = cc in
      ap (λ (v : X). Some (target v)) same ∙ ap (λ (t : Bool). Some (cond t (bits_of value) 0)) refers_is
  target_there (first ∷ values) (suc position) value there refers_is = target_there values position value there refers_is

-- ---- constants and static fields

abbrev target_of_entry : Entry → ℕ
target_of_entry entry = target_of entry.basic entry.bits

pub constants_same : (entries : List Entry) → targets_of_constants entries ≡ map (λ entry. target_of entry.basic entry.bits) entries
constants_same entries = map-map (λ constant. target_of constant.value.basic constant.value.bits) constant_of entries

pub statics_same : (entries : List Entry) → targets_of_statics entries ≡ map (λ entry. target_of entry.basic entry.bits) entries
statics_same entries = map-map (λ field. target_of field.value.basic field.value.bits) static_of entries

pub entry_refers : (entries : List Entry) (position to : ℕ) → to ≢ 0
    → slice_get (map (λ entry. target_of entry.basic entry.bits) entries) position ≡ Some to → EntryRefers entries position to
entry_refers entries position to not_zero there =
    let is = is_target (λ (entry : Entry). entry.basic) (λ (entry : Entry). entry.bits) entries position to not_zero there in
    record { entry = is.value; there = is.there; refers_is = is.refers_is; to_is = is.to_is }

pub entry_target : (entries : List Entry) (position to : ℕ) → EntryRefers entries position to
    → slice_get (map (λ entry. target_of entry.basic entry.bits) entries) position ≡ Some to
entry_target entries position to is =
    target_there (λ (entry : Entry). entry.basic) (λ (entry : Entry). entry.bits) entries position is.entry is.there is.refers_is
    ∙ ap Some is.to_is
