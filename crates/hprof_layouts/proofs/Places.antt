-- Fields that refer to something, with what lies before each.
use Rattle.std.specs.List.{AllByRecursion}
use Rattle.std.proofs.lemmas.List.{drop-drop}
use Rattle.std.proofs.lemmas.List.Sums.{sum_by-cons, sum_by-append}
use Rattle.std.proofs.Common.{◌≡◌, ℕ, ◌+◌, ◌<◌, ◌≤◌, min, Bool, true, false, cond, List, [], ◌∷◌, ◌++◌, map, length, drop, refl}
use Rattle.std.proofs.Common.{sym, ap, ◌∙◌, append_assoc, arith}
use Rattle.byteorder.specs.Endian.{big_number}
use Rattle.hprof_values.specs.declared.ids.IdSize.{IdSize}
use Rattle.hprof_values.specs.declared.ids.IdSize.TheVariants as sizes
use Rattle.hprof_values.specs.declared.basic.Basic.{Basic}
use Rattle.hprof_values.specs.declared.basic.Basic.TheVariants as basics
use Rattle.hprof_values.specs.Basic.{width_of_basic}
use Rattle.hprof_values.specs.Ids.{width_of}
use Rattle.hprof_layouts.specs.declared.slot.Slot.{Slot}
use Rattle.hprof_layouts.specs.Fields.{width_of_slots}
use Rattle.hprof_layouts.specs.declared.reference.Reference.{Reference}
use Rattle.hprof_layouts.specs.declared.own_fields.OwnReference.{OwnReference}
use Rattle.hprof_layouts.specs.OwnFields.{referring, references_in}
use Rattle.hprof_layouts.specs.Plan.{most, reference_behind}
use Rattle.hprof_layouts.specs.Refers.{refers, NoneRefers}

-- ---- widths

-- what refers to something is an identifier
pub refers_width : (ids : IdSize) (basic : Basic) → refers basic ≡ true → width_of_basic ids basic ≡ width_of ids
refers_width ids basics.Array e = refl
refers_width ids basics.Object e = refl
refers_width ids basics.Boolean e = absurd cc
refers_width ids basics.Char e = absurd cc
refers_width ids basics.Float e = absurd cc
refers_width ids basics.Double e = absurd cc
refers_width ids basics.Byte e = absurd cc
refers_width ids basics.Short e = absurd cc
refers_width ids basics.Int e = absurd cc
refers_width ids basics.Long e = absurd cc

-- a value has one byte at least
pub width_some : (ids : IdSize) (basic : Basic) → 1 ≤ width_of_basic ids basic
width_some sizes.Four basics.Array = omega arith
width_some sizes.Eight basics.Array = omega arith
width_some sizes.Four basics.Object = omega arith
width_some sizes.Eight basics.Object = omega arith
width_some ids basics.Boolean = omega arith
width_some ids basics.Char = omega arith
width_some ids basics.Float = omega arith
width_some ids basics.Double = omega arith
width_some ids basics.Byte = omega arith
width_some ids basics.Short = omega arith
width_some ids basics.Int = omega arith
width_some ids basics.Long = omega arith

module _ (ids : IdSize) where
  pub width-cons : (slot : Slot) (slots : List Slot)
      → width_of_slots ids (slot ∷ slots) ≡ width_of_basic ids slot.basic + width_of_slots ids slots
  width-cons slot slots = sum_by-cons (λ (s : Slot). width_of_basic ids s.basic) slot slots

  pub width-append : (slots others : List Slot)
      → width_of_slots ids (slots ++ others) ≡ width_of_slots ids slots + width_of_slots ids others
  width-append slots others = sum_by-append (λ (s : Slot). width_of_basic ids s.basic) slots others

  -- there are no more slots than bytes
  pub length-le-width : (slots : List Slot) → length slots ≤ width_of_slots ids slots
  length-le-width [] = omega arith
  length-le-width (slot ∷ slots) =
      let split = width-cons slot slots in
      let less = length-le-width slots in
      let some = width_some ids slot.basic in
      omega arith

  -- ---- what slots refer to

  -- so far as there are two lists of slots
  pub references_in-append : (place : ℕ) (slots others : List Slot) (bytes : List ℕ)
      → references_in ids place (slots ++ others) bytes
      ≡ references_in ids place slots bytes ++ references_in ids (place + length slots) others (drop (width_of_slots ids slots) bytes)
  references_in-append place [] others bytes =
      ap (λ (p : ℕ). references_in ids p others bytes) (let e : place ≡ place + 0 = omega arith in e)
  references_in-append place (slot ∷ slots) others bytes =
      let head : List Reference =
      cond (refers slot.basic) (record { place = place; to = big_number (width_of_basic ids slot.basic) bytes } ∷ []) [] in
      let behind = drop (width_of_basic ids slot.basic) bytes in
      let places : (place + 1) + length slots ≡ place + length (slot ∷ slots) = omega arith in
      let widths : width_of_basic ids slot.basic + width_of_slots ids slots ≡ width_of_slots ids (slot ∷ slots) =
      sym (width-cons slot slots) in
      ap (λ (l : List Reference). head ++ l)
      (references_in-append (place + 1) slots others behind
      ∙ ap (λ (l : List ℕ). references_in ids (place + 1) slots behind ++ references_in ids ((place + 1) + length slots) others l)
      (drop-drop (width_of_slots ids slots) (width_of_basic ids slot.basic) bytes ∙ ap (λ (n : ℕ). drop n bytes) widths)
      ∙ ap (λ (p : ℕ). references_in ids (place + 1) slots behind
      ++ references_in ids p others (drop (width_of_slots ids (slot ∷ slots)) bytes)) places)
      ∙ sym (append_assoc head (references_in ids (place + 1) slots behind)
      (references_in ids (place + length (slot ∷ slots)) others (drop (width_of_slots ids (slot ∷ slots)) bytes)))

  -- slots that refer to nothing
  pub references_in-none : (place : ℕ) (slots : List Slot) (bytes : List ℕ) → NoneRefers slots → references_in ids place slots bytes ≡ []
  references_in-none place [] bytes none = refl
  references_in-none place (slot ∷ slots) bytes none =
      ap (λ (b : Bool). cond b (record { place = place; to = big_number (width_of_basic ids slot.basic) bytes } ∷ []) []
      ++ references_in ids (place + 1) slots (drop (width_of_basic ids slot.basic) bytes)) none.0
      ∙ references_in-none (place + 1) slots (drop (width_of_basic ids slot.basic) bytes) none.1

  pub references_in-behind : (place : ℕ) (before rest : List Slot) (bytes : List ℕ) → NoneRefers before
      → references_in ids place (before ++ rest) bytes
      ≡ references_in ids (place + length before) rest (drop (width_of_slots ids before) bytes)
  references_in-behind place before rest bytes none =
      references_in-append place before rest bytes
      ∙ ap (λ (l : List Reference). l ++ references_in ids (place + length before) rest (drop (width_of_slots ids before) bytes))
      (references_in-none place before bytes none)

  -- ---- the own fields that refer to something

  pub NoneRefers-append : (slots others : List Slot) → NoneRefers slots → NoneRefers others → NoneRefers (slots ++ others)
  NoneRefers-append [] others none too = too
  NoneRefers-append (slot ∷ slots) others none too = (none.0, NoneRefers-append slots others none.1 too)

  -- where there is none, none refers
  pub referring-none : (offset place : ℕ) (slots : List Slot) → referring ids offset place slots ≡ [] → NoneRefers slots
  referring-none offset place [] e = tt
  referring-none offset place (slot ∷ slots) e =
      let rest = referring ids (offset + width_of_basic ids slot.basic) (place + 1) slots in
      let go : (t : Bool) → refers slot.basic ≡ t → cond t (record { offset = offset; place = place } ∷ []) [] ++ rest ≡ []
      → (refers slot.basic ≡ false) × NoneRefers slots = λ t is same. elim t as (λ v. refers slot.basic ≡ v
      → cond v (record { offset = offset; place = place } ∷ []) [] ++ rest ≡ [] → (refers slot.basic ≡ false) × NoneRefers slots) [
        | true ↦ λ yes clash. absurd cc
        | false ↦ λ no none. (no, referring-none (offset + width_of_basic ids slot.basic) (place + 1) slots none)
      ] is same in
      go (refers slot.basic) refl e

  -- and where none refers, there is none
  pub nothing-referring : (offset place : ℕ) (slots : List Slot) → NoneRefers slots → referring ids offset place slots ≡ []
  nothing-referring offset place [] none = refl
  nothing-referring offset place (slot ∷ slots) none =
      ap (λ (b : Bool). cond b (record { offset = offset; place = place } ∷ []) []
      ++ referring ids (offset + width_of_basic ids slot.basic) (place + 1) slots) none.0
      ∙ nothing-referring (offset + width_of_basic ids slot.basic) (place + 1) slots none.1

  -- so far as there are two lists of slots
  pub referring-append : (offset place : ℕ) (slots others : List Slot)
      → referring ids offset place (slots ++ others)
      ≡ referring ids offset place slots ++ referring ids (offset + width_of_slots ids slots) (place + length slots) others
  referring-append offset place [] others =
      ap (λ (o : ℕ). referring ids o place others) (let e : offset ≡ offset + 0 = omega arith in e)
      ∙ ap (λ (p : ℕ). referring ids (offset + 0) p others) (let e : place ≡ place + 0 = omega arith in e)
  referring-append offset place (slot ∷ slots) others =
      let head : List OwnReference = cond (refers slot.basic) (record { offset = offset; place = place } ∷ []) [] in
      let rest = referring ids (offset + width_of_basic ids slot.basic) (place + 1) slots in
      let places : (place + 1) + length slots ≡ place + length (slot ∷ slots) = omega arith in
      let split = width-cons slot slots in
      let offsets : (offset + width_of_basic ids slot.basic) + width_of_slots ids slots ≡ offset + width_of_slots ids (slot ∷ slots) =
      omega arith in
      ap (λ (l : List OwnReference). head ++ l)
      (referring-append (offset + width_of_basic ids slot.basic) (place + 1) slots others
      ∙ ap (λ (o : ℕ). rest ++ referring ids o ((place + 1) + length slots) others) offsets
      ∙ ap (λ (p : ℕ). rest ++ referring ids (offset + width_of_slots ids (slot ∷ slots)) p others) places)
      ∙ sym (append_assoc head rest (referring ids (offset + width_of_slots ids (slot ∷ slots)) (place + length (slot ∷ slots)) others))

  -- behind more bytes and fields
  pub referring-behind : (bytes fields offset place : ℕ) (slots : List Slot) → (offset + bytes) + width_of_slots ids slots ≤ most
      → (place + fields) + length slots ≤ most
      → map (reference_behind bytes fields) (referring ids offset place slots) ≡ referring ids (offset + bytes) (place + fields) slots
  referring-behind bytes fields offset place [] few few_too = refl
  referring-behind bytes fields offset place (slot ∷ slots) few few_too =
      let width = width_of_basic ids slot.basic in
      let rest = referring ids (offset + width) (place + 1) slots in
      let then = referring ids ((offset + bytes) + width) ((place + fields) + 1) slots in
      let split = width-cons slot slots in
      let offsets : (offset + width_of_basic ids slot.basic) + bytes ≡ (offset + bytes) + width_of_basic ids slot.basic = omega arith in
      let places : (place + 1) + fields ≡ (place + fields) + 1 = omega arith in
      let fits : ((offset + width_of_basic ids slot.basic) + bytes) + width_of_slots ids slots ≤ most = omega arith in
      let fits_too : ((place + 1) + fields) + length slots ≤ most = omega arith in
      let later : map (reference_behind bytes fields) rest ≡ then =
      referring-behind bytes fields (offset + width) (place + 1) slots fits fits_too
      ∙ ap (λ (o : ℕ). referring ids o ((place + 1) + fields) slots) offsets
      ∙ ap (λ (p : ℕ). referring ids ((offset + bytes) + width) p slots) places in
      let exact : min (offset + bytes) most ≡ offset + bytes = omega arith in
      let exact_too : min (place + fields) most ≡ place + fields = omega arith in
      elim (refers slot.basic) as (λ t. map (reference_behind bytes fields)
      (cond t (record { offset = offset; place = place } ∷ []) [] ++ rest)
      ≡ cond t (record { offset = offset + bytes; place = place + fields } ∷ []) [] ++ then) [
        | true ↦ ap (λ (l : List OwnReference). reference_behind bytes fields (record { offset = offset; place = place }) ∷ l) later
            ∙ ap (λ (o : ℕ). record { offset = o; place = min (place + fields) most } ∷ then) exact
            ∙ ap (λ (p : ℕ). record { offset = offset + bytes; place = p } ∷ then) exact_too
        | false ↦ later
      ]

  -- where there is one, there are bytes
  pub referring-some : (offset place : ℕ) (slots : List Slot) → 0 < length (referring ids offset place slots) → 0 < width_of_slots ids slots
  referring-some offset place [] some = absurd (omega arith)
  referring-some offset place (slot ∷ slots) some =
      let split = width-cons slot slots in
      let more = width_some ids slot.basic in
      omega arith

  -- what a field refers to, in an instance
  abbrev pub reference_at : ℕ → List ℕ → OwnReference → Reference
  reference_at place bytes own = record { place = place + own.place; to = big_number (width_of ids) (drop own.offset bytes) }

  -- what all of them refer to
  pub references_in-referring : (place : ℕ) (bytes : List ℕ) (offset before : ℕ) (slots : List Slot)
      → map (reference_at place bytes) (referring ids offset before slots) ≡ references_in ids (place + before) slots (drop offset bytes)
  references_in-referring place bytes offset before [] = refl
  references_in-referring place bytes offset before (slot ∷ slots) =
      let width = width_of_basic ids slot.basic in
      let rest = referring ids (offset + width) (before + 1) slots in
      let places : place + (before + 1) ≡ (place + before) + 1 = omega arith in
      let later : map (reference_at place bytes) rest ≡ references_in ids ((place + before) + 1) slots (drop width (drop offset bytes)) =
      references_in-referring place bytes (offset + width) (before + 1) slots
      ∙ ap (λ (p : ℕ). references_in ids p slots (drop (offset + width) bytes)) places
      ∙ ap (λ (l : List ℕ). references_in ids ((place + before) + 1) slots l) (sym (drop-drop width offset bytes)) in
      elim (refers slot.basic) as (λ t. refers slot.basic ≡ t
      → map (reference_at place bytes) (cond t (record { offset = offset; place = before } ∷ []) [] ++ rest)
      ≡ cond t (record { place = place + before; to = big_number width (drop offset bytes) } ∷ []) []
      ++ references_in ids ((place + before) + 1) slots (drop width (drop offset bytes))) [
        | true ↦ λ yes. ap (λ (l : List Reference). reference_at place bytes (record { offset = offset; place = before }) ∷ l) later
            ∙ ap (λ (n : ℕ). record { place = place + before; to = big_number n (drop offset bytes) }
            ∷ references_in ids ((place + before) + 1) slots (drop width (drop offset bytes))) (sym (refers_width ids slot.basic yes))
        | false ↦ λ no. later
      ] refl

  -- each lies within the bytes
  abbrev pub IsWithin : ℕ → ℕ → OwnReference → Type 0
  IsWithin end count own = (own.offset + width_of ids ≤ end) × (own.place < count)

  pub referring-within : (offset place end count : ℕ) (slots : List Slot) → offset + width_of_slots ids slots ≡ end
      → place + length slots ≡ count → AllByRecursion (IsWithin end count) (referring ids offset place slots)
  referring-within offset place end count [] e f = tt
  referring-within offset place end count (slot ∷ slots) e f =
      let split = width-cons slot slots in
      let width = width_of_basic ids slot.basic in
      let ends : (offset + width_of_basic ids slot.basic) + width_of_slots ids slots ≡ end = omega arith in
      let counts : (place + 1) + length slots ≡ count = omega arith in
      let rest = referring-within (offset + width) (place + 1) end count slots ends counts in
      elim (refers slot.basic) as (λ t. refers slot.basic ≡ t → AllByRecursion (IsWithin end count)
      (cond t (record { offset = offset; place = place } ∷ []) [] ++ referring ids (offset + width) (place + 1) slots)) [
        | true ↦ λ yes. let wide = refers_width ids slot.basic yes in ((omega arith, omega arith), rest)
        | false ↦ λ no. rest
      ] refl
