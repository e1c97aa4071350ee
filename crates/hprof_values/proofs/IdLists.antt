-- Identifiers, one behind the other.
use Rattle.std.proofs.Common.{◌≡◌, ℕ, zero, suc, ◌+◌, ◌-◌, ◌*◌, ◌/◌, ◌%◌, ◌<◌, ◌≤◌, List, [], ◌∷◌, ◌++◌, length, drop, Some, None, refl}
use Rattle.std.proofs.Common.{sym, ap, subst, ◌∙◌, append-nil, arith}
use Rattle.std.proofs.lemmas.List.{length-drop, drop_all}
use Rattle.std.proofs.lemmas.Option.{slice_get_past}
use Rattle.std.proofs.Math.Seq.{drop-drop}
use Rattle.std.specs.Prelude.{sum, slice_get}
use Rattle.byteorder.specs.Endian.{big_number}
use Rattle.hprof_values.specs.declared.ids.IdSize.{IdSize}
use Rattle.hprof_values.specs.declared.ids.IdSize.TheVariants.{Four, Eight}
use Rattle.hprof_values.specs.Ids.{width_of, IsBytes}
use Rattle.hprof_values.specs.FieldGroups.{field_bytes, fields_in, FitFields}
use Rattle.hprof_values.specs.Lists.{id_widths, IsIdList, ids_in}
use Rattle.hprof_values.proofs.FieldGroups.{sum_widths, length-fields, fields_again, fields_fit, fields_found}

-- as many numbers are read as there are widths
pub length-fields_in : (widths bytes : List ℕ) → length (fields_in widths bytes) ≡ length widths
length-fields_in [] bytes = refl
length-fields_in (w ∷ ws) bytes = ap suc (length-fields_in ws (drop w bytes))

-- so many widths
length-id_widths : (ids : IdSize) (count : ℕ) → length (id_widths ids count) ≡ count
length-id_widths ids zero = refl
length-id_widths ids (suc count) = ap suc (length-id_widths ids count)

pub sum-id_widths : (ids : IdSize) (count : ℕ) → sum (id_widths ids count) ≡ count * width_of ids
sum-id_widths ids zero = let none : 0 * width_of ids ≡ 0 = omega arith in sym none
sum-id_widths ids (suc count) = omega (arith, sum_widths (width_of ids) (id_widths ids count), sum-id_widths ids count)

-- ---- numbers of bytes that are whole identifiers

pub whole_ids : (ids : IdSize) (len : ℕ) → len % width_of ids ≡ 0 → len ≡ len / width_of ids * width_of ids
whole_ids Four len whole = omega arith
whole_ids Eight len whole = omega arith

pub ids_whole : (ids : IdSize) (count : ℕ) → (count * width_of ids % width_of ids ≡ 0) × (count * width_of ids / width_of ids ≡ count)
ids_whole Four count = (omega arith, omega arith)
ids_whole Eight count = (omega arith, omega arith)

-- an identifier at a place
pub place_lies : (ids : IdSize) (len place : ℕ) → place < len / width_of ids → place * width_of ids + width_of ids ≤ len
place_lies Four len place lt = omega arith
place_lies Eight len place lt = omega arith

-- one identifier less
pub one_less : (ids : IdSize) (len : ℕ) → 0 < len → len % width_of ids ≡ 0 → (width_of ids ≤ len)
    × ((len - width_of ids) % width_of ids ≡ 0) × (len / width_of ids ≡ suc ((len - width_of ids) / width_of ids))
one_less Four len some whole = (omega arith, omega arith, omega arith)
one_less Eight len some whole = (omega arith, omega arith, omega arith)

-- ---- the identifiers

-- how many are read
pub length-ids : (ids : IdSize) (bytes : List ℕ) → length (ids_in ids bytes) ≡ length bytes / width_of ids
length-ids ids bytes = length-fields_in (id_widths ids (length bytes / width_of ids)) bytes
    ∙ length-id_widths ids (length bytes / width_of ids)

pub no_more_ids : (ids : IdSize) (len : ℕ) → len / width_of ids ≤ len
no_more_ids Four len = omega arith
no_more_ids Eight len = omega arith

-- what is read is spelled so
pub ids_found : (ids : IdSize) (bytes : List ℕ) → IsBytes bytes → length bytes % width_of ids ≡ 0 → IsIdList ids (ids_in ids bytes) bytes
ids_found ids bytes are whole =
    let count = length bytes / width_of ids in
    let widths = id_widths ids count in
    let len = length-ids ids bytes in
    let all : sum widths ≡ length bytes = sum-id_widths ids count ∙ sym (whole_ids ids (length bytes) whole) in
    record {
      fits = subst (λ (n : ℕ). FitFields (id_widths ids n) (ids_in ids bytes)) (sym len) (fields_fit widths bytes are);
      spelled =
          fields_found widths bytes are (omega arith)
          ∙ ap (λ (r : List ℕ). field_bytes widths (ids_in ids bytes) ++ r) (drop_all (sum widths) bytes (omega arith))
          ∙ append-nil (field_bytes widths (ids_in ids bytes))
          ∙ ap (λ (n : ℕ). field_bytes (id_widths ids n) (ids_in ids bytes)) (sym len);
    }

-- what is spelled is read, and no identifier is cut
pub ids_again : (ids : IdSize) (numbers bytes : List ℕ) → IsIdList ids numbers bytes → (length bytes % width_of ids ≡ 0)
    × (ids_in ids bytes ≡ numbers)
ids_again ids numbers bytes list =
    let widths = id_widths ids (length numbers) in
    let len : length bytes ≡ length numbers * width_of ids = ap length list.spelled ∙ length-fields widths numbers list.fits
    ∙ sum-id_widths ids (length numbers) in
    let count : length bytes / width_of ids ≡ length numbers = ap (λ (n : ℕ). n / width_of ids) len
    ∙ (ids_whole ids (length numbers)).1 in (
      ap (λ (n : ℕ). n % width_of ids) len ∙ (ids_whole ids (length numbers)).0,
      ap (λ (n : ℕ). fields_in (id_widths ids n) bytes) count
          ∙ ap (fields_in widths) (list.spelled ∙ sym (append-nil (field_bytes widths numbers)))
          ∙ fields_again widths numbers [] list.fits,
    )

-- the identifier at a place
nth_in : (ids : IdSize) (count place : ℕ) (bytes : List ℕ) → place < count → slice_get (fields_in (id_widths ids count) bytes) place
    ≡ Some (big_number (width_of ids) (drop (place * width_of ids) bytes))
nth_in ids zero place bytes lt = absurd (omega arith)
nth_in ids (suc count) zero bytes lt = let none : 0 ≡ 0 * width_of ids =
    omega arith in ap (λ (n : ℕ). Some (big_number (width_of ids) (drop n bytes))) none
nth_in ids (suc count) (suc place) bytes lt =
    let same : width_of ids + place * width_of ids ≡ suc place * width_of ids = omega arith in
    nth_in ids count place (drop (width_of ids) bytes) (omega arith)
    ∙ ap (λ (r : List ℕ). Some (big_number (width_of ids) r)) (drop-drop (place * width_of ids) (width_of ids) bytes
    ∙ ap (λ (n : ℕ). drop n bytes) same)

pub id_nth : (ids : IdSize) (bytes : List ℕ) (place : ℕ) → place < length bytes / width_of ids → slice_get (ids_in ids bytes) place
    ≡ Some (big_number (width_of ids) (drop (place * width_of ids) bytes))
id_nth ids bytes place lt = nth_in ids (length bytes / width_of ids) place bytes lt

-- the first identifier, and the others
pub id_first : (ids : IdSize) (bytes : List ℕ) → 0 < length bytes → length bytes % width_of ids ≡ 0
    → ids_in ids bytes ≡ big_number (width_of ids) bytes ∷ ids_in ids (drop (width_of ids) bytes)
id_first ids bytes some whole =
    let less = one_less ids (length bytes) some whole in
    let count : length bytes / width_of ids ≡ suc (length (drop (width_of ids) bytes) / width_of ids) =
    less.2 ∙ ap (λ (n : ℕ). suc (n / width_of ids)) (sym (length-drop (width_of ids) bytes)) in
    ap (λ (n : ℕ). fields_in (id_widths ids n) bytes) count

-- ---- by a width that is that of the identifiers

pub length-by : (ids : IdSize) (width : ℕ) (bytes : List ℕ) → width ≡ width_of ids → length bytes / width ≡ length (ids_in ids bytes)
length-by ids width bytes is = ap (λ (w : ℕ). length bytes / w) is ∙ sym (length-ids ids bytes)

pub whole_by : (ids : IdSize) (width : ℕ) (bytes : List ℕ) → width ≡ width_of ids → length bytes % width ≡ 0
    → length bytes % width_of ids ≡ 0
whole_by ids width bytes is whole = ap (λ (w : ℕ). length bytes % w) (sym is) ∙ whole

-- bytes that are cut within an identifier are no list
pub cut_by : (ids : IdSize) (width : ℕ) (numbers bytes : List ℕ) → width ≡ width_of ids → (length bytes % width ≡ 0 → ⊥)
    → IsIdList ids numbers bytes → ⊥
cut_by ids width numbers bytes is cut list = cut (ap (λ (w : ℕ). length bytes % w) is ∙ (ids_again ids numbers bytes list).0)

pub place_by : (ids : IdSize) (width len place : ℕ) → width ≡ width_of ids → place < len / width → place * width + width ≤ len
place_by ids width len place is lt =
    subst (λ (w : ℕ). place * w + w ≤ len) (sym is) (place_lies ids len place (subst (λ (w : ℕ). place < len / w) is lt))

pub nth_by : (ids : IdSize) (width : ℕ) (bytes rest : List ℕ) (place : ℕ) → width ≡ width_of ids → place < length bytes / width
    → rest ≡ drop (place * width) bytes
    → Some (big_number (width_of ids) rest) ≡ slice_get (ids_in ids bytes) place
nth_by ids width bytes rest place is lt e =
    ap (λ (r : List ℕ). Some (big_number (width_of ids) r)) (e ∙ ap (λ (w : ℕ). drop (place * w) bytes) is)
    ∙ sym (id_nth ids bytes place (subst (λ (w : ℕ). place < length bytes / w) is lt))

-- past the end there is none
pub past_by : (ids : IdSize) (width : ℕ) (bytes : List ℕ) (place : ℕ) → width ≡ width_of ids → length bytes / width ≤ place
    → None ≡ slice_get (ids_in ids bytes) place
past_by ids width bytes place is le = sym (slice_get_past (ids_in ids bytes) place (let len = length-by ids width bytes is in omega arith))
