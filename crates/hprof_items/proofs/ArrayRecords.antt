-- Arrays: what is read is spelled so, and what is spelled is read.
use Rattle.std.proofs.Common.{◌≡◌, ℕ, ◌+◌, ◌*◌, ◌/◌, ◌%◌, ◌≤◌, List, [], ◌∷◌, ◌++◌, length, drop, Option, Some, None, Result, Ok, refl, sym}
use Rattle.std.proofs.Common.{ap, subst, ◌∙◌, append_assoc, arith}
use Rattle.std.proofs.lemmas.List.{length-append}
use Rattle.std.proofs.lemmas.Nat.{div-add-mod'}
use Rattle.std.specs.Prelude.{sum, slice_index}
use Rattle.hprof_values.specs.declared.ids.IdSize.{IdSize}
use Rattle.hprof_values.specs.declared.basic.Basic.{Basic}
use Rattle.hprof_values.specs.declared.basic.Basic.TheVariants as basics
use Rattle.hprof_values.specs.declared.parse_stop.ParseStop.{ParseStop}
use Rattle.hprof_values.specs.Ids.{width_of, IsBytes}
use Rattle.hprof_values.specs.Basic.{code_of_basic, basic_of_code, width_of_basic}
use Rattle.hprof_values.specs.FieldGroups.{field_bytes, fields_in, FitFields, Bounds, ◌>>=◌, reached, IsWithin}
use Rattle.hprof_values.specs.Lists.{id_widths, IsIdList, ids_in}
use Rattle.hprof_items.specs.FactValue.{FactValue, ObjArray, PrimArray}
use Rattle.hprof_items.specs.SubRecord.{cut, obj_array_widths, obj_array_numbers, obj_array_at, prim_array_widths, prim_array_numbers}
use Rattle.hprof_items.specs.SubRecord.{prim_array_at, element_type, dump_bytes, DumpFits, IsDumpOf}
use Rattle.hprof_values.proofs.Numbers.{IsBytes-drop, IsBytes-take}
use Rattle.hprof_values.proofs.FieldGroups.{length-fields, then_ok, then_next, within-less}
use Rattle.hprof_values.proofs.EntryLists.{code_found, code_again}
use Rattle.hprof_values.proofs.IdLists.{sum-id_widths, ids_whole, length-ids, ids_found, ids_again}
use Rattle.hprof_items.proofs.SubRecords.{dump_found, dump_again, along_answer}

-- ---- arrays of objects

-- an array that is read is spelled there
pub obj_array_found : (ids : IdSize) (bounds : Bounds) (bytes : List ℕ) (fact : FactValue) (n : ℕ) → IsBytes bytes
    → bounds.there ≤ length bytes
    → obj_array_at ids bounds bytes ≡ Ok (fact, n) → IsDumpOf ids bounds bytes fact n
unfolding obj_array_at
obj_array_found ids bounds bytes fact n are there e =
    let widths : List ℕ = obj_array_widths ids in
    let numbers : List ℕ = fields_in widths (drop 1 bytes) in
    let id : ℕ = slice_index numbers 0 in
    let trace : ℕ = slice_index numbers 1 in
    let count : ℕ = slice_index numbers 2 in
    let class : ℕ = slice_index numbers 3 in
    let len : ℕ = count * width_of ids in
    let read : ℕ → FactValue = λ front. ObjArray id trace class (ids_in ids (cut len front bytes)) in
    let first = then_ok (reached bounds 1 widths) (λ (front : ℕ). reached bounds front (len ∷ []) >>= λ (end : ℕ). Ok (read front, end))
    (fact, n) e in
    let second = then_ok (reached bounds first.0 (len ∷ [])) (λ (end : ℕ). Ok (read first.0, end)) (fact, n) first.2 in
    let dump = dump_found bounds (width_of ids) (4 ∷ 4 ∷ width_of ids ∷ []) len bytes first.0 second.0 are there first.1 second.1 in
    let raw : List ℕ = cut len first.0 bytes in
    let elements : List ℕ = ids_in ids raw in
    let whole : length raw % width_of ids ≡ 0 = ap (λ (k : ℕ). k % width_of ids) dump.raw ∙ (ids_whole ids count).0 in
    let many : length elements ≡ count = length-ids ids raw ∙ ap (λ (k : ℕ). k / width_of ids) dump.raw ∙ (ids_whole ids count).1 in
    let list : IsIdList ids elements raw = ids_found ids raw (IsBytes-take len (drop first.0 bytes) (IsBytes-drop first.0 bytes are))
    whole in
    let same : numbers ≡ obj_array_numbers id trace class elements = ap (λ (k : ℕ). id ∷ trace ∷ k ∷ class ∷ []) (sym many) in
    let fits = subst (FitFields widths) same dump.fits in
    let back : List ℕ = field_bytes (id_widths ids (length elements)) elements in
    let is : IsDumpOf ids bounds bytes (read first.0) second.0 = record {
      fits = (fits, list.fits);
      spelled = dump.parts ∙ ap (λ (ns : List ℕ). field_bytes widths ns ++ (raw ++ drop second.0 bytes)) same
          ∙ sym (append_assoc (field_bytes widths (obj_array_numbers id trace class elements)) raw (drop second.0 bytes))
          ∙ ap (λ (r : List ℕ). (field_bytes widths (obj_array_numbers id trace class elements) ++ r) ++ drop second.0 bytes) list.spelled;
      ends = omega (
        arith,
        dump.ends,
        dump.ends_front,
        dump.raw,
        ap length list.spelled,
        length-append (field_bytes widths (obj_array_numbers id trace class elements)) back,
        length-fields widths (obj_array_numbers id trace class elements) fits,
      );
      within = dump.within;
    } in
    along_answer ids bounds bytes (read first.0) fact second.0 n second.2 is

-- an array that is spelled is read, whatever follows
pub obj_array_again : (ids : IdSize) (bounds : Bounds) (id trace class : ℕ) (elements rest bytes : List ℕ)
    → DumpFits ids (ObjArray id trace class elements)
    → drop 1 bytes ≡ drop 1 (dump_bytes ids (ObjArray id trace class elements)) ++ rest
    → IsWithin bounds (length (dump_bytes ids (ObjArray id trace class elements)))
    → obj_array_at ids bounds bytes ≡ Ok (ObjArray id trace class elements, length (dump_bytes ids (ObjArray id trace class elements)))
unfolding obj_array_at
obj_array_again ids bounds id trace class elements rest bytes fits spelled within =
    let widths : List ℕ = obj_array_widths ids in
    let numbers : List ℕ = obj_array_numbers id trace class elements in
    let raw : List ℕ = field_bytes (id_widths ids (length elements)) elements in
    let all : ℕ = length (dump_bytes ids (ObjArray id trace class elements)) in
    let size : length raw ≡ length elements * width_of ids = length-fields (id_widths ids (length elements)) elements fits.1
    ∙ sum-id_widths ids (length elements) in
    let len : 1 + sum widths + length raw ≡ all =
    omega (arith, length-fields widths numbers fits.0, length-append (field_bytes widths numbers) raw) in
    let again = dump_again bounds widths numbers raw rest bytes fits.0 (spelled ∙ append_assoc (field_bytes widths numbers) raw rest)
    (within-less bounds (1 + sum widths + length raw) all (omega arith) within) in
    let list : IsIdList ids elements raw = record { fits = fits.1; spelled = refl } in
    let step : List ℕ → ℕ → ℕ → Result (FactValue × ℕ) ParseStop =
    λ ns size front. reached bounds front (size ∷ []) >>= λ (end : ℕ).
    Ok (ObjArray (slice_index ns 0) (slice_index ns 1) (slice_index ns 3) (ids_in ids (cut size front bytes)), end) in
    ap (λ (ns : List ℕ). reached bounds 1 widths >>= step ns (slice_index ns 2 * width_of ids)) again.0
    ∙ ap (λ (k : ℕ). reached bounds 1 widths >>= step numbers k) (sym size)
    ∙ then_next (reached bounds 1 widths) (step numbers (length raw)) (1 + sum widths) again.1
    ∙ then_next (reached bounds (1 + sum widths) (length raw ∷ [])) (λ (end : ℕ).
    Ok (ObjArray id trace class (ids_in ids (cut (length raw) (1 + sum widths) bytes)), end)) (1 + sum widths + length raw) again.2
    ∙ ap (λ (r : List ℕ). Ok (ObjArray id trace class (ids_in ids r), 1 + sum widths + length raw)) again.3
    ∙ ap (λ (es : List ℕ). Ok (ObjArray id trace class es, 1 + sum widths + length raw)) (ids_again ids elements raw list).1
    ∙ ap (λ (n : ℕ). Ok (ObjArray id trace class elements, n)) len

-- ---- arrays of numbers or truth values

-- so many whole values
values_whole : (ids : IdSize) (basic : Basic) (count : ℕ) → (count * width_of_basic ids basic % width_of_basic ids basic ≡ 0)
    × (count * width_of_basic ids basic / width_of_basic ids basic ≡ count)
values_whole ids basics.Array count = ids_whole ids count
values_whole ids basics.Object count = ids_whole ids count
values_whole ids basics.Boolean count = (omega arith, omega arith)
values_whole ids basics.Char count = (omega arith, omega arith)
values_whole ids basics.Float count = (omega arith, omega arith)
values_whole ids basics.Double count = (omega arith, omega arith)
values_whole ids basics.Byte count = (omega arith, omega arith)
values_whole ids basics.Short count = (omega arith, omega arith)
values_whole ids basics.Int count = (omega arith, omega arith)
values_whole ids basics.Long count = (omega arith, omega arith)

-- as many bytes as so many values have
pub whole_values : (ids : IdSize) (basic : Basic) (len : ℕ) → len % width_of_basic ids basic ≡ 0
    → len / width_of_basic ids basic * width_of_basic ids basic ≡ len
whole_values ids basic len whole = let parts = div-add-mod' len (width_of_basic ids basic) in omega arith

-- a type that elements may have
element_is : (o : Option Basic) (elem : Basic) → element_type o ≡ Ok elem → (o ≡ Some elem) × (element_type (Some elem) ≡ Ok elem)
element_is None elem e = absurd cc
element_is (Some basics.Array) elem e = absurd cc
element_is (Some basics.Object) elem e = absurd cc
element_is (Some other) elem e = let same : other ≡ elem = cc in (ap Some same, ap (λ (b : Basic). element_type (Some b)) (sym same) ∙ e)

-- an array that is read is spelled there
pub prim_array_found : (ids : IdSize) (bounds : Bounds) (bytes : List ℕ) (fact : FactValue) (n : ℕ) → IsBytes bytes
    → bounds.there ≤ length bytes
    → prim_array_at ids bounds bytes ≡ Ok (fact, n) → IsDumpOf ids bounds bytes fact n
unfolding prim_array_at
prim_array_found ids bounds bytes fact n are there e =
    let widths : List ℕ = prim_array_widths ids in
    let numbers : List ℕ = fields_in widths (drop 1 bytes) in
    let id : ℕ = slice_index numbers 0 in
    let trace : ℕ = slice_index numbers 1 in
    let count : ℕ = slice_index numbers 2 in
    let code : ℕ = slice_index numbers 3 in
    let size : Basic → ℕ = λ elem. count * width_of_basic ids elem in
    let read : Basic → ℕ → FactValue = λ elem front. PrimArray id trace elem (cut (size elem) front bytes) in
    let last : ℕ → Basic → Result (FactValue × ℕ) ParseStop = λ front elem. reached bounds front (size elem ∷ []) >>= λ (end : ℕ).
    Ok (read elem front, end) in
    let first = then_ok (reached bounds 1 widths) (λ (front : ℕ). element_type (basic_of_code code) >>= last front) (fact, n) e in
    let typed = then_ok (element_type (basic_of_code code)) (last first.0) (fact, n) first.2 in
    let elem : Basic = typed.0 in
    let second = then_ok (reached bounds first.0 (size elem ∷ [])) (λ (end : ℕ). Ok (read elem first.0, end)) (fact, n) typed.2 in
    let dump = dump_found bounds (width_of ids) (4 ∷ 4 ∷ 1 ∷ []) (size elem) bytes first.0 second.0 are there first.1 second.1 in
    let raw : List ℕ = cut (size elem) first.0 bytes in
    let right = element_is (basic_of_code code) elem typed.1 in
    let whole = ap (λ (k : ℕ). k % width_of_basic ids elem) dump.raw ∙ (values_whole ids elem count).0 in
    let many : length raw / width_of_basic ids elem ≡ count = ap (λ (k : ℕ). k / width_of_basic ids elem) dump.raw
    ∙ (values_whole ids elem count).1 in
    let same : numbers ≡ prim_array_numbers ids id trace elem raw =
    ap (λ (k : ℕ). id ∷ trace ∷ k ∷ code ∷ []) (sym many) ∙ ap (λ (k : ℕ). id ∷ trace ∷ length raw / width_of_basic ids elem ∷ k ∷ [])
    (sym (code_found code elem right.0)) in
    let fits = subst (FitFields widths) same dump.fits in
    let is : IsDumpOf ids bounds bytes (read elem first.0) second.0 = record {
      fits = (fits, dump.are, whole, right.1);
      spelled = dump.parts ∙ ap (λ (ns : List ℕ). field_bytes widths ns ++ (raw ++ drop second.0 bytes)) same
          ∙ sym (append_assoc (field_bytes widths (prim_array_numbers ids id trace elem raw)) raw (drop second.0 bytes));
      ends = omega (
        arith,
        dump.ends,
        dump.ends_front,
        dump.raw,
        length-append (field_bytes widths (prim_array_numbers ids id trace elem raw)) raw,
        length-fields widths (prim_array_numbers ids id trace elem raw) fits,
      );
      within = dump.within;
    } in
    along_answer ids bounds bytes (read elem first.0) fact second.0 n second.2 is

-- an array that is spelled is read, whatever follows
pub prim_array_again : (ids : IdSize) (bounds : Bounds) (id trace : ℕ) (elem : Basic) (raw rest bytes : List ℕ)
    → DumpFits ids (PrimArray id trace elem raw)
    → drop 1 bytes ≡ drop 1 (dump_bytes ids (PrimArray id trace elem raw)) ++ rest
    → IsWithin bounds (length (dump_bytes ids (PrimArray id trace elem raw)))
    → prim_array_at ids bounds bytes ≡ Ok (PrimArray id trace elem raw, length (dump_bytes ids (PrimArray id trace elem raw)))
unfolding prim_array_at
prim_array_again ids bounds id trace elem raw rest bytes fits spelled within =
    let widths : List ℕ = prim_array_widths ids in
    let numbers : List ℕ = prim_array_numbers ids id trace elem raw in
    let all : ℕ = length (dump_bytes ids (PrimArray id trace elem raw)) in
    let len : 1 + sum widths + length raw ≡ all =
    omega (arith, length-fields widths numbers fits.0, length-append (field_bytes widths numbers) raw) in
    let again = dump_again bounds widths numbers raw rest bytes fits.0 (spelled ∙ append_assoc (field_bytes widths numbers) raw rest)
    (within-less bounds (1 + sum widths + length raw) all (omega arith) within) in
    let last : List ℕ → ℕ → Basic → ℕ → Result (FactValue × ℕ) ParseStop =
    λ ns front basic size. reached bounds front (size ∷ []) >>= λ (end : ℕ).
    Ok (PrimArray (slice_index ns 0) (slice_index ns 1) basic (cut size front bytes), end) in
    let next : List ℕ → ℕ → Result (FactValue × ℕ) ParseStop =
    λ ns front. element_type (basic_of_code (slice_index ns 3)) >>= λ (basic : Basic).
    last ns front basic (slice_index ns 2 * width_of_basic ids basic) in
    ap (λ (ns : List ℕ). reached bounds 1 widths >>= next ns) again.0
    ∙ then_next (reached bounds 1 widths) (next numbers) (1 + sum widths) again.1
    ∙ then_next (element_type (basic_of_code (code_of_basic elem))) (λ (basic : Basic).
    last numbers (1 + sum widths) basic (slice_index numbers 2 * width_of_basic ids basic)) elem
    (ap element_type (code_again elem) ∙ fits.3)
    ∙ ap (last numbers (1 + sum widths) elem) (whole_values ids elem (length raw) fits.2)
    ∙ then_next (reached bounds (1 + sum widths) (length raw ∷ [])) (λ (end : ℕ).
    Ok (PrimArray id trace elem (cut (length raw) (1 + sum widths) bytes), end)) (1 + sum widths + length raw) again.2
    ∙ ap (λ (r : List ℕ). Ok (PrimArray id trace elem r, 1 + sum widths + length raw)) again.3
    ∙ ap (λ (n : ℕ). Ok (PrimArray id trace elem raw, n)) len
