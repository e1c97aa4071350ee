-- Entries, one behind the other, and the bytes that spell them.
use Rattle.std.proofs.Common.{◌≡◌, ℕ, zero, suc, ◌+◌, ◌*◌, ◌<◌, ◌≤◌, Bool, true, false, cond, List, [], ◌∷◌, ◌++◌, length, drop, Option}
use Rattle.std.proofs.Common.{Some, None, Ok, refl, sym, ap, ◌∙◌, append_assoc, arith}
use Rattle.std.proofs.lemmas.Bool.{eqb-true}
use Rattle.std.proofs.lemmas.List.{drop_at, length-append, length-drop, get_or-drop}
use Rattle.std.proofs.Math.Seq.{drop-drop}
use Rattle.std.specs.Prelude.{◌==◌, sum, slice_index, unwrap_or, find}
use Rattle.byteorder.specs.Endian.{big_bytes, big_number}
use Rattle.byteorder.specs.Numbers.{big_from-lt, length-bytes_high_first}
use Rattle.hprof_values.specs.declared.ids.IdSize.{IdSize}
use Rattle.hprof_values.specs.declared.ids.IdSize.TheVariants.{Four, Eight}
use Rattle.hprof_values.specs.declared.basic.Basic.{Basic}
use Rattle.hprof_values.specs.declared.basic.Basic.TheVariants as basics
use Rattle.hprof_values.specs.declared.entry.Entry.{Entry}
use Rattle.hprof_values.specs.declared.entry.EntryKind.{EntryKind}
use Rattle.hprof_values.specs.declared.entry.EntryKind.TheVariants as kinds
use Rattle.hprof_values.specs.Ids.{IsBytes}
use Rattle.hprof_values.specs.Basic.{code_of_basic, all_basics, basic_of_code, width_of_basic}
use Rattle.hprof_values.specs.FieldGroups.{field_bytes, fields_in, Bounds, ◌>>=◌, reached, IsWithin}
use Rattle.hprof_values.specs.Entries.{lead_width, bits_width, entry_widths, entry_numbers, entry_len, entry_bytes, EntryFits}
use Rattle.hprof_values.specs.Entries.{entries_bytes, EntriesFit, typed_entry, entry_in, entries_in, judged_type, entry_end}
use Rattle.hprof_values.proofs.Numbers.{IsBytes-drop}
use Rattle.hprof_values.proofs.FieldGroups.{sum_widths, fields_again, fields_found, then_ok, then_next, within-less, reached_within}
use Rattle.hprof_values.proofs.FieldGroups.{reached_passed}

-- ---- types and their codes

-- what is found passes the test, by what the first element answered
found_by : {X : Type 0} (p : X → Bool) (t : Bool) (y x : X) (o : Option X) → p y ≡ t → (o ≡ Some x → p x ≡ true)
    → cond t (Some y) o ≡ Some x → p x ≡ true
found_by p true y x o e h is = let same : y ≡ x = cc in ap p (sym same) ∙ e
found_by p false y x o e h is = h is

-- what is found passes the test
pub find_passes : {X : Type 0} (p : X → Bool) (xs : List X) (x : X) → find p xs ≡ Some x → p x ≡ true
find_passes p [] x e = absurd cc
find_passes p (y ∷ ys) x e = found_by p (p y) y x (find p ys) refl (find_passes p ys x) e

-- the type of a code has that code
pub code_found : (code : ℕ) (basic : Basic) → basic_of_code code ≡ Some basic → code_of_basic basic ≡ code
code_found code basic e = eqb-true _ _ (find_passes (λ (b : Basic). code_of_basic b == code) all_basics basic e)

-- a type's code stands for it
pub code_again : (basic : Basic) → basic_of_code (code_of_basic basic) ≡ Some basic
code_again basics.Array = refl
code_again basics.Object = refl
code_again basics.Boolean = refl
code_again basics.Char = refl
code_again basics.Float = refl
code_again basics.Double = refl
code_again basics.Byte = refl
code_again basics.Short = refl
code_again basics.Int = refl
code_again basics.Long = refl

-- a code is a byte
code_below : (basic : Basic) → code_of_basic basic < 256
code_below basics.Array = omega arith
code_below basics.Object = omega arith
code_below basics.Boolean = omega arith
code_below basics.Char = omega arith
code_below basics.Float = omega arith
code_below basics.Double = omega arith
code_below basics.Byte = omega arith
code_below basics.Short = omega arith
code_below basics.Int = omega arith
code_below basics.Long = omega arith

-- ---- one entry

-- how many bytes its fields have
pub sum_entry : (ids : IdSize) (kind : EntryKind) (entry : Entry) → sum (entry_widths ids kind entry.basic) ≡ entry_len ids kind entry
sum_entry ids kind entry =
    let lead = lead_width ids kind in
    let bits = bits_width ids kind entry.basic in
    omega (arith, sum_widths lead (1 ∷ bits ∷ []), sum_widths 1 (bits ∷ []), sum_widths bits [])

-- and its bytes are
pub length-entry : (ids : IdSize) (kind : EntryKind) (entry : Entry) → length (entry_bytes ids kind entry) ≡ entry_len ids kind entry
length-entry ids kind entry =
    let lead = lead_width ids kind in
    let bits = bits_width ids kind entry.basic in
    let last : List ℕ = big_bytes bits entry.bits ++ [] in
    omega (
      arith,
      length-append (big_bytes lead entry.number) (big_bytes 1 (code_of_basic entry.basic) ++ last),
      length-bytes_high_first lead entry.number,
      length-append (big_bytes 1 (code_of_basic entry.basic)) last,
      length-bytes_high_first 1 (code_of_basic entry.basic),
      length-append (big_bytes bits entry.bits) [],
      length-bytes_high_first bits entry.bits,
    )

-- an entry that is read is in range
pub entry_fits : (ids : IdSize) (kind : EntryKind) (bytes : List ℕ) → IsBytes bytes → EntryFits ids kind (entry_in ids kind bytes)
entry_fits ids kind bytes are =
    let entry = entry_in ids kind bytes in (
      big_from-lt 0 (lead_width ids kind) bytes are,
      (
        code_below entry.basic,
        (
          big_from-lt 0 (bits_width ids kind entry.basic) (drop (lead_width ids kind + 1) bytes)
              (IsBytes-drop (lead_width ids kind + 1) bytes are),
          tt,
        ),
      ),
    )

-- a number of one byte
one_byte : (bytes : List ℕ) → big_number 1 bytes ≡ slice_index bytes 0
one_byte bytes = omega arith

-- an entry whose type is right is spelled by the bytes that are read
pub entry_found : (ids : IdSize) (kind : EntryKind) (bytes : List ℕ) (basic : Basic) → IsBytes bytes
    → basic_of_code (slice_index (drop (lead_width ids kind) bytes) 0) ≡ Some basic
    → entry_len ids kind (entry_in ids kind bytes) ≤ length bytes → bytes ≡ entry_bytes ids kind (entry_in ids kind bytes) ++ drop
    (entry_len ids kind (entry_in ids kind bytes)) bytes
entry_found ids kind bytes basic are typed long =
    let lead = lead_width ids kind in
    let entry = entry_in ids kind bytes in
    let is : entry.basic ≡ basic = ap (λ (o : Option Basic). unwrap_or o basics.Array) typed in
    let code : big_number 1 (drop lead bytes) ≡ code_of_basic entry.basic = one_byte (drop lead bytes) ∙ sym (code_found _ basic typed)
    ∙ ap code_of_basic (sym is) in
    let bits : big_number (bits_width ids kind entry.basic) (drop 1 (drop lead bytes)) ≡ entry.bits =
    ap (big_number (bits_width ids kind entry.basic)) (drop-drop 1 lead bytes) in
    let numbers : fields_in (entry_widths ids kind entry.basic) bytes ≡ entry_numbers entry = rw (code, bits) refl in
    let found = fields_found (entry_widths ids kind entry.basic) bytes are (omega (arith, sum_entry ids kind entry)) in
    found ∙ ap (λ (ns : List ℕ). field_bytes (entry_widths ids kind entry.basic) ns ++ drop (sum (entry_widths ids kind entry.basic))
    bytes) numbers
    ∙ ap (λ (n : ℕ). entry_bytes ids kind entry ++ drop n bytes) (sum_entry ids kind entry)

-- an entry that is spelled is read, whatever follows
pub entry_again : (ids : IdSize) (kind : EntryKind) (entry : Entry) (rest : List ℕ) → EntryFits ids kind entry
    → (basic_of_code (slice_index (drop (lead_width ids kind) (entry_bytes ids kind entry ++ rest)) 0) ≡ Some entry.basic)
    × (entry_in ids kind (entry_bytes ids kind entry ++ rest) ≡ entry)
    × (drop (entry_len ids kind entry) (entry_bytes ids kind entry ++ rest) ≡ rest)
entry_again ids kind entry rest fits =
    let lead = lead_width ids kind in
    let width = bits_width ids kind entry.basic in
    let bytes : List ℕ = entry_bytes ids kind entry ++ rest in
    let numbers = fields_again (entry_widths ids kind entry.basic) (entry_numbers entry) rest fits in
    let number : big_number lead bytes ≡ entry.number = cc in
    let code : big_number 1 (drop lead bytes) ≡ code_of_basic entry.basic = cc in
    let last : big_number width (drop 1 (drop lead bytes)) ≡ entry.bits = cc in
    let bits : big_number width (drop (lead + 1) bytes) ≡ entry.bits = ap (big_number width) (sym (drop-drop 1 lead bytes)) ∙ last in
    let typed : basic_of_code (slice_index (drop lead bytes) 0) ≡ Some entry.basic =
    ap basic_of_code (sym (one_byte (drop lead bytes)) ∙ code) ∙ code_again entry.basic in (
      typed,
      ap (λ (o : Option Basic). typed_entry ids kind (unwrap_or o basics.Array) bytes) typed
          ∙ ap (λ (n : ℕ). record { number = n; basic = entry.basic; bits = big_number width (drop (lead + 1) bytes) }) number
          ∙ ap (λ (b : ℕ). record { number = entry.number; basic = entry.basic; bits = b }) bits,
      drop_at (entry_bytes ids kind entry) rest (entry_len ids kind entry) (length-entry ids kind entry),
    )

-- ---- where an entry ends

-- a code that was right
judged_ok : (o : Option Basic) (basic : Basic) → judged_type o ≡ Ok basic → o ≡ Some basic
judged_ok None basic e = absurd cc
judged_ok (Some other) basic e = ap Some (cc)

-- the type of the entry at a place
type_place : (lead at : ℕ) (bytes : List ℕ) → slice_index (drop lead (drop at bytes)) 0 ≡ slice_index bytes (at + lead)
type_place lead at bytes = get_or-drop lead (drop at bytes) 0 0 ∙ get_or-drop at bytes (lead + 0) 0 ∙ ap (slice_index bytes) (omega arith)

-- an entry that passed its tests is spelled there
pub record IsEntryAt (ids : IdSize) (kind : EntryKind) (bytes : List ℕ) (at end : ℕ) : Type 0 where
  pub ends : end ≡ at + entry_len ids kind (entry_in ids kind (drop at bytes))
  pub spelled : drop at bytes ≡ entry_bytes ids kind (entry_in ids kind (drop at bytes)) ++ drop end bytes

pub entry_passed : (ids : IdSize) (kind : EntryKind) (bounds : Bounds) (bytes : List ℕ) (at end : ℕ) → IsBytes bytes
    → bounds.there ≤ length bytes
    → entry_end ids kind bounds bytes at ≡ Ok end → IsEntryAt ids kind bytes at end × IsWithin bounds end
unfolding entry_end
entry_passed ids kind bounds bytes at end are there e =
    let lead = lead_width ids kind in
    let found = basic_of_code (slice_index bytes (at + lead)) in
    let first = then_ok (reached bounds at (lead ∷ 1 ∷ []))
    (λ (front : ℕ). judged_type found >>= λ (basic : Basic). reached bounds front (bits_width ids kind basic ∷ [])) end e in
    let second = then_ok (judged_type found) (λ (basic : Basic). reached bounds first.0 (bits_width ids kind basic ∷ [])) end first.2 in
    let basic = second.0 in
    let typed : basic_of_code (slice_index (drop lead (drop at bytes)) 0) ≡ Some basic = ap basic_of_code (type_place lead at bytes)
    ∙ judged_ok found basic second.1 in
    let entry = entry_in ids kind (drop at bytes) in
    let is : entry.basic ≡ basic = ap (λ (o : Option Basic). unwrap_or o basics.Array) typed in
    let width : bits_width ids kind entry.basic ≡ bits_width ids kind basic = ap (bits_width ids kind) is in
    let front = reached_passed bounds at lead (1 ∷ []) first.0 first.1 in
    let last = reached_passed bounds first.0 (bits_width ids kind basic) [] end second.2 in
    let ends : end ≡ at + entry_len ids kind entry =
    omega (arith, front.0, last.0, width, sum_widths lead (1 ∷ []), sum_widths 1 [], sum_widths (bits_width ids kind basic) []) in
    let long : entry_len ids kind entry ≤ length (drop at bytes) = omega (arith, length-drop at bytes, last.1.there, there, ends) in
    let spelled = entry_found ids kind (drop at bytes) basic (IsBytes-drop at bytes are) typed long in
    let rest : drop (entry_len ids kind entry) (drop at bytes) ≡ drop end bytes = drop-drop (entry_len ids kind entry) at bytes
    ∙ ap (λ (n : ℕ). drop n bytes) (sym ends) in
    (record { ends = ends; spelled = spelled ∙ ap (λ (r : List ℕ). entry_bytes ids kind entry ++ r) rest }, last.1)

-- an entry that is spelled there passes its tests
pub entry_passes : (ids : IdSize) (kind : EntryKind) (bounds : Bounds) (bytes : List ℕ) (at : ℕ) (entry : Entry) (rest : List ℕ)
    → EntryFits ids kind entry
    → drop at bytes ≡ entry_bytes ids kind entry ++ rest → IsWithin bounds (at + entry_len ids kind entry)
    → entry_end ids kind bounds bytes at ≡ Ok (at + entry_len ids kind entry)
unfolding entry_end
entry_passes ids kind bounds bytes at entry rest fits spelled within =
    let lead = lead_width ids kind in
    let width = bits_width ids kind entry.basic in
    let again = entry_again ids kind entry rest fits in
    let typed : basic_of_code (slice_index bytes (at + lead)) ≡ Some entry.basic =
    ap basic_of_code (sym (type_place lead at bytes)) ∙ ap (λ (r : List ℕ). basic_of_code (slice_index (drop lead r) 0)) spelled
    ∙ again.0 in
    let sums : sum (lead ∷ 1 ∷ []) ≡ lead + 1 = omega (arith, sum_widths lead (1 ∷ []), sum_widths 1 []) in
    let one : sum (width ∷ []) ≡ width = omega (arith, sum_widths width []) in
    let front = reached_within bounds at (lead ∷ 1 ∷ []) (within-less bounds (at + sum (lead ∷ 1 ∷ [])) (at + entry_len ids kind entry)
    (omega arith) within) in
    let last = reached_within bounds (at + sum (lead ∷ 1 ∷ [])) (width ∷ [])
    (within-less bounds (at + sum (lead ∷ 1 ∷ []) + sum (width ∷ [])) (at + entry_len ids kind entry) (omega arith) within) in
    then_next (reached bounds at (lead ∷ 1 ∷ []))
    (λ (end : ℕ). judged_type (basic_of_code (slice_index bytes (at + lead))) >>= λ (basic : Basic).
    reached bounds end (bits_width ids kind basic ∷ [])) (at + sum (lead ∷ 1 ∷ [])) front
    ∙ ap (λ (o : Option Basic). judged_type o >>= λ (basic : Basic). reached bounds (at + sum (lead ∷ 1 ∷ []))
    (bits_width ids kind basic ∷ [])) typed
    ∙ last ∙ ap Ok (omega arith)

-- ---- entries, one behind the other

-- how many are read
pub length-entries : (ids : IdSize) (kind : EntryKind) (count : ℕ) (bytes : List ℕ) → length (entries_in ids kind count bytes) ≡ count
length-entries ids kind zero bytes = refl
length-entries ids kind (suc count) bytes =
    ap suc (length-entries ids kind count (drop (entry_len ids kind (entry_in ids kind bytes)) bytes))

-- what is spelled is read, whatever follows
pub entries_again : (ids : IdSize) (kind : EntryKind) (entries : List Entry) (rest : List ℕ) → EntriesFit ids kind entries
    → entries_in ids kind (length entries) (entries_bytes ids kind entries ++ rest) ≡ entries
entries_again ids kind [] rest fits = refl
entries_again ids kind (entry ∷ entries) rest fits =
    let back : List ℕ = entries_bytes ids kind entries ++ rest in
    let again = entry_again ids kind entry back fits.0 in
    ap (entries_in ids kind (suc (length entries))) (append_assoc (entry_bytes ids kind entry) (entries_bytes ids kind entries) rest)
    ∙ ap (λ (e : Entry). e ∷ entries_in ids kind (length entries) (drop (entry_len ids kind e) (entry_bytes ids kind entry ++ back)))
    again.1
    ∙ ap (λ (r : List ℕ). entry ∷ entries_in ids kind (length entries) r) again.2
    ∙ ap (λ (es : List Entry). entry ∷ es) (entries_again ids kind entries rest fits.1)

-- ---- how long they are

lead_most : (ids : IdSize) (kind : EntryKind) → lead_width ids kind ≤ 8
lead_most Four kinds.Constant = omega arith
lead_most Eight kinds.Constant = omega arith
lead_most Four kinds.Static = omega arith
lead_most Eight kinds.Static = omega arith
lead_most Four kinds.Field = omega arith
lead_most Eight kinds.Field = omega arith

value_most : (ids : IdSize) (basic : Basic) → width_of_basic ids basic ≤ 8
value_most Four basics.Array = omega arith
value_most Eight basics.Array = omega arith
value_most Four basics.Object = omega arith
value_most Eight basics.Object = omega arith
value_most ids basics.Boolean = omega arith
value_most ids basics.Char = omega arith
value_most ids basics.Float = omega arith
value_most ids basics.Double = omega arith
value_most ids basics.Byte = omega arith
value_most ids basics.Short = omega arith
value_most ids basics.Int = omega arith
value_most ids basics.Long = omega arith

bits_most : (ids : IdSize) (kind : EntryKind) (basic : Basic) → bits_width ids kind basic ≤ 8
bits_most ids kinds.Constant basic = value_most ids basic
bits_most ids kinds.Static basic = value_most ids basic
bits_most ids kinds.Field basic = omega arith

-- no entry has more than 17 bytes
pub entries_most : (ids : IdSize) (kind : EntryKind) (entries : List Entry) → length (entries_bytes ids kind entries) ≤ 17 * length entries
entries_most ids kind [] = omega arith
entries_most ids kind (entry ∷ entries) =
    omega (
      arith,
      length-append (entry_bytes ids kind entry) (entries_bytes ids kind entries),
      length-entry ids kind entry,
      lead_most ids kind,
      bits_most ids kind entry.basic,
      entries_most ids kind entries,
    )
