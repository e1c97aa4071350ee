-- Counting the entries that fill some bytes.
use Rattle.std.proofs.Common.{◌≡◌, ℕ, zero, suc, ◌+◌, ◌-◌, ◌<◌, ◌≤◌, Bool, true, false, List, [], ◌∷◌, ◌++◌, length, drop, Some, None}
use Rattle.std.proofs.Common.{Result, Ok, Err, refl, sym, ap, ◌∙◌, append-nil, arith}
use Rattle.std.proofs.lemmas.Bool.{eqb-true, eqb-false}
use Rattle.std.proofs.lemmas.List.{drop_at, length-append, nil_from_length}
use Rattle.std.specs.Prelude.{◌==◌, slice_get}
use Rattle.std.specs.Result.{result_ok}
use Rattle.hprof_values.specs.declared.ids.IdSize.{IdSize}
use Rattle.hprof_values.specs.declared.entry.Entry.{Entry}
use Rattle.hprof_values.specs.declared.entry.EntryKind.{EntryKind}
use Rattle.hprof_values.specs.Ids.{IsBytes}
use Rattle.hprof_values.specs.FieldGroups.{exactly, IsWithin}
use Rattle.hprof_values.specs.Entries.{lead_width, bits_width, entry_len, entry_bytes, EntryFits, entries_bytes, EntriesFit, entry_in}
use Rattle.hprof_values.specs.Entries.{entries_in, entry_end, IsEntryList, most_entries}
use Rattle.hprof_values.proofs.Numbers.{IsBytes-drop}
use Rattle.hprof_values.proofs.EntryLists.{length-entry, entry_fits, entry_again, IsEntryAt, entry_passed, entry_passes, length-entries}
use Rattle.hprof_values.proofs.EntryLists.{entries_again}

-- entries that are read are in range
pub entries_fit : (ids : IdSize) (kind : EntryKind) (count : ℕ) (bytes : List ℕ) → IsBytes bytes
    → EntriesFit ids kind (entries_in ids kind count bytes)
entries_fit ids kind zero bytes are = tt
entries_fit ids kind (suc count) bytes are =
    let len = entry_len ids kind (entry_in ids kind bytes) in
    (entry_fits ids kind bytes are, entries_fit ids kind count (drop len bytes) (IsBytes-drop len bytes are))

-- ---- the first of the entries that fill some bytes

-- it lies in them, and the others fill what follows
pub first_of : (ids : IdSize) (kind : EntryKind) (count : ℕ) (bytes : List ℕ)
    → bytes ≡ entries_bytes ids kind (entries_in ids kind (suc count) bytes)
    → let len = entry_len ids kind (entry_in ids kind bytes) in (len ≤ length bytes)
    × (drop len bytes ≡ entries_bytes ids kind (entries_in ids kind count (drop len bytes)))
first_of ids kind count bytes spelled =
    let entry = entry_in ids kind bytes in
    let len = entry_len ids kind entry in
    let back : List ℕ = entries_bytes ids kind (entries_in ids kind count (drop len bytes)) in (
      omega (arith, ap length spelled, length-append (entry_bytes ids kind entry) back, length-entry ids kind entry),
      ap (drop len) spelled ∙ drop_at (entry_bytes ids kind entry) back len (length-entry ids kind entry),
    )

-- an entry in front of what others fill
pub first_more : (ids : IdSize) (kind : EntryKind) (count len : ℕ) (bytes : List ℕ) → IsEntryAt ids kind bytes 0 len
    → drop len bytes ≡ entries_bytes ids kind (entries_in ids kind count (drop len bytes))
    → bytes ≡ entries_bytes ids kind (entries_in ids kind (suc count) bytes)
first_more ids kind count len bytes entry spelled =
    let same : len ≡ entry_len ids kind (entry_in ids kind bytes) = omega (arith, entry.ends) in
    entry.spelled ∙ ap (λ (r : List ℕ). entry_bytes ids kind (entry_in ids kind bytes) ++ r)
    (spelled ∙ ap (λ (n : ℕ). entries_bytes ids kind (entries_in ids kind count (drop n bytes))) same)

-- ---- the count so far

-- what is left of a list behind so many entries
pub record IsLeft (ids : IdSize) (kind : EntryKind) (count : ℕ) (rest : List ℕ) (entries : List Entry) : Type 0 where
  pub more : List Entry
  pub fits : EntriesFit ids kind more
  pub spelled : rest ≡ entries_bytes ids kind more
  pub all : count + length more ≡ length entries

-- so many entries stand in front of the rest
pub record Counted (ids : IdSize) (kind : EntryKind) (count : ℕ) (bytes rest : List ℕ) : Type 0 where
  pub few : count ≤ most_entries
  pub are_bytes : IsBytes rest
  pub found : (n : ℕ) → rest ≡ entries_bytes ids kind (entries_in ids kind n rest)
      → bytes ≡ entries_bytes ids kind (entries_in ids kind (count + n) bytes)
  pub only : (entries : List Entry) → EntriesFit ids kind entries → bytes ≡ entries_bytes ids kind entries
      → IsLeft ids kind count rest entries

-- none yet
pub Counted-none : (ids : IdSize) (kind : EntryKind) (bytes : List ℕ) → IsBytes bytes → Counted ids kind 0 bytes bytes
Counted-none ids kind bytes are = record {
  few = omega arith;
  are_bytes = are;
  found = λ n spelled. let same : 0 + n ≡ n = omega arith in rw same spelled;
  only = λ entries fits spelled. record { more = entries; fits = fits; spelled = spelled; all = omega arith };
}

-- a value that an answer has
ok_of : {A E : Type 0} (r : Result A E) (x : A) → result_ok r ≡ Some x → r ≡ Ok x
ok_of (Ok y) x e = ap Ok (cc)
ok_of (Err y) x e = absurd cc

-- the answer of the test of the first entry
pub first_answer : (ids : IdSize) (kind : EntryKind) (bytes : List ℕ) (len : ℕ) → IsBytes bytes
    → result_ok (entry_end ids kind (exactly bytes) bytes 0) ≡ Some len → IsEntryAt ids kind bytes 0 len
first_answer ids kind bytes len are e =
    (entry_passed ids kind (exactly bytes) bytes 0 len are (omega arith) (ok_of (entry_end ids kind (exactly bytes) bytes 0) len e)).0

-- the first entry of a list passes its tests
pub first_passes : (ids : IdSize) (kind : EntryKind) (bytes : List ℕ) (entry : Entry) (rest : List ℕ) → EntryFits ids kind entry
    → bytes ≡ entry_bytes ids kind entry ++ rest
    → result_ok (entry_end ids kind (exactly bytes) bytes 0) ≡ Some (entry_len ids kind entry)
first_passes ids kind bytes entry rest fits spelled =
    let long : entry_len ids kind entry ≤ length bytes =
    omega (arith, ap length spelled, length-append (entry_bytes ids kind entry) rest, length-entry ids kind entry) in
    let within : IsWithin (exactly bytes) (0 + entry_len ids kind entry) = record {
      room = omega arith;
      longest = omega arith;
      there =
          omega arith;
    } in
    ap result_ok (entry_passes ids kind (exactly bytes) bytes 0 entry rest fits spelled within) ∙ ap Some (omega arith)

-- what is left behind one entry more
left_more : (ids : IdSize) (kind : EntryKind) (count len : ℕ) (rest : List ℕ) (entries more : List Entry)
    → IsEntryAt ids kind rest 0 len → 0 < length rest
    → EntriesFit ids kind more → rest ≡ entries_bytes ids kind more → count + length more ≡ length entries
    → IsLeft ids kind (count + 1) (drop len rest) entries
left_more ids kind count len rest entries [] first some fits spelled all = absurd (omega (arith, ap length spelled))
left_more ids kind count len rest entries (entry ∷ more) first some fits spelled all =
    let again = entry_again ids kind entry (entries_bytes ids kind more) fits.0 in
    let is : entry_in ids kind rest ≡ entry = ap (entry_in ids kind) spelled ∙ again.1 in
    let same : len ≡ entry_len ids kind entry = (let e = ap (entry_len ids kind) is in omega (arith, first.ends)) in
    record {
      more = more;
      fits = fits.1;
      spelled = ap (λ (n : ℕ). drop n rest) same ∙ ap (drop (entry_len ids kind entry)) spelled
          ∙ again.2;
      all = omega arith;
    }

-- one entry more
pub Counted-more : (ids : IdSize) (kind : EntryKind) (count len : ℕ) (bytes rest : List ℕ) → Counted ids kind count bytes rest
    → count < most_entries → 0 < length rest
    → result_ok (entry_end ids kind (exactly rest) rest 0) ≡ Some len → Counted ids kind (count + 1) bytes (drop len rest)
Counted-more ids kind count len bytes rest counted few some e =
    let first = first_answer ids kind rest len counted.are_bytes e in
    record {
      few = omega arith;
      are_bytes = IsBytes-drop len rest counted.are_bytes;
      found = λ n spelled. let same : count + 1 + n ≡ count + suc n =
          omega arith in rw same (counted.found (suc n) (first_more ids kind n len rest first spelled));
      only = λ entries fits spelled. let left = counted.only entries fits spelled in left_more ids kind count len rest entries left.more
          first some left.fits left.spelled left.all;
    }

-- nothing is left
pub Counted-all : (ids : IdSize) (kind : EntryKind) (count : ℕ) (bytes : List ℕ) → IsBytes bytes → Counted ids kind count bytes []
    → IsEntryList ids kind (entries_in ids kind count bytes) bytes
Counted-all ids kind count bytes are counted = record {
  fits = entries_fit ids kind count bytes are;
  few = omega (arith, counted.few, length-entries ids kind count bytes);
  spelled = let same : count + 0 ≡ count = omega arith in rw (sym same) (counted.found 0 refl);
}

-- a list that the bytes spell is the one that is read with as many entries
pub read_again : (ids : IdSize) (kind : EntryKind) (count : ℕ) (bytes : List ℕ) (entries : List Entry)
    → IsEntryList ids kind entries bytes → count ≡ length entries → entries_in ids kind count bytes ≡ entries
read_again ids kind count bytes entries list same =
    ap (λ (n : ℕ). entries_in ids kind n bytes) same ∙ ap (entries_in ids kind (length entries)) (list.spelled
    ∙ sym (append-nil (entries_bytes ids kind entries))) ∙ entries_again ids kind entries [] list.fits

-- the first entry is not empty, and lies in the bytes
pub first_lies : (ids : IdSize) (kind : EntryKind) (bytes : List ℕ) (len : ℕ) → IsBytes bytes
    → result_ok (entry_end ids kind (exactly bytes) bytes 0) ≡ Some len → (0 < len) × (len ≤ length bytes)
first_lies ids kind bytes len are e =
    let passed = entry_passed ids kind (exactly bytes) bytes 0 len are (omega arith)
    (ok_of (entry_end ids kind (exactly bytes) bytes 0) len e) in
    (omega (arith, passed.0.ends), passed.1.there)

-- a list that is not empty has an entry in front
never : (ids : IdSize) (kind : EntryKind) (rest : List ℕ) (more : List Entry) → 0 < length rest
    → result_ok (entry_end ids kind (exactly rest) rest 0) ≡ None → EntriesFit ids kind more
    → rest ≡ entries_bytes ids kind more → ⊥
never ids kind rest [] some e fits spelled = omega (arith, ap length spelled)
never ids kind rest (entry ∷ more) some e fits spelled = let passes =
    first_passes ids kind rest entry (entries_bytes ids kind more) fits.0 spelled in cc

-- a list without bytes is empty
none_left : (ids : IdSize) (kind : EntryKind) (more : List Entry) → 0 ≡ length (entries_bytes ids kind more) → length more ≡ 0
none_left ids kind [] e = refl
none_left ids kind (entry ∷ more) e =
    absurd (omega (arith, length-append (entry_bytes ids kind entry) (entries_bytes ids kind more), length-entry ids kind entry))

-- bytes with no entry in front are no list
pub Counted-never : (ids : IdSize) (kind : EntryKind) (count : ℕ) (bytes rest : List ℕ) (entries : List Entry)
    → Counted ids kind count bytes rest → 0 < length rest
    → result_ok (entry_end ids kind (exactly rest) rest 0) ≡ None → IsEntryList ids kind entries bytes → ⊥
Counted-never ids kind count bytes rest entries counted some e list =
    let left = counted.only entries list.fits list.spelled in
    never ids kind rest left.more some e left.fits left.spelled

-- nothing is left, so as many entries are counted as the list has
pub Counted-last : (ids : IdSize) (kind : EntryKind) (count : ℕ) (bytes : List ℕ) (entries : List Entry)
    → Counted ids kind count bytes [] → IsEntryList ids kind entries bytes → entries_in ids kind count bytes ≡ entries
Counted-last ids kind count bytes entries counted list =
    let left = counted.only entries list.fits list.spelled in
    read_again ids kind count bytes entries list (omega (arith, left.all, none_left ids kind left.more (ap length left.spelled)))

-- what the test of emptiness tells
pub not_empty : (t : Bool) (bytes : List ℕ) → t ≡ (length bytes == 0) → t ≡ false → 0 < length bytes
not_empty t bytes is e = let some = eqb-false (length bytes) 0 (sym is ∙ e) in omega arith

pub empty : (t : Bool) (bytes : List ℕ) → t ≡ (length bytes == 0) → t ≡ true → bytes ≡ []
empty t bytes is e = nil_from_length bytes (eqb-true (length bytes) 0 (sym is ∙ e))

-- the place of an entry behind the first
pub later_entry : (entry : Entry) (entries : List Entry) (place : ℕ) → 0 < place → slice_get (entry ∷ entries) place
    ≡ slice_get entries (place - 1)
later_entry entry entries zero some = absurd (omega arith)
later_entry entry entries (suc place) some = ap (slice_get entries) (omega arith)

-- entries of which there is one
pub first_entries : (ids : IdSize) (kind : EntryKind) (count : ℕ) (bytes : List ℕ) → 0 < count
    → entries_in ids kind count bytes ≡ entry_in ids kind bytes ∷ entries_in ids kind (count - 1)
    (drop (entry_len ids kind (entry_in ids kind bytes)) bytes)
first_entries ids kind zero bytes some = absurd (omega arith)
first_entries ids kind (suc count) bytes some =
    ap (λ (n : ℕ). entry_in ids kind bytes ∷ entries_in ids kind n (drop (entry_len ids kind (entry_in ids kind bytes)) bytes))
    (omega arith)

-- the first entry lies in the bytes, and the others fill what follows
pub first_split : (ids : IdSize) (kind : EntryKind) (count : ℕ) (bytes : List ℕ) → 0 < count
    → bytes ≡ entries_bytes ids kind (entries_in ids kind count bytes)
    → let len = entry_len ids kind (entry_in ids kind bytes) in (len ≤ length bytes)
    × (drop len bytes ≡ entries_bytes ids kind (entries_in ids kind (count - 1) (drop len bytes)))
first_split ids kind zero bytes some spelled = absurd (omega arith)
first_split ids kind (suc count) bytes some spelled =
    let len = entry_len ids kind (entry_in ids kind bytes) in
    let first = first_of ids kind count bytes spelled in
    let same : count ≡ suc count - 1 = omega arith in
    (first.0, first.1 ∙ ap (λ (n : ℕ). entries_bytes ids kind (entries_in ids kind n (drop len bytes))) same)

-- the first of the entries
pub entry_now : (ids : IdSize) (kind : EntryKind) (count : ℕ) (bytes : List ℕ) → 0 < count
    → slice_get (entries_in ids kind count bytes) 0 ≡ Some (entry_in ids kind bytes)
entry_now ids kind count bytes some = ap (λ (es : List Entry). slice_get es 0) (first_entries ids kind count bytes some)

-- one behind the first
pub entry_later : (ids : IdSize) (kind : EntryKind) (count : ℕ) (bytes : List ℕ) (place : ℕ) → 0 < count → 0 < place
    → slice_get (entries_in ids kind count bytes) place
    ≡ slice_get (entries_in ids kind (count - 1) (drop (entry_len ids kind (entry_in ids kind bytes)) bytes)) (place - 1)
entry_later ids kind count bytes place some behind =
    ap (λ (es : List Entry). slice_get es place) (first_entries ids kind count bytes some)
    ∙ later_entry (entry_in ids kind bytes)
    (entries_in ids kind (count - 1) (drop (entry_len ids kind (entry_in ids kind bytes)) bytes)) place behind

-- what follows the first entry, by its widths
pub rest_is : (ids : IdSize) (kind : EntryKind) (bytes rest : List ℕ) (entry : Entry) (lead bits : ℕ) → lead ≡ lead_width ids kind
    → bits ≡ bits_width ids kind entry.basic
    → entry ≡ entry_in ids kind bytes → rest ≡ drop (lead + 1 + bits) bytes
    → rest ≡ drop (entry_len ids kind (entry_in ids kind bytes)) bytes
rest_is ids kind bytes rest entry lead bits lead_is bits_is is e =
    let width = bits_is ∙ ap (λ (x : Entry). bits_width ids kind x.basic) is in
    e ∙ ap (λ (n : ℕ). drop n bytes) (omega arith)

-- bytes spell one list of entries
one_spelled : (ids : IdSize) (kind : EntryKind) (entries others : List Entry) → EntriesFit ids kind entries → EntriesFit ids kind others
    → entries_bytes ids kind entries ≡ entries_bytes ids kind others → entries ≡ others
one_spelled ids kind [] [] fits fits_too e = refl
one_spelled ids kind [] (other ∷ others) fits fits_too e =
    absurd (let none = none_left ids kind (other ∷ others) (ap length e) in omega arith)
one_spelled ids kind (entry ∷ entries) [] fits fits_too e =
    absurd (let none = none_left ids kind (entry ∷ entries) (ap length (sym e)) in omega arith)
one_spelled ids kind (entry ∷ entries) (other ∷ others) fits fits_too e =
    let back : List ℕ = entries_bytes ids kind entries in
    let back_too : List ℕ = entries_bytes ids kind others in
    let first = entry_again ids kind entry back fits.0 in
    let second = entry_again ids kind other back_too fits_too.0 in
    let same : entry ≡ other = sym first.1 ∙ ap (entry_in ids kind) e ∙ second.1 in
    let rest : back ≡ back_too = sym first.2 ∙ ap (drop (entry_len ids kind entry)) e
    ∙ ap (λ (x : Entry). drop (entry_len ids kind x) (entry_bytes ids kind other ++ back_too)) same ∙ second.2 in
    ap (λ (x : Entry). x ∷ entries) same ∙ ap (λ (es : List Entry). other ∷ es) (one_spelled ids kind entries others fits.1 fits_too.1 rest)

pub one_list : (ids : IdSize) (kind : EntryKind) (entries others : List Entry) (bytes : List ℕ) → IsEntryList ids kind entries bytes
    → IsEntryList ids kind others bytes → entries ≡ others
one_list ids kind entries others bytes list list_too = one_spelled ids kind entries others list.fits list_too.fits (sym list.spelled
    ∙ list_too.spelled)
