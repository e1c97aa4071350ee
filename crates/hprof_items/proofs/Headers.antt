-- A header that is read is the header that was written, and what was written is read again.
use Rattle.std.proofs.Common.{◌≡◌, ℕ, ◌<◌, ◌≤◌, Bool, true, false, cond, ltb, eqb, inl, inr, ◌⊎◌, List, ◌++◌, length, take, drop, Option}
use Rattle.std.proofs.Common.{Some, None, refl, sym, ap, subst, ◌∙◌, append_assoc, arith, Ok, Err}
use Rattle.std.proofs.lemmas.Bool.{cond-false, le-ltb, eqb-true}
use Rattle.std.proofs.lemmas.List.{take-append-drop, length-append}
use Rattle.std.proofs.lemmas.Slice.Eq.{bytes_eq-Decides}
use Rattle.std.specs.Prelude.{bytes_eq}
use Rattle.byteorder.specs.Endian.{big_bytes, big_number}
use Rattle.byteorder.specs.Numbers.{big_from-lt, big_number-reads_back}
use Rattle.hprof_values.specs.declared.ids.IdSize.{IdSize}
use Rattle.hprof_values.specs.declared.ids.IdSize.TheVariants.{Four, Eight}
use Rattle.hprof_items.specs.declared.header.Header.{Header}
use Rattle.hprof_items.specs.declared.header.Version.{Version}
use Rattle.hprof_items.specs.declared.header.Version.TheVariants.{V101, V102}
use Rattle.hprof_values.specs.declared.parse_stop.ParseStop.TheVariants.{Short}
use Rattle.hprof_values.specs.Ids.{width_of, IsBytes}
use Rattle.hprof_items.specs.Header.{text_of, header_bytes, IsMillis}
use Rattle.hprof_items.specs.Reading.{version_of, ids_of, timed_header, sized_header, header_at}
use Rattle.hprof_values.proofs.Numbers.{IsBytes-drop, number_parts_at}
use Rattle.hprof_items.proofs.Steps.{long_enough, whole_parts}

-- a value that a test gives, or else a later test
some_first : {A : Type 0} (t : Bool) (x : A) (o : Option A) (v : A) → cond t (Some x) o ≡ Some v → ((t ≡ true) × (x ≡ v)) ⊎ (o ≡ Some v)
some_first true x o v e = inl (refl, cc)
some_first false x o v e = inr e

-- a value that a last test gives
some_last : {A : Type 0} (t : Bool) (x v : A) → cond t (Some x) None ≡ Some v → (t ≡ true) × (x ≡ v)
some_last true x v e = (refl, cc)
some_last false x v e = absurd cc

-- a text that is taken for a version's is that version's
version_found : (text : List ℕ) (v : Version) → version_of text ≡ Some v → text ≡ text_of v
version_found text v e =
    elim (some_first (bytes_eq text (text_of V101)) V101 (cond (bytes_eq text (text_of V102)) (Some V102) None) v e) [
      | inl first ↦ (bytes_eq-Decides text (text_of V101)).0 first.0 ∙ ap text_of first.1
      | inr later ↦ let second = some_last (bytes_eq text (text_of V102)) V102 v later in (bytes_eq-Decides text (text_of V102)).0
          second.0 ∙ ap text_of second.1
    ]

-- a number that is taken for a size of identifiers is that size
ids_found : (size : ℕ) (ids : IdSize) → ids_of size ≡ Some ids → size ≡ width_of ids
ids_found size ids e =
    elim (some_first (eqb size 4) Four (cond (eqb size 8) (Some Eight) None) ids e) [
      | inl first ↦ eqb-true size 4 first.0 ∙ ap width_of first.1
      | inr later ↦ let second = some_last (eqb size 8) Eight ids later in eqb-true size 8 second.0 ∙ ap width_of second.1
    ]

-- the header of those fields, with the time that stands at its place
timed : Version → IdSize → List ℕ → Header
timed version ids bytes = record { version = version; ids = ids; millis = big_number 8 (drop 23 bytes) }

-- what a size that was taken says of the rest
timed_found : (version : Version) (size : Option IdSize) (bytes : List ℕ) (h : Header) (n : ℕ) → timed_header version size bytes ≡ Ok (h, n)
    → (ids : IdSize) × (size ≡ Some ids) × (31 ≤ length bytes) × (timed version ids bytes ≡ h) × (31 ≡ n)
unfolding timed
timed_found version None bytes h n e = absurd cc
timed_found version (Some ids) bytes h n e =
    let g = long_enough (length bytes) 31 (Ok (record { version = version; ids = ids; millis = big_number 8 (drop 23 bytes) }, 31)) h
    n e in
    let p = whole_parts (record { version = version; ids = ids; millis = big_number 8 (drop 23 bytes) }) h 31 n g.1 in
    (ids, refl, g.0, p.0, p.1)

-- what a text that was taken says of the rest
sized_found : (text : Option Version) (bytes : List ℕ) (h : Header) (n : ℕ) → sized_header text bytes ≡ Ok (h, n)
    → (version : Version) × (text ≡ Some version) × (timed_header version (ids_of (big_number 4 (drop 19 bytes))) bytes ≡ Ok (h, n))
sized_found None bytes h n e = absurd cc
sized_found (Some version) bytes h n e =
    let g = long_enough (length bytes) 23 (timed_header version (ids_of (big_number 4 (drop 19 bytes))) bytes) h n e in
    (version, refl, g.1)

-- bytes with those fields at their places
fields_found : (bytes : List ℕ) (version : Version) (ids : IdSize) → IsBytes bytes → 31 ≤ length bytes → take 19 bytes ≡ text_of version
    → big_number 4 (drop 19 bytes) ≡ width_of ids
    → bytes ≡ header_bytes (timed version ids bytes) ++ drop 31 bytes
unfolding timed
fields_found bytes version ids are long text size =
    let tail : drop 19 bytes ≡ big_bytes 4 (width_of ids) ++ drop 23 bytes =
    number_parts_at 19 4 bytes are (omega arith) ∙ ap (λ (k : ℕ). big_bytes 4 k ++ drop 23 bytes) size in
    let time : drop 23 bytes ≡ big_bytes 8 (big_number 8 (drop 23 bytes)) ++ drop 31 bytes = number_parts_at 23 8 bytes are (omega arith) in
    let both : drop 19 bytes ≡ (big_bytes 4 (width_of ids) ++ big_bytes 8 (big_number 8 (drop 23 bytes))) ++ drop 31 bytes =
    tail ∙ ap (λ (r : List ℕ). big_bytes 4 (width_of ids) ++ r) time
    ∙ sym (append_assoc (big_bytes 4 (width_of ids)) (big_bytes 8 (big_number 8 (drop 23 bytes))) (drop 31 bytes)) in
    sym (take-append-drop 19 bytes)
    ∙ ap (λ (t : List ℕ). t ++ drop 19 bytes) text
    ∙ ap (λ (r : List ℕ). text_of version ++ r) both
    ∙ sym (append_assoc (text_of version) (big_bytes 4 (width_of ids) ++ big_bytes 8 (big_number 8 (drop 23 bytes))) (drop 31 bytes))

-- what is read is spelled so
pub header_found : (bytes : List ℕ) (h : Header) (n : ℕ) → IsBytes bytes → header_at bytes ≡ Ok (h, n)
    → (bytes ≡ header_bytes h ++ drop n bytes) × (n ≡ 31) × IsMillis h.millis
unfolding header_at timed
header_found bytes h n are e =
    let g = long_enough (length bytes) 19 (sized_header (version_of (take 19 bytes)) bytes) h n e in
    let s = sized_found (version_of (take 19 bytes)) bytes h n g.1 in
    let t = timed_found s.0 (ids_of (big_number 4 (drop 19 bytes))) bytes h n s.2 in
    let text = version_found (take 19 bytes) s.0 s.1 in
    let size = ids_found (big_number 4 (drop 19 bytes)) t.0 t.1 in
    let spelled = fields_found bytes s.0 t.0 are t.2 text size in
    let below : IsMillis (timed s.0 t.0 bytes).millis = big_from-lt 0 8 (drop 23 bytes) (IsBytes-drop 23 bytes are) in
    subst (λ (x : Header). (bytes ≡ header_bytes x ++ drop n bytes) × (n ≡ 31) × IsMillis x.millis) t.3
    (subst (λ (m : ℕ). (bytes ≡ header_bytes (timed s.0 t.0 bytes) ++ drop m bytes) × (m ≡ 31) × IsMillis (timed s.0 t.0 bytes).millis)
    t.4 (spelled, refl, below))

-- bytes whose text and size are right, and which are long enough
pub header_made : (bytes : List ℕ) (version : Version) (ids : IdSize) → 31 ≤ length bytes → version_of (take 19 bytes) ≡ Some version
    → ids_of (big_number 4 (drop 19 bytes)) ≡ Some ids
    → header_at bytes ≡ Ok (record { version = version; ids = ids; millis = big_number 8 (drop 23 bytes) }, 31)
unfolding header_at
header_made bytes version ids long text size =
    cond-false (ltb (length bytes) 19) (Err Short) (sized_header (version_of (take 19 bytes)) bytes) (le-ltb _ _ (omega arith))
    ∙ ap (λ (o : Option Version). sized_header o bytes) text
    ∙ cond-false (ltb (length bytes) 23) (Err Short) (timed_header version (ids_of (big_number 4 (drop 19 bytes))) bytes)
    (le-ltb _ _ (omega arith))
    ∙ ap (λ (o : Option IdSize). timed_header version o bytes) size
    ∙ cond-false (ltb (length bytes) 31) (Err Short) (Ok (
      record { version = version; ids = ids; millis = big_number 8 (drop 23 bytes) },
      31,
    )) (le-ltb _ _ (omega arith))

-- where a version's text stands in front
text_front : (version : Version) (rest : List ℕ) → (version_of (take 19 (text_of version ++ rest)) ≡ Some version)
    × (drop 19 (text_of version ++ rest) ≡ rest) × (drop 23 (text_of version ++ rest) ≡ drop 4 rest)
text_front V101 rest = (refl, refl, refl)
text_front V102 rest = (refl, refl, refl)

-- the sizes of identifiers, as numbers
ids_again : (ids : IdSize) → (ids_of (width_of ids) ≡ Some ids) × (width_of ids < 256)
ids_again Four = (refl, omega arith)
ids_again Eight = (refl, omega arith)

-- the length of the text
length-text : (version : Version) → length (text_of version) ≡ 19
length-text V101 = refl
length-text V102 = refl

-- what is spelled so is read, whatever follows
pub header_again : (h : Header) (rest : List ℕ) → IsMillis h.millis → header_at (header_bytes h ++ rest) ≡ Ok (h, 31)
unfolding header_at
header_again h rest fits =
    let back : List ℕ = big_bytes 4 (width_of h.ids) ++ (big_bytes 8 h.millis ++ rest) in
    let bytes : List ℕ = header_bytes h ++ rest in
    let parts : bytes ≡ text_of h.version ++ back =
    append_assoc (text_of h.version) (big_bytes 4 (width_of h.ids) ++ big_bytes 8 h.millis) rest in
    let long : 31 ≤ length bytes =
    omega (
      arith,
      length-text h.version,
      length-append (header_bytes h) rest,
      length-append (text_of h.version)
          (big_bytes 4 (width_of h.ids) ++ big_bytes 8 h.millis),
    ) in
    let front = text_front h.version back in
    let text : version_of (take 19 bytes) ≡ Some h.version = ap (λ (x : List ℕ). version_of (take 19 x)) parts ∙ front.0 in
    let sized : ids_of (big_number 4 (drop 19 bytes)) ≡ Some h.ids =
    ap (λ (x : List ℕ). ids_of (big_number 4 x)) (ap (drop 19) parts ∙ front.1)
    ∙ ap ids_of (big_number-reads_back 4 (width_of h.ids) (big_bytes 8 h.millis ++ rest) (omega (arith, (ids_again h.ids).1)))
    ∙ (ids_again h.ids).0 in
    let time : big_number 8 (drop 23 bytes) ≡ h.millis =
    ap (big_number 8) (ap (drop 23) parts ∙ front.2) ∙ big_number-reads_back 8 h.millis rest fits in
    header_made bytes h.version h.ids long text sized
    ∙ ap (λ (m : ℕ). Ok (record { version = h.version; ids = h.ids; millis = m }, 31)) time
