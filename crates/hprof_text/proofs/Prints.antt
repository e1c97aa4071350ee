-- What is printed of the units in front, as far as a loop has come, and that it is ASCII.
use Rattle.std.proofs.Common.{◌≡◌, ◌≢◌, ℕ, ◌+◌, ◌/◌, ◌%◌, ◌<◌, ◌≤◌, ◌==◌, Bool, true, false, List, [], ◌∷◌, ◌++◌, length, get_or, take}
use Rattle.std.proofs.Common.{codes, cond, inl, inr, arith, refl, sym, ap, ◌∙◌}
use Rattle.std.specs.List.{AllPass, flat_map, list_all}
use Rattle.std.specs.Prelude.{nat_lt}
use Rattle.std.specs.Str.{IsAscii}
use Rattle.std.proofs.lemmas.Bool.{cases_lt, cases_eq}
use Rattle.std.proofs.lemmas.Bool.Decides.{nat_tests}
use Rattle.std.proofs.lemmas.List.{append-nil, length-append, same_lists, take_more}
use Rattle.std.proofs.lemmas.List.Concat.{flat_map-append}
use Rattle.std.proofs.lemmas.List.Elements.{All-head, All-tail, All-weaker}
use Rattle.std.proofs.lemmas.Str.{IsAscii-append}
use Rattle.std.proofs.lemmas.Str.Ascii.{IsAscii-nil, IsAscii-cons, IsAscii-from_all}
use Rattle.std.proofs.lemmas.List.Sums.{AllPass-from_list_all}
use borrow.Author.Tests.{ltb-true}
use Rattle.hex.specs.Hex.{encode_lower, encode_with, lower_digits}
use Rattle.hex.proofs.HexLemmas.{IsAscii-encode_with}
use Rattle.hprof_text.specs.ModifiedUtf8.{unit_bytes, BeginsWithNoUnit, HasUnits}
use Rattle.hprof_text.specs.Printed.{is_plain, escaped_unit, printed_unit, printed_bytes, PrintsUnits, PrintsIfUnits, IsPrinted}
use Rattle.hprof_text.proofs.Rows.{unit_bytes-one, rest_is_shorter}
use Rattle.hprof_text.proofs.Fronts.{fits, Front, front_none, front_more, front_push, front_all, front_stop, one_units, ended, not_ended}

-- ---- plain units

is_plain-range : (unit : ℕ) → is_plain unit ≡ true → (0x20 ≤ unit) × (unit ≤ 0x7e)
is_plain-range unit plain = grind (arith, nat_tests)

printed_unit-plain : (unit : ℕ) → is_plain unit ≡ true → printed_unit unit ≡ unit ∷ []
unfolding printed_unit
printed_unit-plain unit plain = rw plain refl

abbrev plain_holds : ℕ → Type 0
plain_holds unit = is_plain unit ≡ true

fits_plain : (unit : ℕ) → is_plain unit ≡ true → fits unit
fits_plain unit plain = let range = is_plain-range unit plain in omega (arith, range.1)

flat_map-unit_bytes-plain : (xs : List ℕ) → AllPass is_plain xs → flat_map unit_bytes xs ≡ xs
flat_map-unit_bytes-plain [] plain = refl
flat_map-unit_bytes-plain (x ∷ xs) plain =
    let range = is_plain-range x (All-head plain_holds x xs plain) in
    rw (
      unit_bytes-one x (omega (arith, range.0)) (omega (arith, range.1)),
      flat_map-unit_bytes-plain xs
          (All-tail plain_holds x xs plain),
    ) refl

flat_map-printed_unit-plain : (xs : List ℕ) → AllPass is_plain xs → flat_map printed_unit xs ≡ xs
flat_map-printed_unit-plain [] plain = refl
flat_map-printed_unit-plain (x ∷ xs) plain =
    rw (printed_unit-plain x (All-head plain_holds x xs plain), flat_map-printed_unit-plain xs (All-tail plain_holds x xs plain)) refl

-- ---- hexadecimal, a byte at a time

pub encode_with-append : (t xs ys : List ℕ) → encode_with t (xs ++ ys) ≡ encode_with t xs ++ encode_with t ys
unfolding encode_with
encode_with-append t [] ys = refl
encode_with-append t (x ∷ xs) ys = rw (encode_with-append t xs ys) refl

pub printed_bytes_none : (text : List ℕ) → text ≡ codes "\\x" → text ≡ printed_bytes []
unfolding encode_with
printed_bytes_none text e = e

pub printed_bytes_more : (bytes text after : List ℕ) (i : ℕ) → i < length bytes → text ≡ printed_bytes (take i bytes)
    → after ≡ text ++ encode_lower (get_or bytes i 0 ∷ []) → after ≡ printed_bytes (take (i + 1) bytes)
printed_bytes_more bytes text after i inside before e =
    rw (take_more bytes i 0 inside, encode_with-append lower_digits (take i bytes) (get_or bytes i 0 ∷ []))
    (e ∙ ap (λ (xs : List ℕ). xs ++ encode_lower (get_or bytes i 0 ∷ [])) before)

-- ---- the text so far

-- The text is the units in front of the rest of the bytes in print.
abbrev pub PrintsFront : List ℕ → List ℕ → List ℕ → Type 0
PrintsFront bytes rest text = (units : List ℕ) × Front units bytes rest × (text ≡ flat_map printed_unit units)

pub prints_none : (bytes : List ℕ) → PrintsFront bytes bytes []
prints_none bytes = ([], front_none bytes, refl)

pub prints_plain : (bytes rest after text plain : List ℕ) → PrintsFront bytes rest text → rest ≡ plain ++ after
    → AllPass is_plain plain → PrintsFront bytes after (text ++ plain)
prints_plain bytes rest after text plain p e all = (
  p.0 ++ plain,
  front_more p.0 plain bytes rest after p.1 (All-weaker plain_holds fits fits_plain plain all)
      (e ∙ ap (λ (xs : List ℕ). xs ++ after) (sym (flat_map-unit_bytes-plain plain all))),
  rw (flat_map-append printed_unit p.0 plain, flat_map-printed_unit-plain plain all, p.2) refl,
)

pub prints_unit : (bytes rest after text : List ℕ) (unit : ℕ) → PrintsFront bytes rest text → fits unit
    → rest ≡ unit_bytes unit ++ after → PrintsFront bytes after (text ++ printed_unit unit)
prints_unit bytes rest after text unit p small e = (
  p.0 ++ unit ∷ [],
  front_push p.0 bytes rest after unit p.1 small e,
  rw (flat_map-append printed_unit p.0 (unit ∷ []), append-nil, p.2) refl,
)

pub prints_all : (bytes rest text : List ℕ) → PrintsFront bytes rest text → rest ≡ [] → PrintsUnits bytes text
prints_all bytes rest text p e = (p.0, front_all p.0 bytes (rw e at p.1), p.2)

pub prints_stop : (bytes rest text : List ℕ) → PrintsFront bytes rest text → BeginsWithNoUnit rest → HasUnits bytes → rest ≡ []
prints_stop bytes rest text p none has = front_stop p.0 bytes rest p.1 none has

-- where no unit stands next, all bytes are printed or they have no units
pub prints_if_units : (bytes rest text : List ℕ) (all : Bool) → PrintsFront bytes rest text → BeginsWithNoUnit rest
    → all ≡ (length rest == 0)
    → PrintsIfUnits bytes all text
prints_if_units bytes rest text true p none e = prints_all bytes rest text p (ended rest (sym e))
prints_if_units bytes rest text false p none e = λ has. not_ended rest (sym e) (prints_stop bytes rest text p none has)

-- a unit and the plain bytes after it make the rest shorter
pub plain_is_shorter : (unit : ℕ) (rest after plain more : List ℕ) → rest ≡ unit_bytes unit ++ after
    → after ≡ plain ++ more → length more < length rest
plain_is_shorter unit rest after plain more e f =
    let shorter = rest_is_shorter unit rest after e in
    let split : length after ≡ length plain + length more = ap length f ∙ length-append plain more in
    omega (arith, shorter, split)

-- ---- the printed form

pub IsPrinted-units : (bytes text : List ℕ) → PrintsUnits bytes text → IsPrinted bytes text
IsPrinted-units bytes text p = record {
  of_units = λ units is. p.2 ∙ ap (flat_map printed_unit) (one_units p.0 units bytes p.1 is);
  of_bytes = λ none. absurd (none (p.0, p.1));
}

pub IsPrinted-bytes : (bytes text : List ℕ) → ¬ (HasUnits bytes) → text ≡ printed_bytes bytes → IsPrinted bytes text
IsPrinted-bytes bytes text none e = record {
  of_units = λ units is. absurd (none (units, is));
  of_bytes = λ _. e;
}

-- ---- ASCII

-- bytes that pass the test of ASCII, which computes on a literal
IsAscii-tested : (bytes : List ℕ) → list_all (λ b. nat_lt b 128) bytes ≡ true → IsAscii bytes
IsAscii-tested bytes passes =
    IsAscii-from_all bytes
    (All-weaker (λ b. nat_lt b 128 ≡ true) (λ b. b < 128) (λ b. ltb-true b 128) bytes
    (AllPass-from_list_all (λ b. nat_lt b 128) bytes passes))

pub IsAscii-hex : (bytes : List ℕ) → IsAscii (encode_lower bytes)
IsAscii-hex bytes = IsAscii-encode_with lower_digits bytes (IsAscii-tested lower_digits refl)

IsAscii-printed_unit : (unit : ℕ) → IsAscii (printed_unit unit)
unfolding printed_unit
IsAscii-printed_unit unit = by (is_plain unit) refl
  where
    by : (plain : Bool) → is_plain unit ≡ plain → IsAscii (cond plain (unit ∷ []) (escaped_unit unit))
    by true e = let range = is_plain-range unit e in IsAscii-cons unit [] (omega (arith, range.1)) IsAscii-nil
    by false e = IsAscii-append (codes "\\u") (encode_lower ((unit / 256) ∷ (unit % 256) ∷ [])) (IsAscii-tested (codes "\\u") refl)
        (IsAscii-hex ((unit / 256) ∷ (unit % 256) ∷ []))

IsAscii-printed_units : (units : List ℕ) → IsAscii (flat_map printed_unit units)
IsAscii-printed_units [] = IsAscii-nil
IsAscii-printed_units (u ∷ us) = IsAscii-append (printed_unit u) (flat_map printed_unit us) (IsAscii-printed_unit u)
    (IsAscii-printed_units us)

IsAscii-printed_bytes : (bytes : List ℕ) → IsAscii (printed_bytes bytes)
IsAscii-printed_bytes bytes = IsAscii-append (codes "\\x") (encode_lower bytes) (IsAscii-tested (codes "\\x") refl) (IsAscii-hex bytes)

pub IsAscii-printed : (bytes text : List ℕ) → IsPrinted bytes text → IsAscii text
IsAscii-printed bytes text p i =
    elim (cases_lt (get_or text i 0) 128) [
      | inl small ↦ small
      | inr large ↦
          let none : ¬ (HasUnits bytes) = λ has.
          let e = p.of_units has.0 has.1 in
          let ascii = IsAscii-printed_units has.0 i in
          let same : get_or text i 0 ≡ get_or (flat_map printed_unit has.0) i 0 = ap (λ (xs : List ℕ). get_or xs i 0) e in
          omega (arith, ascii, same) in
          let ascii = IsAscii-printed_bytes bytes i in
          let same : get_or text i 0 ≡ get_or (printed_bytes bytes) i 0 = ap (λ (xs : List ℕ). get_or xs i 0) (p.of_bytes none) in
          omega (arith, ascii, same)
    ]

-- ---- one form

-- numbers that are not unequal are equal
stable : (m n : ℕ) → ¬ (m ≢ n) → m ≡ n
stable m n h = elim (cases_eq m n) [ inl e ↦ e | inr ne ↦ absurd (h ne) ]

-- what holds of lists that are equal in either case
pub one_printed : (bytes a b : List ℕ) → IsPrinted bytes a → IsPrinted bytes b → a ≡ b
one_printed bytes a b p q =
    let either : ¬ (a ≢ b) = λ ne.
    let none : ¬ (HasUnits bytes) = λ has. ne (p.of_units has.0 has.1 ∙ sym (q.of_units has.0 has.1)) in
    ne (p.of_bytes none ∙ sym (q.of_bytes none)) in
    same_lists a b
    (stable (length a) (length b) (λ ne. either (λ e. ne (ap length e))))
    (λ k d inside. stable (get_or a k d) (get_or b k d) (λ ne. either (λ e. ne (ap (λ (xs : List ℕ). get_or xs k d) e))))
