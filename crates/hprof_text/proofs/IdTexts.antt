-- The hexadecimal digits of an identifier, and the identifier that digits write.
use Rattle.std.proofs.Common.{◌≡◌, ◌≢◌, ℕ, zero, suc, ◌+◌, ◌-◌, ◌*◌, ◌/◌, ◌%◌, ◌^◌, ◌<◌, ◌≤◌, true, false, cond, ◌==◌, List, [], ◌∷◌, ◌++◌}
use Rattle.std.proofs.Common.{length, get_or, take, drop, set, Option, Some, None, Result, Ok, Err, arith, refl, sym, ap, ◌∙◌, inl, inr}
use Rattle.std.proofs.Common.{add-one, codes, replicate, ltb}
use Rattle.std.proofs.Math.Nat.{pow-le-pow_right, pow-suc}
use Rattle.std.specs.Fmt.{digits, digits_onto, digit_glyph}
use Rattle.std.specs.Option.{SomeIff}
use Rattle.std.specs.Result.{result_ok, OkIff, IsOk, OnOk, MatchResult, is_ok}
use Rattle.std.specs.Str.Parse.{IsNumeral, ParsesUnsigned, digits_value}
use Rattle.std.proofs.lemmas.Bool.{cases_lt, cases_eq}
use Rattle.std.proofs.lemmas.Fmt.{digits_is_IsNumeral}
use Rattle.std.proofs.lemmas.Int.Digits.{digits_value-lt}
use Rattle.std.proofs.lemmas.Str.Parse.{without_leading_plus_none}
use Rattle.std.specs.List.{All}
use Rattle.std.specs.Str.{IsUtf8}
use borrow.Author.Tests.{ne_eqb, lt-ltb, le-ltb}
use Rattle.std.proofs.lemmas.Bool.Decides.{nat_tests}
use Rattle.std.proofs.lemmas.List.{drop-set, length-set, length-drop, take_all}
use Rattle.std.proofs.lemmas.List.Elements.{All-nil, All-cons, All-weaker}
use Rattle.std.proofs.lemmas.Str.Ascii.{IsAscii-from_all}
use Rattle.std.proofs.lemmas.Str.{IsUtf8-from_ascii}
use Rattle.hprof_text.specs.Identifier.{id_digits, IsIdText, IsLowerDigit, AreIdDigits, id_value}

-- ---- reading

-- sixteen digits write less than 2 ^ 64
value_fits : (text : List ℕ) → IsIdText text → id_value text < 2 ^ 64
value_fits text h =
    let below = digits_value-lt 16 text h.digits.1 in
    let positive : 0 < 16 = omega arith in
    let most : 16 ^ length text ≤ 16 ^ 16 = pow-le-pow_right positive h.at_most_sixteen in
    omega (arith, below, most)

-- what reading answers, for a text with no plus in front
from_read : {E : Type 0} (text : List ℕ) (r : Result ℕ E) → length text ≤ 16
    → OkIff r (IsNumeral 16 text × (digits_value 16 text < 2 ^ 64)) (digits_value 16 text)
    → SomeIff (result_ok r) (IsIdText text) (id_value text)
from_read text (Ok x) short h = (record { digits = h.0.0; at_most_sixteen = short }, h.1)
from_read text (Err e) short h = λ is. h (is.digits, value_fits text is)

pub parsed_is : {E : Type 0} (text : List ℕ) (r : Result ℕ E) → get_or text 0 0 ≢ 43 → length text ≤ 16
    → ParsesUnsigned 64 16 text r → SomeIff (result_ok r) (IsIdText text) (id_value text)
parsed_is text r no_plus short parses =
    from_read text r short (rw (without_leading_plus_none text no_plus) at parses)

-- ---- the digits, from the last to the first

pub onto_last : (k n : ℕ) (acc : List ℕ) → n < 16 → digits_onto (suc k) 16 false n acc ≡ digit_glyph false n ∷ acc
onto_last k n acc small =
    let last : n / 16 ≡ 0 = omega arith in
    let same : n % 16 ≡ n = omega arith in
    rw (last, same) refl

pub onto_more : (k n : ℕ) (acc : List ℕ) → 16 ≤ n
    → digits_onto (suc k) 16 false n acc ≡ digits_onto k 16 false (n / 16) (digit_glyph false (n % 16) ∷ acc)
onto_more k n acc large =
    let more : (n / 16 == 0) ≡ false = ne_eqb (n / 16) 0 (omega arith) in
    rw more refl

-- how many there are at most
length-onto-le : (k n j : ℕ) (acc : List ℕ) → j < k → n < 16 ^ (j + 1)
    → length (digits_onto k 16 false n acc) ≤ j + 1 + length acc
length-onto-le zero n j acc room small = absurd (omega arith)
length-onto-le (suc k) n zero acc room small = rw (onto_last k n acc small) (omega arith)
length-onto-le (suc k) n (suc j) acc room small =
    let power : 16 ^ (suc j + 1) ≡ 16 ^ (j + 1) * 16 = rw (add-one, add-one) (pow-suc 16 (suc j)) in
    let rest = length-onto-le k (n / 16) j (digit_glyph false (n % 16) ∷ acc) (omega arith) (omega (arith, power)) in
    elim (cases_lt n 16) [
      | inl last ↦ rw (onto_last k n acc last) (omega arith)
      | inr more ↦ rw (onto_more k n acc more) (omega (arith, rest))
    ]

length-id_digits-le : (id : ℕ) → id < 2 ^ 64 → length (id_digits id) ≤ 16
unfolding digits
length-id_digits-le id small = length-onto-le 64 id 15 [] (omega arith) small

pub IsIdText-id_digits : (id : ℕ) → id < 2 ^ 64 → IsIdText (id_digits id)
IsIdText-id_digits id small =
    let numeral = digits_is_IsNumeral 16 false (omega arith) (omega arith) id (omega arith) in
    record { digits = numeral.0; at_most_sixteen = length-id_digits-le id small }

pub id_value-id_digits : (id : ℕ) → id < 2 ^ 64 → id_value (id_digits id) ≡ id
id_value-id_digits id small = (digits_is_IsNumeral 16 false (omega arith) (omega arith) id (omega arith)).1

lower_glyph : (d : ℕ) → d < 16 → IsLowerDigit (digit_glyph false d)
lower_glyph d small =
    elim (cases_lt d 10) [
      | inl below ↦
          let test : ltb d 10 ≡ true = lt-ltb d 10 below in
          rw test (inl (omega arith, omega arith))
      | inr above ↦
          let test : ltb d 10 ≡ false = le-ltb d 10 above in
          rw test (inr (omega arith, omega arith))
    ]

lower_onto : (k n : ℕ) (acc : List ℕ) → All IsLowerDigit acc → All IsLowerDigit (digits_onto k 16 false n acc)
lower_onto zero n acc lower = lower
lower_onto (suc k) n acc lower =
    elim (cases_lt n 16) [
      | inl last ↦ rw (onto_last k n acc last) (All-cons IsLowerDigit (digit_glyph false n) acc (lower_glyph n last) lower)
      | inr more ↦
          rw (onto_more k n acc more)
          (lower_onto k (n / 16) (digit_glyph false (n % 16) ∷ acc) (All-cons IsLowerDigit (digit_glyph false (n % 16)) acc
          (lower_glyph (n % 16) (omega arith)) lower))
    ]

glyph_not_zero : (d : ℕ) → 0 < d → digit_glyph false d ≢ 48
glyph_not_zero d some e = grind (arith, nat_tests)

-- a number above 0 has no leading zero
first_onto : (k n : ℕ) (acc : List ℕ) → 0 < n → n < 16 ^ k → get_or (digits_onto k 16 false n acc) 0 0 ≢ 48
first_onto zero n acc some small = absurd (omega arith)
first_onto (suc k) n acc some small =
    let power : 16 ^ suc k ≡ 16 ^ k * 16 = pow-suc 16 k in
    elim (cases_lt n 16) [
      | inl last ↦ rw (onto_last k n acc last) (glyph_not_zero n some)
      | inr more ↦
          rw (onto_more k n acc more)
          (first_onto k (n / 16) (digit_glyph false (n % 16) ∷ acc) (omega arith) (omega (arith, power)))
    ]

leading_zero : (id : ℕ) → id < 2 ^ 64 → get_or (id_digits id) 0 0 ≡ 48 → id_digits id ≡ codes "0"
unfolding digits
leading_zero id small zero_first =
    elim (cases_eq id 0) [
      | inl none ↦ rw none refl
      | inr some ↦ absurd (first_onto 64 id [] (omega arith) (omega arith) zero_first)
    ]

lower_id_digits : (id : ℕ) → All IsLowerDigit (id_digits id)
unfolding digits
lower_id_digits id = lower_onto 64 id [] (All-nil IsLowerDigit)

pub AreIdDigits-id_digits : (id : ℕ) → id < 2 ^ 64 → AreIdDigits id (id_digits id)
AreIdDigits-id_digits id small = record {
  lower = lower_id_digits id;
  some = (IsIdText-id_digits id small).digits.0;
  value = id_value-id_digits id small;
  leading = leading_zero id small;
}

-- ---- the digits in the buffer, which stand from `start` on

-- The digits up to `start` are those of the rest, and the ones after it are written.
pub record Remains (id start rest : ℕ) (buffer : List ℕ) : Type 0 where
  pub inside : start < 16
  pub sized : length buffer ≡ 16
  pub small : rest < 16 ^ (start + 1)
  pub same : (turns : ℕ) → turns ≡ start + 49 → digits_onto turns 16 false rest (drop (start + 1) buffer) ≡ id_digits id

pub remains_all : (id : ℕ) → id < 2 ^ 64 → Remains id 15 id (replicate 16 48)
unfolding digits
remains_all id fits = record {
  inside = omega arith;
  sized = refl;
  small = fits;
  same = λ turns e. rw e refl;
}

inside_buffer : (id start rest : ℕ) (buffer : List ℕ) → Remains id start rest buffer → start < length buffer
inside_buffer id start rest buffer r = omega (arith, r.inside, r.sized)

some_left : (start rest : ℕ) → 16 ≤ rest → rest < 16 ^ (start + 1) → 0 < start
some_left zero rest large small = absurd (omega arith)
some_left (suc start) rest large small = omega arith

pub remains_more : (id start rest : ℕ) (buffer : List ℕ) → Remains id start rest buffer → 16 ≤ rest
    → Remains id (start - 1) (rest / 16) (set buffer start (digit_glyph false (rest % 16)))
remains_more id start rest buffer r large =
    let positive = some_left start rest large r.small in
    let place : start - 1 + 1 ≡ start = omega arith in
    let power : 16 ^ (start + 1) ≡ 16 ^ start * 16 = rw add-one (pow-suc 16 start) in
    let below = r.small in
    let inside : start < length buffer = inside_buffer id start rest buffer r in
    let glyph = digit_glyph false (rest % 16) in
    record {
      inside = omega (arith, r.inside);
      sized = rw length-set r.sized;
      small = rw place (omega (arith, power, below));
      same = λ turns e.
          rw (place, drop-set buffer start glyph inside)
          (sym (onto_more turns rest (drop (start + 1) buffer) large) ∙ r.same (suc turns) (omega arith));
    }

last_digit : (id start rest turns : ℕ) (buffer : List ℕ) → Remains id start rest buffer → rest < 16
    → turns ≡ start + 48 → drop start (set buffer start (digit_glyph false rest)) ≡ id_digits id
last_digit id start rest turns buffer r last e =
    drop-set buffer start (digit_glyph false rest) (inside_buffer id start rest buffer r)
    ∙ sym (onto_last turns rest (drop (start + 1) buffer) last) ∙ r.same (suc turns) (omega arith)

pub remains_last : (id start rest byte : ℕ) (buffer : List ℕ) → Remains id start rest buffer → rest < 16
    → byte ≡ digit_glyph false rest → take (16 - start) (drop start (set buffer start byte)) ≡ id_digits id
remains_last id start rest byte buffer r last e =
    let sized = r.sized in
    let whole : length (drop start (set buffer start byte)) ≤ 16 - start = rw (length-drop, length-set) (omega arith) in
    take_all (16 - start) (drop start (set buffer start byte)) whole
    ∙ ap (λ (d : ℕ). drop start (set buffer start d)) e
    ∙ last_digit id start rest (start + 48) buffer r last refl

-- and they are text
pub IsUtf8-id_digits : (id : ℕ) (text : List ℕ) → text ≡ id_digits id → IsUtf8 text
IsUtf8-id_digits id text e =
    let ascii = IsAscii-from_all (id_digits id) (All-weaker IsLowerDigit (λ b. b < 128) below_128 (id_digits id) (lower_id_digits id)) in
    rw e (IsUtf8-from_ascii (id_digits id) ascii)
  where
    below_128 : (c : ℕ) → IsLowerDigit c → c < 128
    below_128 c lower = grind arith

-- bytes that are text are read as text
pub reads_as_text : {X E : Type 0} (r : Result X E) (P : X → Type 0) (Q : E → Type 0) (text : List ℕ) → IsUtf8 text
    → MatchResult r P (λ e. ¬ (IsUtf8 text) × Q e) → IsOk r
reads_as_text (Ok x) P Q text is h = refl
reads_as_text (Err e) P Q text is h = absurd (h.0 is)

-- what a push of a text leaves
pub pushes : {E : Type 0} (r : Result Unit E) (old new text same : List ℕ) → text ≡ same
    → new ≡ cond (is_ok r) (old ++ text) old → OnOk r (new ≡ old ++ same)
pushes (Ok x) old new text same e h = h ∙ ap (λ (t : List ℕ). old ++ t) e
pushes (Err x) old new text same e h = tt

-- ---- a text of the digits

pub parses_to : (text : List ℕ) (o : Option ℕ) → SomeIff o (IsIdText text) (id_value text)
    → (id : ℕ) → id < 2 ^ 64 → text ≡ id_digits id → o ≡ Some id
parses_to text (Some x) h id small e =
    let same : x ≡ id = h.1 ∙ ap id_value e ∙ id_value-id_digits id small in
    ap Some same
parses_to text None h id small e = absurd (h (rw e (IsIdText-id_digits id small)))
