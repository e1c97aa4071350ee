-- The text of bits that are no NaN is the text of no others.
use Rattle.std.proofs.Common.{◌≡◌, ◌≢◌, ℕ, zero, suc, ◌+◌, ◌-◌, ◌/◌, ◌%◌, ◌^◌, ◌<◌, ◌==◌, ◌&&◌, max}
use Rattle.std.proofs.Common.{Bool, true, false, cond, ltb, List, [], ◌∷◌, ◌++◌, length, get_or}
use Rattle.std.proofs.Common.{codes, Ok, arith, refl, sym, ap, ◌∙◌, inl, inr, append_assoc, eq-eqb, eqb-true, ne_eqb}
use Rattle.std.specs.Prelude.{not, pos, negsuc, ◌-ℤ◌}
use Rattle.std.specs.Fmt.{sign_text, signed_decimal}
use Rattle.std.specs.List.{All}
use Rattle.std.specs.Int.{w64, to_be_bytes, from_be_bytes, bytes_high_first, byte_at}
use Rattle.std.specs.Int.Signed.{mag}
use Rattle.std.proofs.lemmas.Bool.{cases_eq}
use Rattle.std.proofs.lemmas.Fmt.{signed_decimal_injective}
use Rattle.std.proofs.lemmas.Int.{ints}
use Rattle.std.proofs.lemmas.List.Elements.{All-nil, All-cons, All-head, All-tail, All-get_or}
use Rattle.std.proofs.lemmas.List.Sums.{AllPass-from_list_all}
use Rattle.std.proofs.lemmas.Nat.{from_be_bytes-to_be_bytes_8}
use Rattle.hex.specs.Hex.{encode_lower, encode_with, lower_digits, decode_of}
use Rattle.hex.proofs.HexLemmas.{length-encode_with, decode_of-encode_lower}
use Rattle.hprof_text.specs.JavaFloats.{fraction_bits, exponent_bits, bias, greatest_exponent, fields_of, is_nan, IsNumber}
use Rattle.hprof_text.specs.JavaFloats.{fraction_text, lead_text, power_of, finite_text, fields_text}
use Rattle.hprof_text.specs.declared.java_floats.FloatFormat.{FloatFormat}
use Rattle.hprof_text.specs.declared.java_floats.FloatFormat.TheVariants.{Float, Double}
use Rattle.hprof_text.specs.declared.java_floats.FloatFields.{FloatFields}
use Rattle.hprof_text.proofs.LastZeros.{shown_injective, All-shown}
use Rattle.hprof_text.proofs.FloatTexts.{fields_text-infinite, fields_text-finite}

-- ---- the fraction

byte_at-lt : (k n : ℕ) → byte_at k n < 256
byte_at-lt zero n = omega arith
byte_at-lt (suc k) n = omega arith

bytes_fit : (k n i : ℕ) → get_or (bytes_high_first k n) i 0 < 256
bytes_fit zero n i = omega arith
bytes_fit (suc k) n zero = byte_at-lt k n
bytes_fit (suc k) n (suc i) = bytes_fit k n i

be_bytes_fit : (n i : ℕ) → get_or (to_be_bytes w64 n) i 0 < 256
be_bytes_fit n i = bytes_fit 8 n i

encode_lower_injective : (xs ys : List ℕ) → ((i : ℕ) → get_or xs i 0 < 256) → ((i : ℕ) → get_or ys i 0 < 256)
    → encode_lower xs ≡ encode_lower ys → xs ≡ ys
encode_lower_injective xs ys small large e =
    let left = decode_of-encode_lower xs small in
    let right = decode_of-encode_lower ys large in
    let same : Ok xs ≡ Ok ys = sym left ∙ ap decode_of e ∙ right in
    cc

fraction_text_injective : (a b : ℕ) → a < 2 ^ 64 → b < 2 ^ 64 → fraction_text a ≡ fraction_text b → a ≡ b
unfolding fraction_text
fraction_text_injective a b small large e =
    let sized : length (encode_lower (to_be_bytes w64 a)) ≡ length (encode_lower (to_be_bytes w64 b)) =
    length-encode_with lower_digits (to_be_bytes w64 a) ∙ sym (length-encode_with lower_digits (to_be_bytes w64 b)) in
    let digits = shown_injective (encode_lower (to_be_bytes w64 a)) (encode_lower (to_be_bytes w64 b)) sized e in
    let bytes = encode_lower_injective (to_be_bytes w64 a) (to_be_bytes w64 b) (be_bytes_fit a) (be_bytes_fit b) digits in
    sym (from_be_bytes-to_be_bytes_8 a small) ∙ ap (from_be_bytes w64) bytes ∙ from_be_bytes-to_be_bytes_8 b large

-- ---- what stands before and behind the `p`

abbrev is_no_p : ℕ → Bool
is_no_p digit = not (digit == 112)

abbrev no_p : ℕ → Type 0
no_p digit = digit ≢ 112

table_without_p : (i : ℕ) → i < 16 → no_p (get_or lower_digits i 0)
table_without_p i inside e =
    let passes = All-get_or (λ digit. is_no_p digit ≡ true) lower_digits i 0 inside (AllPass-from_list_all is_no_p lower_digits refl) in
    let fails : is_no_p (get_or lower_digits i 0) ≡ false = ap not (eq-eqb (get_or lower_digits i 0) 112 e) in
    cc

encode_without_p : (xs : List ℕ) → ((i : ℕ) → get_or xs i 0 < 256) → All no_p (encode_lower xs)
unfolding encode_with
encode_without_p [] small = All-nil no_p
encode_without_p (b ∷ rest) small =
    let fits : b < 256 = small 0 in
    let others = encode_without_p rest (λ i. small (suc i)) in
    All-cons no_p (get_or lower_digits (b / 16) 0) (get_or lower_digits (b % 16) 0 ∷ encode_lower rest)
    (table_without_p (b / 16) (omega arith))
    (All-cons no_p (get_or lower_digits (b % 16) 0) (encode_lower rest) (table_without_p (b % 16) (omega arith)) others)

fraction_without_p : (fraction : ℕ) → All no_p (fraction_text fraction)
unfolding fraction_text
fraction_without_p fraction =
    All-shown no_p (encode_lower (to_be_bytes w64 fraction)) (λ e. omega arith)
    (encode_without_p (to_be_bytes w64 fraction) (be_bytes_fit fraction))

same_around_p : (xs ys us vs : List ℕ) → All no_p xs → All no_p ys → xs ++ 112 ∷ us ≡ ys ++ 112 ∷ vs → (xs ≡ ys) × (us ≡ vs)
same_around_p [] [] us vs p q e = (refl, cc)
same_around_p [] (y ∷ ys) us vs p q e = let first : y ≡ 112 = cc in absurd (All-head no_p y ys q first)
same_around_p (x ∷ xs) [] us vs p q e = let first : x ≡ 112 = cc in absurd (All-head no_p x xs p first)
same_around_p (x ∷ xs) (y ∷ ys) us vs p q e =
    let rest = same_around_p xs ys us vs (All-tail no_p x xs p) (All-tail no_p y ys q) (cc) in
    let digits = rest.0 in
    (cc, rest.1)

-- ---- the power

-- The fields of some bits are in their types' ranges.
record InRange (fields : FloatFields) : Type 0 where
  exponent : fields.exponent < 2 ^ 16
  fraction : fields.fraction < 2 ^ 64

fields_in_range : (format : FloatFormat) (bits : ℕ) → InRange (fields_of format bits)
fields_in_range Float bits = record { exponent = omega arith; fraction = omega arith }
fields_in_range Double bits = record { exponent = omega arith; fraction = omega arith }

bias-lt : (format : FloatFormat) → bias format < 2 ^ 16
bias-lt Float = omega arith
bias-lt Double = omega arith

mag-sub : (a b : ℕ) → a < 2 ^ 16 → b < 2 ^ 16 → mag (pos a -ℤ pos b) < 2 ^ 63
mag-sub a zero small less = omega arith
mag-sub a (suc b) small less = by (ltb a (suc b))
  where
    by : (below : Bool) → mag (cond below (negsuc (suc b - suc a)) (pos (a - suc b))) < 2 ^ 63
    by true = omega arith
    by false = omega arith

mag-power_of : (format : FloatFormat) (fields : FloatFields) → InRange fields → mag (power_of format fields) < 2 ^ 63
mag-power_of format fields range = by (fields.exponent == 0 && fields.fraction == 0)
  where
    by : (none : Bool) → mag (cond none (pos 0) (pos (max 1 fields.exponent) -ℤ pos (bias format))) < 2 ^ 63
    by true = omega arith
    by false = let small = range.exponent in mag-sub (max 1 fields.exponent) (bias format) (omega arith) (bias-lt format)

power_of-some : (format : FloatFormat) (fields : FloatFields) → fields.exponent ≢ 0
    → power_of format fields ≡ pos (max 1 fields.exponent) -ℤ pos (bias format)
power_of-some format fields some =
    let test : (fields.exponent == 0) ≡ false = ne_eqb fields.exponent 0 some in
    rw test refl

exponent_of_power : (a b c : ℕ) → a ≢ 0 → b ≢ 0 → pos (max 1 a) -ℤ pos c ≡ pos (max 1 b) -ℤ pos c → a ≡ b
exponent_of_power a b c p q e = omega (arith, ints)

same_exponent : (format : FloatFormat) (x y : FloatFields) → (x.exponent == 0) ≡ (y.exponent == 0)
    → power_of format x ≡ power_of format y → x.exponent ≡ y.exponent
same_exponent format x y lead power =
    elim (cases_eq x.exponent 0) [
      | inl none ↦ none ∙ sym (eqb-true y.exponent 0 (sym lead ∙ eq-eqb x.exponent 0 none))
      | inr some ↦
          let other : y.exponent ≢ 0 = λ none. some (eqb-true x.exponent 0 (lead ∙ eq-eqb y.exponent 0 none)) in
          exponent_of_power x.exponent y.exponent (bias format) some other
          (sym (power_of-some format x some) ∙ power ∙ power_of-some format y other)
    ]

-- ---- finite numbers

-- what stands behind the point
abbrev tail_text : FloatFormat → FloatFields → List ℕ
tail_text format fields = fraction_text fields.fraction ++ 112 ∷ signed_decimal (power_of format fields)

finite_parts : (format : FloatFormat) (fields : FloatFields) → finite_text format fields ≡ lead_text fields ++ tail_text format fields
unfolding finite_text
finite_parts format fields = simp append_assoc

finite_front : (format : FloatFormat) (fields : FloatFields) (c : ℕ) (rest : List ℕ) → c ∷ rest ≡ finite_text format fields → c ≡ 48
finite_front format fields c rest e = by (fields.exponent == 0) (e ∙ finite_parts format fields)
  where
    by : (zero : Bool) → c ∷ rest ≡ cond zero (codes "0x0.") (codes "0x1.") ++ tail_text format fields → c ≡ 48
    by true e = cc
    by false e = cc

same_lead : (m n : Bool) (xs ys : List ℕ) → cond m (codes "0x0.") (codes "0x1.") ++ xs ≡ cond n (codes "0x0.") (codes "0x1.") ++ ys
    → (m ≡ n) × (xs ≡ ys)
same_lead true true xs ys e = (refl, cc)
same_lead false false xs ys e = (refl, cc)
same_lead true false xs ys e = let lead : ◌≡◌ {A = ℕ} 48 49 = cc in absurd (omega arith)
same_lead false true xs ys e = let lead : ◌≡◌ {A = ℕ} 49 48 = cc in absurd (omega arith)

same_finite : (format : FloatFormat) (x y : FloatFields) → InRange x → InRange y → finite_text format x ≡ finite_text format y
    → (x.exponent ≡ y.exponent) × (x.fraction ≡ y.fraction)
same_finite format x y range other e =
    let lead = same_lead (x.exponent == 0) (y.exponent == 0) (tail_text format x) (tail_text format y)
    (sym (finite_parts format x) ∙ e ∙ finite_parts format y) in
    let parts = same_around_p (fraction_text x.fraction) (fraction_text y.fraction) (signed_decimal (power_of format x))
    (signed_decimal (power_of format y)) (fraction_without_p x.fraction) (fraction_without_p y.fraction) lead.1 in
    let power = signed_decimal_injective (power_of format x) (power_of format y) (mag-power_of format x range)
    (mag-power_of format y other) parts.1 in (
      same_exponent format x y lead.0 power,
      fraction_text_injective x.fraction y.fraction range.fraction other.fraction parts.0,
    )

-- ---- the sign

same_sign : (m n : Bool) (xs ys : List ℕ) → ((rest : List ℕ) → xs ≢ 45 ∷ rest) → ((rest : List ℕ) → ys ≢ 45 ∷ rest)
    → sign_text m ++ xs ≡ sign_text n ++ ys → (m ≡ n) × (xs ≡ ys)
same_sign true true xs ys p q e = (refl, cc)
same_sign false false xs ys p q e = (refl, e)
same_sign true false xs ys p q e = absurd (q xs (sym e))
same_sign false true xs ys p q e = absurd (p ys e)

infinite_has_no_sign : (rest : List ℕ) → codes "Infinity" ≢ 45 ∷ rest
infinite_has_no_sign rest e = let first : ◌≡◌ {A = ℕ} 73 45 = cc in omega arith

finite_has_no_sign : (format : FloatFormat) (fields : FloatFields) (rest : List ℕ) → finite_text format fields ≢ 45 ∷ rest
finite_has_no_sign format fields rest e = let first = finite_front format fields 45 rest (sym e) in omega arith

infinite_is_not_finite : (format : FloatFormat) (fields : FloatFields) → codes "Infinity" ≢ finite_text format fields
infinite_is_not_finite format fields e = let first = finite_front format fields 73 (codes "nfinity") e in omega arith

-- ---- all numbers

infinite_fraction : (format : FloatFormat) (fields : FloatFields) → is_nan format fields ≡ false
    → fields.exponent ≡ greatest_exponent format → fields.fraction ≡ 0
infinite_fraction format fields number greatest =
    let test : (fields.exponent == greatest_exponent format) ≡ true = eq-eqb fields.exponent (greatest_exponent format) greatest in
    let not_zero : not (fields.fraction == 0) ≡ false = rw test at number in
    elim (cases_eq fields.fraction 0) [
      | inl none ↦ none
      | inr some ↦ let differ : not (fields.fraction == 0) ≡ true = ap not (ne_eqb fields.fraction 0 some) in absurd cc
    ]

-- The three fields are the same.
record SameFields (x y : FloatFields) : Type 0 where
  sign : x.is_negative ≡ y.is_negative
  exponent : x.exponent ≡ y.exponent
  fraction : x.fraction ≡ y.fraction

same_fields : (format : FloatFormat) (x y : FloatFields) → InRange x → InRange y → is_nan format x ≡ false → is_nan format y ≡ false
    → fields_text format x ≡ fields_text format y → SameFields x y
same_fields format x y range other number second e =
    elim (cases_eq x.exponent (greatest_exponent format)) [
      | inl infinite ↦ elim (cases_eq y.exponent (greatest_exponent format)) [
        | inl both ↦
            let same = same_sign x.is_negative y.is_negative (codes "Infinity") (codes "Infinity") infinite_has_no_sign infinite_has_no_sign
            (sym (fields_text-infinite format x number infinite) ∙ e ∙ fields_text-infinite format y second both) in
            record {
              sign = same.0;
              exponent = infinite ∙ sym both;
              fraction = infinite_fraction format x number infinite ∙ sym (infinite_fraction format y second both);
            }
        | inr finite ↦
            let same = same_sign x.is_negative y.is_negative (codes "Infinity") (finite_text format y) infinite_has_no_sign
            (finite_has_no_sign format y)
            (sym (fields_text-infinite format x number infinite) ∙ e ∙ fields_text-finite format y second finite) in
            absurd (infinite_is_not_finite format y same.1)
      ]
      | inr finite ↦ elim (cases_eq y.exponent (greatest_exponent format)) [
        | inl infinite ↦
            let same = same_sign x.is_negative y.is_negative (finite_text format x) (codes "Infinity") (finite_has_no_sign format x)
            infinite_has_no_sign
            (sym (fields_text-finite format x number finite) ∙ e ∙ fields_text-infinite format y second infinite) in
            absurd (infinite_is_not_finite format x (sym same.1))
        | inr both ↦
            let same = same_sign x.is_negative y.is_negative (finite_text format x) (finite_text format y) (finite_has_no_sign format x)
            (finite_has_no_sign format y)
            (sym (fields_text-finite format x number finite) ∙ e ∙ fields_text-finite format y second both) in
            let parts = same_finite format x y range other same.1 in
            record { sign = same.0; exponent = parts.0; fraction = parts.1 }
      ]
    ]

-- ---- the bits of the fields

abbrev width : FloatFormat → ℕ
width format = 1 + exponent_bits format + fraction_bits format

same_bit : (p q : ℕ) → p < 2 → q < 2 → (p == 1) ≡ (q == 1) → p ≡ q
same_bit p q small less e =
    elim (cases_eq p 1) [
      | inl one ↦ one ∙ sym (eqb-true q 1 (sym e ∙ eq-eqb p 1 one))
      | inr none ↦
          let other : q ≢ 1 = λ one. none (eqb-true p 1 (e ∙ eq-eqb q 1 one)) in
          omega arith
    ]

same_bits : (format : FloatFormat) (a b : ℕ) → a < 2 ^ width format → b < 2 ^ width format
    → SameFields (fields_of format a) (fields_of format b) → a ≡ b
same_bits Float a b small less same =
    let sign = same_bit (a / 2 ^ 31) (b / 2 ^ 31) (omega arith) (omega arith) same.sign in
    let exponent = same.exponent in
    let fraction = same.fraction in
    let above : a / 2 ^ 23 ≡ b / 2 ^ 23 = omega arith in
    omega arith
same_bits Double a b small less same =
    let sign = same_bit (a / 2 ^ 63) (b / 2 ^ 63) (omega arith) (omega arith) same.sign in
    let exponent = same.exponent in
    let fraction = same.fraction in
    let above : a / 2 ^ 52 ≡ b / 2 ^ 52 = omega arith in
    omega arith

pub exact : (format : FloatFormat) (a b : ℕ) → a < 2 ^ width format → b < 2 ^ width format → IsNumber format a → IsNumber format b
    → fields_text format (fields_of format a) ≡ fields_text format (fields_of format b) → a ≡ b
exact format a b small less number other e =
    same_bits format a b small less
    (same_fields format (fields_of format a) (fields_of format b) (fields_in_range format a) (fields_in_range format b) number other e)
