-- Sizes as text: cutting the suffix off, and reading the digits.
use Rattle.std.proofs.Common.{◌≡◌, ◌↔◌, ℕ, ◌+◌, ◌-◌, ◌*◌, ◌<◌, ◌≤◌, ◌^◌, ◌⊎◌, List, [], ◌∷◌, ◌++◌, length, get_or, take}
use Rattle.std.proofs.Common.{Option, Some, None, sym, ap, ◌∙◌, arith, inl, inr, subst}
use Rattle.std.specs.Option.{SomeIff}
use Rattle.std.specs.Str.Parse.{IsNumeral, digits_value}
use Rattle.std.proofs.Math.Nat.{le-mul_of_pos_right}
use Rattle.std.proofs.Math.Seq.{take-append_seam, get_or-append_seam}
use Rattle.std.proofs.lemmas.List.{length-append, append-nil}
use Rattle.std.proofs.lemmas.Str.Parse.{digit_at}
use Rattle.hprof_scratch.specs.Size.{IsSuffix, IsSize}

letter_once : (letter m n : ℕ) → IsSuffix (letter ∷ []) m → IsSuffix (letter ∷ []) n → m ≡ n
letter_once letter m n a b = grind arith

letter_no_digit : (letter n : ℕ) → IsSuffix (letter ∷ []) n → 57 < letter
letter_no_digit letter n a = grind arith

-- A suffix has no text, or one letter.
suffix_cases : (text : List ℕ) (bytes : ℕ) → IsSuffix text bytes → ((text ≡ []) × (bytes ≡ 1)) ⊎ (text ≡ get_or text 0 0 ∷ [])
suffix_cases text bytes h = grind arith

-- The last code of a text.
abbrev pub last_code : List ℕ → ℕ
last_code text = get_or text (length text - 1) 0

-- A text that ends with a letter, cut before it.
front_of : (text digits : List ℕ) (letter : ℕ) → text ≡ digits ++ letter ∷ [] → digits ≡ take (length text - 1) text
front_of text digits letter e =
    let size : length text ≡ length digits + 1 = omega (arith, ap length e, length-append digits (letter ∷ [])) in
    let at : length text - 1 ≡ length digits = omega arith in
    rw (at, e) (sym (take-append_seam digits (letter ∷ [])))

last_of : (text digits : List ℕ) (letter : ℕ) → text ≡ digits ++ letter ∷ [] → letter ≡ last_code text
last_of text digits letter e =
    let size : length text ≡ length digits + 1 = omega (arith, ap length e, length-append digits (letter ∷ [])) in
    let at : length text - 1 ≡ length digits = omega arith in
    rw (at, e) (sym (get_or-append_seam digits letter [] 0))

-- Digits end with no suffix.
digits_end : (digits : List ℕ) (bytes : ℕ) → IsNumeral 10 digits → IsSuffix (last_code digits ∷ []) bytes → ⊥
digits_end digits bytes numeral suffix =
    let digit = digit_at digits (length digits - 1) numeral.1 (omega (arith, numeral.0)) in
    let letter = letter_no_digit _ bytes suffix in
    omega (arith, digit.1, letter)

-- Where the last code is a suffix, the digits are the text before it.
pub cut_before : (text digits suffix : List ℕ) (bytes letter each : ℕ) → letter ≡ last_code text
    → IsSuffix (letter ∷ []) each → IsNumeral 10 digits → IsSuffix suffix bytes → text ≡ digits ++ suffix
    → (digits ≡ take (length text - 1) text) × (bytes ≡ each)
cut_before text digits suffix bytes letter each last is numeral suffix_is parts =
    elim (suffix_cases suffix bytes suffix_is) [
      | inl none ↦
          let whole : text ≡ digits = parts ∙ (rw none.0 (append-nil digits)) in
          let ends : letter ≡ last_code digits = last ∙ ap last_code whole in
          absurd (digits_end digits each numeral (subst (λ (c : ℕ). IsSuffix (c ∷ []) each) ends is))
      | inr one ↦
          let code = get_or suffix 0 0 in
          let ends : text ≡ digits ++ code ∷ [] = parts ∙ ap (λ (t : List ℕ). digits ++ t) one in
          let same : code ≡ letter = last_of text digits code ends ∙ sym last in
          let there : IsSuffix (letter ∷ []) bytes = subst (λ (t : List ℕ). IsSuffix t bytes) (cc (one, same)) suffix_is in
          (front_of text digits code ends, letter_once letter bytes each there is)
    ]

-- Where it is no suffix, the digits are the whole text.
pub cut_nowhere : (text digits suffix : List ℕ) (bytes letter : ℕ) → letter ≡ last_code text
    → ((each : ℕ) → ¬ IsSuffix (letter ∷ []) each) → IsSuffix suffix bytes → text ≡ digits ++ suffix → (digits ≡ text) × (bytes ≡ 1)
cut_nowhere text digits suffix bytes letter last is_none suffix_is parts =
    elim (suffix_cases suffix bytes suffix_is) [
      | inl none ↦ (sym (parts ∙ (rw none.0 (append-nil digits))), none.1)
      | inr one ↦
          let code = get_or suffix 0 0 in
          let ends : text ≡ digits ++ code ∷ [] = parts ∙ ap (λ (t : List ℕ). digits ++ t) one in
          let same : code ≡ letter = last_of text digits code ends ∙ sym last in
          absurd (is_none bytes (subst (λ (t : List ℕ). IsSuffix t bytes) (cc (one, same)) suffix_is))
    ]

-- The text before the suffix, which is the only way to cut it, and the bytes of the suffix.
pub record IsCut (text front : List ℕ) (each : ℕ) : Type 0 where
  pub parts : (suffix : List ℕ) × (text ≡ front ++ suffix) × IsSuffix suffix each
  pub only : (digits suffix : List ℕ) (bytes : ℕ) → IsNumeral 10 digits → IsSuffix suffix bytes → text ≡ digits ++ suffix
      → (digits ≡ front) × (bytes ≡ each)

-- A size is the number of its digits, times the bytes of the suffix.
size_value : (text front : List ℕ) (each bytes : ℕ) → IsCut text front each → IsSize text bytes
    → IsNumeral 10 front × (bytes ≡ digits_value 10 front * each)
size_value text front each bytes cut size =
    let same = cut.only size.digits size.suffix size.suffix_bytes size.numeral size.suffix_is size.parts in
    (subst (IsNumeral 10) same.0 size.numeral, size.value ∙ cc (ap (digits_value 10) same.0, same.1))

suffix_some : (suffix : List ℕ) (each : ℕ) → IsSuffix suffix each → 0 < each
suffix_some suffix each is = grind arith

-- Where the digits are refused, the text is no size that fits.
pub no_size : (text front : List ℕ) (each bytes : ℕ) → IsCut text front each
    → ¬ (IsNumeral 10 front × (digits_value 10 front < 2 ^ 64)) → bytes < 2 ^ 64 → ¬ IsSize text bytes
no_size text front each bytes cut refused small size =
    let is = size_value text front each bytes cut size in
    let positive = suffix_some cut.parts.0 each cut.parts.2 in
    let least : digits_value 10 front ≤ digits_value 10 front * each = le-mul_of_pos_right (digits_value 10 front) positive in
    refused (is.0, omega (arith, least, is.1))

-- Where they are read, the size is their number, times the bytes of the suffix.
pub one_size : (text front : List ℕ) (each bytes : ℕ) (read : Option ℕ) → IsCut text front each → IsNumeral 10 front
    → SomeIff read (digits_value 10 front * each < 2 ^ 64) (digits_value 10 front * each) → bytes < 2 ^ 64
    → (read ≡ Some bytes) ↔ IsSize text bytes
one_size text front each bytes None cut numeral reads small =
    (λ is. absurd cc, λ size. absurd (reads (omega (arith, (size_value text front each bytes cut size).1))))
one_size text front each bytes (Some value) cut numeral reads small = (
  λ is.
      let same : value ≡ bytes = cc in
      record {
        digits = front;
        suffix = cut.parts.0;
        suffix_bytes = each;
        parts = cut.parts.1;
        numeral = numeral;
        suffix_is = cut.parts.2;
        value = sym same ∙ reads.1;
      },
  λ size. ap Some (reads.1 ∙ sym (size_value text front each bytes cut size).1),
)
