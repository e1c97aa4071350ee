-- Numbers of one width are in the order of the bytes that spell them, and so are groups of fields.
use Rattle.std.proofs.Common.{◌≡◌, ℕ, zero, suc, ◌+◌, ◌*◌, ◌/◌, ◌%◌, ◌^◌, ◌<◌, ◌≤◌, List, [], ◌∷◌, ◌++◌, inl, inr, refl, sym, ap, ◌∙◌}
use Rattle.std.proofs.Common.{arith}
use Rattle.std.proofs.lemmas.Bool.{cases_order}
use Rattle.std.proofs.Math.Nat.{div-lt_iff_lt-mul, mod-eq_of_lt, mul-le-mul_right}
use Rattle.std.specs.Cmp.{nat_cmp_is}
use Rattle.std.specs.Cmp.Lexicographic.{slice_cmp}
use Rattle.std.specs.Ordering.{nat_cmp, ordering_then}
use Rattle.std.specs.declared.cmp.Ordering.{Ordering}
use Rattle.std.specs.declared.cmp.Ordering.TheVariants.{Less, Equal, Greater}
use Rattle.std.specs.Int.{byte_at, bytes_high_first}
use Rattle.byteorder.specs.Endian.{big_bytes}
use Rattle.hprof_values.specs.FieldGroups.{field_bytes, FitFields}
use Rattle.hprof_values.proofs.Numbers.{byte_at-pow, bytes_high_first-above, pow256_pos}

-- three orders, one behind the other
then-assoc : (a b c : Ordering) → ordering_then a (ordering_then b c) ≡ ordering_then (ordering_then a b) c
then-assoc Less b c = refl
then-assoc Equal b c = refl
then-assoc Greater b c = refl

-- nothing behind an order
pub then-Equal : (a : Ordering) → ordering_then a Equal ≡ a
then-Equal Less = refl
then-Equal Equal = refl
then-Equal Greater = refl

-- numbers of two digits are compared digit by digit
two_digits : (p q r s t : ℕ) → r < p → t < p → nat_cmp (q * p + r) (s * p + t) ≡ ordering_then (nat_cmp q s) (nat_cmp r t)
two_digits p q r s t below below_too = elim (cases_order q s) [
  | inl same ↦ rw (same, sym (nat_cmp_is s s Equal refl)) (elim (cases_order r t) [
    | inl e ↦ rw e (sym (nat_cmp_is (s * p + t) (s * p + t) Equal refl) ∙ nat_cmp_is t t Equal refl)
    | inr lt ↦ elim lt [
      | inl a ↦ sym (nat_cmp_is (s * p + r) (s * p + t) Less (omega arith)) ∙ nat_cmp_is r t Less a
      | inr b ↦ sym (nat_cmp_is (s * p + r) (s * p + t) Greater (omega arith)) ∙ nat_cmp_is r t Greater b
    ]
  ])
  | inr lt ↦ elim lt [
    | inl a ↦
        let more : (q + 1) * p ≤ s * p = mul-le-mul_right p (omega arith) in
        sym (nat_cmp_is (q * p + r) (s * p + t) Less (omega arith)) ∙ ap (λ (o : Ordering). ordering_then o (nat_cmp r t))
        (nat_cmp_is q s Less a)
    | inr b ↦
        let more : (s + 1) * p ≤ q * p = mul-le-mul_right p (omega arith) in
        sym (nat_cmp_is (q * p + r) (s * p + t) Greater (omega arith)) ∙ ap (λ (o : Ordering). ordering_then o (nat_cmp r t))
        (nat_cmp_is q s Greater b)
  ]
]

-- the first byte of a number, and the bytes of what is left
first_byte : (w x : ℕ) → x < 256 ^ suc w → (byte_at w x ≡ x / 256 ^ w) × (bytes_high_first w x ≡ bytes_high_first w (x % 256 ^ w))
    × (x % 256 ^ w < 256 ^ w) × (x ≡ x / 256 ^ w * 256 ^ w + x % 256 ^ w)
first_byte w x fits =
    let above : 0 < 256 ^ w = pow256_pos w in
    let parts : x ≡ x / 256 ^ w * 256 ^ w + x % 256 ^ w = omega arith in
    let small : x / 256 ^ w < 256 = (div-lt_iff_lt-mul above).1 (omega arith) in (
      byte_at-pow w x ∙ mod-eq_of_lt small,
      ap (bytes_high_first w) parts ∙ bytes_high_first-above w w (x / 256 ^ w) (x % 256 ^ w) (omega arith),
      omega arith,
      parts,
    )

-- numbers of one width, and what stands behind them
pub numbers_in_order : (w x y : ℕ) (r s : List ℕ) → x < 256 ^ w → y < 256 ^ w
    → slice_cmp nat_cmp (big_bytes w x ++ r) (big_bytes w y ++ s) ≡ ordering_then (nat_cmp x y) (slice_cmp nat_cmp r s)
numbers_in_order zero x y r s fits fits_too = ap (λ (o : Ordering). ordering_then o (slice_cmp nat_cmp r s))
    (nat_cmp_is x y Equal (omega arith))
numbers_in_order (suc w) x y r s fits fits_too =
    let a = first_byte w x fits in
    let b = first_byte w y fits_too in
    let rest = numbers_in_order w (x % 256 ^ w) (y % 256 ^ w) r s a.2 b.2 in
    let whole : nat_cmp x y ≡ ordering_then (nat_cmp (x / 256 ^ w) (y / 256 ^ w)) (nat_cmp (x % 256 ^ w) (y % 256 ^ w)) =
    ap (λ (n : ℕ). nat_cmp n y) a.3 ∙ ap (nat_cmp (x / 256 ^ w * 256 ^ w + x % 256 ^ w)) b.3
    ∙ two_digits (256 ^ w) (x / 256 ^ w) (x % 256 ^ w) (y / 256 ^ w) (y % 256 ^ w) a.2 b.2 in
    rw (a.0, b.0, a.1, b.1, rest)
    (then-assoc (nat_cmp (x / 256 ^ w) (y / 256 ^ w)) (nat_cmp (x % 256 ^ w) (y % 256 ^ w)) (slice_cmp nat_cmp r s)
    ∙ ap (λ (o : Ordering). ordering_then o (slice_cmp nat_cmp r s)) (sym whole))

-- groups of fields are in the order of their numbers
pub fields_in_order : (widths numbers others : List ℕ) → FitFields widths numbers → FitFields widths others
    → slice_cmp nat_cmp (field_bytes widths numbers) (field_bytes widths others) ≡ slice_cmp nat_cmp numbers others
fields_in_order [] [] [] fits fits_too = refl
fields_in_order [] [] (n ∷ ns) fits fits_too = absurd fits_too
fields_in_order [] (n ∷ ns) others fits fits_too = absurd fits
fields_in_order (w ∷ ws) [] others fits fits_too = absurd fits
fields_in_order (w ∷ ws) (n ∷ ns) [] fits fits_too = absurd fits_too
fields_in_order (w ∷ ws) (n ∷ ns) (m ∷ ms) fits fits_too =
    numbers_in_order w n m (field_bytes ws ns) (field_bytes ws ms) fits.0 fits_too.0
    ∙ ap (ordering_then (nat_cmp n m)) (fields_in_order ws ns ms fits.1 fits_too.1)
