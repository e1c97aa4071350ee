-- A length in front of bytes: what stands behind them changes nothing, and what is spelled is read back.
use Rattle.std.proofs.Common.{◌≡◌, ◌≤◌, ◌<◌, ◌+◌, ◌-◌, ◌^◌, ◌++◌, ℕ, List, [], ◌∷◌, length, take, drop}
use Rattle.std.proofs.Common.{Option, Some, None, Result, Ok, Err, Bor, refl, sym, ap, ◌∙◌, arith}
use Rattle.std.specs.Prelude.{Bool, true, false, nat_lt, if◌then◌else◌, IfOk, OnOk, is_ok}
use Rattle.std.specs.Option.{option_copied}
use Rattle.std.specs.Slice.{IsGetRangeResult}
use Rattle.std.specs.Int.{w64, from_be_bytes, to_be_bytes}
use Rattle.std.proofs.lemmas.Bool.{lt-ltb, le-ltb}
use Rattle.std.proofs.lemmas.List.{append_assoc, drop-append-le, take-append-le, length-append, length-drop}
use Rattle.std.proofs.lemmas.Nat.{from_be_bytes-to_be_bytes_8}
use Rattle.std.proofs.Math.Seq.{take-append_seam, take-length}
use Rattle.hprof_byte_tables.specs.Spans.{framed, length_bytes, long_length, front_length, front_width, HasFrontRow, front_row}

-- ---- a length of eight bytes

long_length-append : (bytes more : List ℕ) → 8 ≤ length bytes → long_length (bytes ++ more) ≡ long_length bytes
unfolding long_length
long_length-append bytes more room = ap (from_be_bytes w64) (take-append-le 8 bytes more room)

long_length-spelled : (count : ℕ) (bytes : List ℕ) → count < 2 ^ 64 → long_length (to_be_bytes w64 count ++ bytes) ≡ count
unfolding long_length
long_length-spelled count bytes small =
    ap (from_be_bytes w64) (take-append_seam (to_be_bytes w64 count) bytes) ∙ from_be_bytes-to_be_bytes_8 count small

-- ---- more bytes behind those that were there

pub front_width-some : (bytes : List ℕ) → 1 ≤ front_width bytes
unfolding front_width
front_width-some [] = omega arith
front_width-some (first ∷ bytes) = by_test (nat_lt first 255)
  where
    by_test : (short : Bool) → 1 ≤ (if short then 1 else 9)
    by_test true = omega arith
    by_test false = omega arith

front_width-append : (bytes more : List ℕ) → HasFrontRow bytes → front_width (bytes ++ more) ≡ front_width bytes
unfolding front_width
front_width-append [] more there = absurd (omega (arith, there))
front_width-append (first ∷ bytes) more there = refl

front_length-append : (bytes more : List ℕ) → HasFrontRow bytes → front_length (bytes ++ more) ≡ front_length bytes
unfolding front_length front_width
front_length-append [] more there = absurd (omega (arith, there))
front_length-append (first ∷ bytes) more there = by_test (nat_lt first 255) there
  where
    by_test : (short : Bool) → (if short then 1 else 9) + (if short then first else long_length bytes) ≤ length (first ∷ bytes)
        → (if short then first else long_length (bytes ++ more)) ≡ (if short then first else long_length bytes)
    by_test true there = refl
    by_test false there = long_length-append bytes more (omega (arith, there))

pub HasFrontRow-append : (bytes more : List ℕ) → HasFrontRow bytes → HasFrontRow (bytes ++ more)
HasFrontRow-append bytes more there =
    rw (front_width-append bytes more there, front_length-append bytes more there) (omega (arith, there, length-append bytes more))

pub front_row-append : (bytes more : List ℕ) → HasFrontRow bytes → front_row (bytes ++ more) ≡ front_row bytes
front_row-append bytes more there =
    let room : front_length bytes ≤ length (drop (front_width bytes) bytes) = omega (arith, there, length-drop (front_width bytes) bytes) in
    rw (front_width-append bytes more there, front_length-append bytes more there)
    (ap (take (front_length bytes)) (drop-append-le (front_width bytes) bytes more (omega (arith, there)))
    ∙ take-append-le (front_length bytes) (drop (front_width bytes) bytes) more room)

-- ---- bytes that were put there with their length in front

module _ (row : List ℕ) (small : length row < 2 ^ 64) where
  row_spelled : (short : Bool) → nat_lt (length row) 255 ≡ short
      → front_row ((if short then length row ∷ [] else 255 ∷ to_be_bytes w64 (length row)) ++ row) ≡ row
  unfolding front_length front_width
  row_spelled true is = rw is (take-length row)
  row_spelled false is = rw (long_length-spelled (length row) row small) (take-length row)

  there_spelled : (short : Bool) → nat_lt (length row) 255 ≡ short
      → HasFrontRow ((if short then length row ∷ [] else 255 ∷ to_be_bytes w64 (length row)) ++ row)
  unfolding front_length front_width
  there_spelled true is = rw is (omega arith)
  there_spelled false is = rw (long_length-spelled (length row) row small) (omega arith)

  pub front_row-framed : front_row (framed row) ≡ row
  unfolding length_bytes
  front_row-framed = row_spelled (nat_lt (length row) 255) refl

  pub HasFrontRow-framed : HasFrontRow (framed row)
  unfolding length_bytes
  HasFrontRow-framed = there_spelled (nat_lt (length row) 255) refl

-- ---- reading

-- bytes that are there are got
pub front_got : (got : Option (Bor (List ℕ))) (bytes : List ℕ) (count : ℕ) → IsGetRangeResult bytes 0 count got
    → count ≤ length bytes → option_copied got ≡ Some (take count bytes)
front_got None bytes count is within = let there = is.1 (omega arith, within) in absurd cc
front_got (Some part) bytes count is within =
    let same : count - 0 ≡ count = omega arith in
    ap (λ (l : List ℕ). Some l) is.0.2 ∙ ap (λ (n : ℕ). Some (take n bytes)) same

module _ (first : ℕ) (bytes : List ℕ) (found : Option (List ℕ)) where
  pub short_found : first < 255 → (first ≤ length bytes → found ≡ Some (take first bytes))
      → HasFrontRow (first ∷ bytes) → found ≡ Some (front_row (first ∷ bytes))
  unfolding front_length front_width
  short_found short behind = rw (lt-ltb first 255 short) (λ there. behind (omega (arith, there)))

  pub long_found : 255 ≤ first
      → (8 + long_length bytes ≤ length bytes → found ≡ Some (take (long_length bytes) (drop 8 bytes)))
      → HasFrontRow (first ∷ bytes) → found ≡ Some (front_row (first ∷ bytes))
  unfolding front_length front_width
  long_found long behind = rw (le-ltb first 255 long) (λ there. behind (omega (arith, there)))

-- ---- writing

module _ (row : List ℕ) where
  pub short_framed : length row < 255 → framed row ≡ length row ∷ row
  unfolding length_bytes
  short_framed short = rw (lt-ltb (length row) 255 short) refl

  pub long_framed : 255 ≤ length row → framed row ≡ 255 ∷ (to_be_bytes w64 (length row) ++ row)
  unfolding length_bytes
  long_framed long = rw (le-ltb (length row) 255 long) refl

  pub short_size : length row < 255 → length (framed row) ≡ 1 + length row
  short_size short = ap length (short_framed short) ∙ omega arith

  pub long_size : 255 ≤ length row → length (framed row) ≡ 9 + length row
  long_size long = ap length (long_framed long) ∙ omega arith

  pub short_put : (bytes : List ℕ) → length row < 255 → (bytes ++ length row ∷ []) ++ row ≡ bytes ++ framed row
  short_put bytes short = append_assoc bytes (length row ∷ []) row ∙ ap (λ (l : List ℕ). bytes ++ l) (sym (short_framed short))

  pub long_put : (bytes : List ℕ) → 255 ≤ length row
      → ((bytes ++ 255 ∷ []) ++ to_be_bytes w64 (length row)) ++ row ≡ bytes ++ framed row
  long_put bytes long =
      append_assoc (bytes ++ 255 ∷ []) (to_be_bytes w64 (length row)) row
      ∙ append_assoc bytes (255 ∷ []) (to_be_bytes w64 (length row) ++ row)
      ∙ ap (λ (l : List ℕ). bytes ++ l) (sym (long_framed long))

module _ {A E : Type 0} where
  pub if_put : (done : Result A E) (old row new all : List ℕ) → new ≡ (if is_ok done then old ++ row else old) → old ++ row ≡ all
      → IfOk done (λ _. new ≡ all)
  if_put (Ok _) old row new all put is = put ∙ is
  if_put (Err _) old row new all put is = tt

  pub if_ok : (done : Result A E) (P : Type 0) → P → OnOk done P
  if_ok (Ok _) P is = is
  if_ok (Err _) P is = tt
