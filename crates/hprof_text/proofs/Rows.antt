-- The rows of the table: which bytes a unit has, and that no unit's bytes begin another's.
use Rattle.std.proofs.Common.{◌≡◌, ◌≢◌, ℕ, ◌+◌, ◌-◌, ◌*◌, ◌/◌, ◌%◌, ◌<◌, ◌≤◌, ◌⊎◌, inl, inr, List, [], ◌∷◌, ◌++◌, length, arith, refl}
use Rattle.std.proofs.lemmas.Bool.{cases_lt, cases_eq}
use Rattle.hprof_text.specs.ModifiedUtf8.{unit_bytes, BeginsWithNoUnit}

pub unit_bytes-one : (unit : ℕ) → 1 ≤ unit → unit ≤ 0x7f → unit_bytes unit ≡ unit ∷ []
unfolding unit_bytes
unit_bytes-one unit low high = grind arith

pub unit_bytes-two : (unit : ℕ) → (unit ≡ 0) ⊎ (0x80 ≤ unit) → unit ≤ 0x7ff
    → unit_bytes unit ≡ (0xc0 + unit / 64) ∷ (0x80 + unit % 64) ∷ []
unfolding unit_bytes
unit_bytes-two unit low high = grind arith

pub unit_bytes-three : (unit : ℕ) → 0x800 ≤ unit
    → unit_bytes unit ≡ (0xe0 + unit / 4096) ∷ (0x80 + unit / 64 % 64) ∷ (0x80 + unit % 64) ∷ []
unfolding unit_bytes
unit_bytes-three unit low = grind arith

-- The row that a unit's bytes are of.
pub data Row : ℕ → List ℕ → Type 0 where
  one : {unit : ℕ} → 1 ≤ unit → unit ≤ 0x7f → Row unit (unit ∷ [])
  two : {unit : ℕ} → (unit ≡ 0) ⊎ (0x80 ≤ unit) → unit ≤ 0x7ff → Row unit ((0xc0 + unit / 64) ∷ (0x80 + unit % 64) ∷ [])
  three : {unit : ℕ} → 0x800 ≤ unit → Row unit ((0xe0 + unit / 4096) ∷ (0x80 + unit / 64 % 64) ∷ (0x80 + unit % 64) ∷ [])

-- A unit's bytes are of a row.
pub row_of : (unit : ℕ) → Row unit (unit_bytes unit)
row_of unit =
    elim (cases_lt unit 0x80) [
      | inl small ↦
          elim (cases_eq unit 0) [
            | inl none ↦
                let most : unit ≤ 0x7ff = omega arith in
                rw (unit_bytes-two unit (inl none) most) (two {unit = unit} (inl none) most)
            | inr some ↦
                let least : 1 ≤ unit = omega arith in
                let most : unit ≤ 0x7f = omega arith in
                rw (unit_bytes-one unit least most) (one {unit = unit} least most)
          ]
      | inr large ↦
          elim (cases_lt unit 0x800) [
            | inl below ↦
                let most : unit ≤ 0x7ff = omega arith in
                rw (unit_bytes-two unit (inr large) most) (two {unit = unit} (inr large) most)
            | inr above ↦ rw (unit_bytes-three unit above) (three {unit = unit} above)
          ]
    ]

-- What the first byte tells of the unit at the front, and what the bytes after it are.
pub data Begins (first unit : ℕ) (others after : List ℕ) : Type 0 where
  one : 1 ≤ unit → unit ≤ 0x7f → first ≡ unit → others ≡ after → Begins first unit others after
  two : (unit ≡ 0) ⊎ (0x80 ≤ unit) → unit ≤ 0x7ff → first ≡ 0xc0 + unit / 64 → others ≡ (0x80 + unit % 64) ∷ after
      → Begins first unit others after
  three : 0x800 ≤ unit → first ≡ 0xe0 + unit / 4096
      → others ≡ (0x80 + unit / 64 % 64) ∷ (0x80 + unit % 64) ∷ after → Begins first unit others after

begins_row : (first unit : ℕ) (others after row : List ℕ) → Row unit row → first ∷ others ≡ row ++ after
    → Begins first unit others after
begins_row first unit others after _ (one low high) e = one low high (cc) (cc)
begins_row first unit others after _ (two low high) e = two low high (cc) (cc)
begins_row first unit others after _ (three low) e = three low (cc) (cc)

pub begins : (first unit : ℕ) (others after : List ℕ) → first ∷ others ≡ unit_bytes unit ++ after
    → Begins first unit others after
begins first unit others after e = begins_row first unit others after (unit_bytes unit) (row_of unit) e

-- ---- which bytes are a unit's

pub one_byte_is : (first : ℕ) (rest : List ℕ) → 1 ≤ first → first ≤ 0x7f
    → first ∷ rest ≡ unit_bytes first ++ rest
one_byte_is first rest low high = rw (unit_bytes-one first low high) refl

pub two_bytes_are : (high low : ℕ) (rest : List ℕ) → high < 32 → low < 64
    → (high * 64 + low ≡ 0) ⊎ (0x80 ≤ high * 64 + low)
    → (0xc0 + high) ∷ (0x80 + low) ∷ rest ≡ unit_bytes (high * 64 + low) ++ rest
two_bytes_are high low rest small least shortest =
    let quotient : (high * 64 + low) / 64 ≡ high = omega arith in
    let remainder : (high * 64 + low) % 64 ≡ low = omega arith in
    rw (unit_bytes-two (high * 64 + low) shortest (omega arith), quotient, remainder) refl

pub three_bytes_are : (high middle low : ℕ) (rest : List ℕ) → middle < 64 → low < 64
    → 0x800 ≤ high * 4096 + middle * 64 + low
    → (0xe0 + high) ∷ (0x80 + middle) ∷ (0x80 + low) ∷ rest ≡ unit_bytes (high * 4096 + middle * 64 + low) ++ rest
three_bytes_are high middle low rest mid least shortest =
    let top : (high * 4096 + middle * 64 + low) / 4096 ≡ high = omega arith in
    let quotient : (high * 4096 + middle * 64 + low) / 64 % 64 ≡ middle = omega arith in
    let remainder : (high * 4096 + middle * 64 + low) % 64 ≡ low = omega arith in
    rw (unit_bytes-three (high * 4096 + middle * 64 + low) shortest, top, quotient, remainder) refl

-- ---- which are not

-- no unit begins with another byte
pub no_unit_from_first : (first : ℕ) (others : List ℕ)
    → (first ≡ 0) ⊎ ((0x80 ≤ first) × (first < 0xc0)) ⊎ (0xf0 ≤ first) → BeginsWithNoUnit (first ∷ others)
no_unit_from_first first others outside unit after fits e =
    elim (begins first unit others after e) [
      | one low high f o ↦ omega arith
      | two low high f o ↦ omega arith
      | three low f o ↦ omega arith
    ]

-- no continuation byte after the first of two
pub no_unit_from_second : (first : ℕ) (others : List ℕ) → 0xc0 ≤ first → first ≤ 0xdf
    → ((bits : ℕ) (rest : List ℕ) → bits < 64 → others ≢ (0x80 + bits) ∷ rest) → BeginsWithNoUnit (first ∷ others)
no_unit_from_second first others low high none unit after fits e =
    elim (begins first unit others after e) [
      | one _ most f o ↦ omega arith
      | two _ most f o ↦ none (unit % 64) after (omega arith) o
      | three least f o ↦ omega arith
    ]

-- a longer form of one byte
pub no_unit_from_two : (first low : ℕ) (rest : List ℕ) → 0xc0 ≤ first → first ≤ 0xdf → low < 64
    → (first - 0xc0) * 64 + low ≢ 0 → (first - 0xc0) * 64 + low < 0x80
    → BeginsWithNoUnit (first ∷ (0x80 + low) ∷ rest)
no_unit_from_two first low rest least most small some below unit after fits e =
    elim (begins first unit ((0x80 + low) ∷ rest) after e) [
      | one _ high f o ↦ omega arith
      | two shortest high f o ↦
          let same : 0x80 + low ≡ 0x80 + unit % 64 = cc in
          omega arith
      | three least f o ↦ omega arith
    ]

-- no continuation byte after the first of three
pub no_unit_from_middle : (first : ℕ) (others : List ℕ) → 0xe0 ≤ first → first ≤ 0xef
    → ((bits : ℕ) (rest : List ℕ) → bits < 64 → others ≢ (0x80 + bits) ∷ rest) → BeginsWithNoUnit (first ∷ others)
no_unit_from_middle first others low high none unit after fits e =
    elim (begins first unit others after e) [
      | one _ most f o ↦ omega arith
      | two _ most f o ↦ omega arith
      | three least f o ↦ none (unit / 64 % 64) ((0x80 + unit % 64) ∷ after) (omega arith) o
    ]

-- nor after the second of three
pub no_unit_from_last : (first middle : ℕ) (others : List ℕ) → 0xe0 ≤ first → first ≤ 0xef
    → ((bits : ℕ) (rest : List ℕ) → bits < 64 → others ≢ (0x80 + bits) ∷ rest)
    → BeginsWithNoUnit (first ∷ middle ∷ others)
no_unit_from_last first middle others low high none unit after fits e =
    elim (begins first unit (middle ∷ others) after e) [
      | one _ most f o ↦ omega arith
      | two _ most f o ↦ omega arith
      | three least f o ↦ none (unit % 64) after (omega arith) (cc)
    ]

-- a longer form of one or two bytes
pub no_unit_from_three : (first middle low : ℕ) (rest : List ℕ) → 0xe0 ≤ first → first ≤ 0xef → middle < 64 → low < 64
    → (first - 0xe0) * 4096 + middle * 64 + low < 0x800
    → BeginsWithNoUnit (first ∷ (0x80 + middle) ∷ (0x80 + low) ∷ rest)
no_unit_from_three first middle low rest least most mid small below unit after fits e =
    elim (begins first unit ((0x80 + middle) ∷ (0x80 + low) ∷ rest) after e) [
      | one _ high f o ↦ omega arith
      | two _ high f o ↦ omega arith
      | three shortest f o ↦
          let second : 0x80 + middle ≡ 0x80 + unit / 64 % 64 = cc in
          let third : 0x80 + low ≡ 0x80 + unit % 64 = cc in
          omega arith
    ]

-- the empty list begins with no unit
no_unit_from_row : (unit : ℕ) (after row : List ℕ) → Row unit row → [] ≡ row ++ after → ⊥
no_unit_from_row unit after _ (one low high) e = cc
no_unit_from_row unit after _ (two low high) e = cc
no_unit_from_row unit after _ (three low) e = cc

pub no_unit_from_nil : BeginsWithNoUnit []
no_unit_from_nil unit after fits e = no_unit_from_row unit after (unit_bytes unit) (row_of unit) e

-- ---- a unit takes a byte at least

rest_of_row : (unit : ℕ) (row rest : List ℕ) → Row unit row → length rest < length (row ++ rest)
rest_of_row unit _ rest (one low high) = omega arith
rest_of_row unit _ rest (two low high) = omega arith
rest_of_row unit _ rest (three low) = omega arith

pub rest_is_shorter : (unit : ℕ) (bytes rest : List ℕ) → bytes ≡ unit_bytes unit ++ rest → length rest < length bytes
rest_is_shorter unit bytes rest e = rw e (rest_of_row unit (unit_bytes unit) rest (row_of unit))

length_of_row : (unit : ℕ) (row : List ℕ) → Row unit row → length row ≤ 3
length_of_row unit _ (one low high) = omega arith
length_of_row unit _ (two low high) = omega arith
length_of_row unit _ (three low) = omega arith

-- and three at most
pub length-unit_bytes-le : (unit : ℕ) → length (unit_bytes unit) ≤ 3
length-unit_bytes-le unit = length_of_row unit (unit_bytes unit) (row_of unit)
