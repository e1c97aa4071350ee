-- Bytes have units or have none, so each have a printed form.
use Rattle.std.proofs.Common.{◌≡◌, ◌⊎◌, inl, inr, ℕ, zero, suc, ◌+◌, ◌^◌, ◌<◌, ◌≤◌, List, [], ◌∷◌, ◌++◌, length}
use Rattle.std.proofs.Common.{arith, refl, sym, ap, ◌∙◌}
use Rattle.std.specs.List.{All, flat_map}
use Rattle.std.proofs.lemmas.Bool.{cases_eq}
use Rattle.std.proofs.lemmas.List.Elements.{All-nil, All-cons, All-head, All-tail}
use Rattle.hprof_text.specs.ModifiedUtf8.{unit_bytes, BeginsWithNoUnit, IsModifiedUtf8, HasUnits}
use Rattle.hprof_text.specs.Printed.{printed_unit, printed_bytes, IsPrinted}
use Rattle.hprof_text.proofs.Rows.{rest_is_shorter}
use Rattle.hprof_text.proofs.Fronts.{fits, same_unit}
use Rattle.hprof_text.proofs.Prints.{IsPrinted-units, IsPrinted-bytes}

-- ---- a unit stands at the front, or none does

-- what stands behind a front, if it is one
pub record Follows (front all : List ℕ) : Type 0 where
  pub rest : List ℕ
  pub parts : all ≡ front ++ rest

follows_or_not : (front all : List ℕ) → Follows front all ⊎ ¬ (Follows front all)
follows_or_not [] all = inl (record { rest = all; parts = refl })
follows_or_not (x ∷ front) [] = inr (λ f. let e = f.parts in absurd cc)
follows_or_not (x ∷ front) (y ∷ all) =
    elim (cases_eq y x) [
      | inr differ ↦ inr (λ f. let e = f.parts in let same : y ≡ x = cc in absurd (differ same))
      | inl same ↦ elim (follows_or_not front all) [
        | inl f ↦ inl (record { rest = f.rest; parts = let e = f.parts in cc })
        | inr none ↦ inr (λ f. let e = f.parts in none (record { rest = f.rest; parts = cc }))
      ]
    ]

-- the unit at the front
pub record Begins (below : ℕ) (bytes : List ℕ) : Type 0 where
  pub unit : ℕ
  pub small : unit < below
  pub follows : Follows (unit_bytes unit) bytes

NoneBelow : ℕ → List ℕ → Type 0
NoneBelow below bytes = (unit : ℕ) → unit < below → ¬ (Follows (unit_bytes unit) bytes)

begins_or_not : (below : ℕ) (bytes : List ℕ) → Begins below bytes ⊎ NoneBelow below bytes
unfolding NoneBelow
begins_or_not zero bytes = inr (λ unit small. absurd (omega arith))
begins_or_not (suc below) bytes =
    elim (begins_or_not below bytes) [
      | inl b ↦ inl (record { unit = b.unit; small = let s = b.small in omega arith; follows = b.follows })
      | inr none ↦ elim (follows_or_not (unit_bytes below) bytes) [
        | inl f ↦ inl (record { unit = below; small = omega arith; follows = f })
        | inr not ↦ inr (λ unit small. elim (cases_eq unit below) [
          | inl same ↦ rw same not
          | inr differ ↦ none unit (omega arith)
        ])
      ]
    ]

-- ---- bytes have units, or none

-- behind a unit the rest have units exactly where all have
rest_has : (unit : ℕ) (bytes rest : List ℕ) → bytes ≡ unit_bytes unit ++ rest → HasUnits bytes → unit < 2 ^ 16 → HasUnits rest
rest_has unit bytes rest e (units, is) small = go units is where
  go : (units : List ℕ) → IsModifiedUtf8 units bytes → HasUnits rest
  go [] is = let shorter = rest_is_shorter unit bytes rest e in let none = ap length is.encoded in absurd (omega (arith, shorter, none))
  go (u ∷ us) is =
      let same = same_unit unit u rest (flat_map unit_bytes us) (sym e ∙ is.encoded) in
      (us, record { in_range = All-tail fits u us is.in_range; encoded = same.1 })

all_have : (unit : ℕ) (bytes rest : List ℕ) → bytes ≡ unit_bytes unit ++ rest → unit < 2 ^ 16 → HasUnits rest → HasUnits bytes
all_have unit bytes rest e small has = (
  unit ∷ has.0,
  record {
    in_range = All-cons fits unit has.0 small has.1.in_range;
    encoded = e ∙ ap (λ (l : List ℕ). unit_bytes unit ++ l) has.1.encoded;
  },
)

-- no unit stands at the front of bytes that are there
none_has : (byte : ℕ) (bytes : List ℕ) → NoneBelow (2 ^ 16) (byte ∷ bytes) → ¬ (HasUnits (byte ∷ bytes))
unfolding NoneBelow
none_has byte bytes none ([], is) = let e = is.encoded in absurd cc
none_has byte bytes none (u ∷ us, is) =
    none u (All-head fits u us is.in_range) (record { rest = flat_map unit_bytes us; parts = is.encoded })

has_or_not : (fuel : ℕ) (bytes : List ℕ) → length bytes ≤ fuel → HasUnits bytes ⊎ ¬ (HasUnits bytes)
has_or_not fuel [] within = inl ([], record { in_range = All-nil fits; encoded = refl })
has_or_not zero (byte ∷ bytes) within = absurd (omega arith)
has_or_not (suc fuel) (byte ∷ bytes) within =
    elim (begins_or_not (2 ^ 16) (byte ∷ bytes)) [
      | inr none ↦ inr (none_has byte bytes none)
      | inl b ↦
          let rest = b.follows.rest in
          let parts = b.follows.parts in
          let shorter = rest_is_shorter b.unit (byte ∷ bytes) rest parts in
          elim (has_or_not fuel rest (omega (arith, shorter, within))) [
            | inl has ↦ inl (all_have b.unit (byte ∷ bytes) rest parts b.small has)
            | inr none ↦ inr (λ has. none (rest_has b.unit (byte ∷ bytes) rest parts has b.small))
          ]
    ]

-- ---- so they have a printed form

pub printed_exists : (bytes : List ℕ) → (text : List ℕ) × IsPrinted bytes text
printed_exists bytes =
    elim (has_or_not (length bytes) bytes (omega arith)) [
      | inl has ↦ (flat_map printed_unit has.0, IsPrinted-units bytes (flat_map printed_unit has.0) (has.0, has.1, refl))
      | inr none ↦ (printed_bytes bytes, IsPrinted-bytes bytes (printed_bytes bytes) none refl)
    ]
