-- Units that stand in front of bytes, as far as a loop has come.
use Rattle.std.proofs.Common.{◌≡◌, ℕ, ◌+◌, ◌/◌, ◌%◌, ◌^◌, ◌<◌, ◌==◌, true, false, List, [], ◌∷◌, ◌++◌, length, get_or, take, Option, Some}
use Rattle.std.proofs.Common.{None, arith, refl, sym, ap, ◌∙◌, append_assoc}
use Rattle.std.specs.List.{All, flat_map}
use Rattle.std.proofs.lemmas.Bool.Decides.{nat_tests}
use Rattle.std.proofs.lemmas.List.{append-nil, length-append, take_more}
use Rattle.std.proofs.lemmas.List.Concat.{flat_map-append}
use Rattle.std.proofs.lemmas.List.Elements.{All-nil, All-cons, All-head, All-tail, All-append}
use Rattle.hprof_text.specs.ModifiedUtf8.{unit_bytes, BeginsWithNoUnit, IsModifiedUtf8, HasUnits, DecodesTo}
use Rattle.hprof_text.proofs.Rows.{Row, one, two, three, row_of, begins, no_unit_from_nil}

abbrev pub fits : ℕ → Type 0
fits unit = unit < 2 ^ 16

-- what one more element adds to a list of lists
pub flat_map_at : (f : ℕ → List ℕ) (xs : List ℕ) (i : ℕ) → i < length xs
    → flat_map f (take (i + 1) xs) ≡ flat_map f (take i xs) ++ f (get_or xs i 0)
flat_map_at f xs i inside =
    rw (take_more xs i 0 inside, flat_map-append f (take i xs) (get_or xs i 0 ∷ []), append-nil) refl

pub length-flat_map_more : (f : ℕ → List ℕ) (xs : List ℕ) (i : ℕ) → i < length xs
    → length (flat_map f (take (i + 1) xs)) ≡ length (flat_map f (take i xs)) + length (f (get_or xs i 0))
length-flat_map_more f xs i inside = rw (flat_map_at f xs i inside) (length-append (flat_map f (take i xs)) (f (get_or xs i 0)))

-- ---- no unit's bytes begin another's

same_unit_row : (u v : ℕ) (x y row : List ℕ) → Row u row → row ++ x ≡ unit_bytes v ++ y → (u ≡ v) × (x ≡ y)
same_unit_row u v x y _ (one low high) e =
    elim (begins u v x y e) [
      | one _ most f o ↦ (f, o)
      | two _ most f o ↦ absurd (omega arith)
      | three least f o ↦ absurd (omega arith)
    ]
same_unit_row u v x y _ (two low high) e =
    elim (begins (0xc0 + u / 64) v ((0x80 + u % 64) ∷ x) y e) [
      | one _ most f o ↦ absurd (omega arith)
      | two _ most f o ↦
          let second : 0x80 + u % 64 ≡ 0x80 + v % 64 = cc in
          (omega arith, cc)
      | three least f o ↦ absurd (omega arith)
    ]
same_unit_row u v x y _ (three low) e =
    elim (begins (0xe0 + u / 4096) v ((0x80 + u / 64 % 64) ∷ (0x80 + u % 64) ∷ x) y e) [
      | one _ most f o ↦ absurd (omega arith)
      | two _ most f o ↦ absurd (omega arith)
      | three least f o ↦
          let second : 0x80 + u / 64 % 64 ≡ 0x80 + v / 64 % 64 = cc in
          let third : 0x80 + u % 64 ≡ 0x80 + v % 64 = cc in
          (omega arith, cc)
    ]

pub same_unit : (u v : ℕ) (x y : List ℕ) → unit_bytes u ++ x ≡ unit_bytes v ++ y → (u ≡ v) × (x ≡ y)
same_unit u v x y e = same_unit_row u v x y (unit_bytes u) (row_of u) e

nil_begins_none : (unit : ℕ) (rest : List ℕ) → fits unit → unit_bytes unit ++ rest ≡ [] → ⊥
nil_begins_none unit rest small e = no_unit_from_nil unit rest small (sym e)

-- what units begin with goes on with the others
pub units_go_on : (us vs rest : List ℕ) → All fits us → All fits vs
    → flat_map unit_bytes us ++ rest ≡ flat_map unit_bytes vs
    → (ws : List ℕ) × (vs ≡ us ++ ws) × IsModifiedUtf8 ws rest
units_go_on [] vs rest small large e = (vs, refl, record { in_range = large; encoded = e })
units_go_on (u ∷ us) [] rest small large e =
    absurd (nil_begins_none u (flat_map unit_bytes us ++ rest) (All-head fits u us small)
    (sym (append_assoc (unit_bytes u) (flat_map unit_bytes us) rest) ∙ e))
units_go_on (u ∷ us) (v ∷ vs) rest small large e =
    let regrouped : unit_bytes u ++ (flat_map unit_bytes us ++ rest) ≡ unit_bytes v ++ flat_map unit_bytes vs =
    sym (append_assoc (unit_bytes u) (flat_map unit_bytes us) rest) ∙ e in
    let same = same_unit u v (flat_map unit_bytes us ++ rest) (flat_map unit_bytes vs) regrouped in
    let more = units_go_on us vs rest (All-tail fits u us small) (All-tail fits v vs large) same.1 in
    let whole : v ∷ vs ≡ u ∷ (us ++ more.0) = cc (same.0, more.1) in
    (more.0, whole, more.2)

-- ---- the units so far

-- The units stand in front of the rest of the bytes.
pub record Front (units bytes rest : List ℕ) : Type 0 where
  pub in_range : All fits units
  pub whole : bytes ≡ flat_map unit_bytes units ++ rest

pub front_none : (bytes : List ℕ) → Front [] bytes bytes
front_none bytes = record { in_range = All-nil fits; whole = refl }

pub front_more : (units more bytes rest after : List ℕ) → Front units bytes rest → All fits more
    → rest ≡ flat_map unit_bytes more ++ after → Front (units ++ more) bytes after
front_more units more bytes rest after f small e = record {
  in_range = All-append fits units more f.in_range small;
  whole = rw (flat_map-append unit_bytes units more, append_assoc, ← e) f.whole;
}

pub front_push : (units bytes rest after : List ℕ) (unit : ℕ) → Front units bytes rest → fits unit
    → rest ≡ unit_bytes unit ++ after → Front (units ++ unit ∷ []) bytes after
front_push units bytes rest after unit f small e =
    front_more units (unit ∷ []) bytes rest after f (All-cons fits unit [] small (All-nil fits))
    (e ∙ ap (λ xs. xs ++ after) (sym (append-nil (unit_bytes unit))))

pub front_all : (units bytes : List ℕ) → Front units bytes [] → IsModifiedUtf8 units bytes
front_all units bytes f = record { in_range = f.in_range; encoded = f.whole ∙ append-nil (flat_map unit_bytes units) }

-- where no unit stands next, the bytes that have units are at their end
rest_ends : (ws rest : List ℕ) → IsModifiedUtf8 ws rest → BeginsWithNoUnit rest → rest ≡ []
rest_ends [] rest m none = m.encoded
rest_ends (w ∷ ws) rest m none = absurd (none w (flat_map unit_bytes ws) (All-head fits w ws m.in_range) m.encoded)

pub front_stop : (units bytes rest : List ℕ) → Front units bytes rest → BeginsWithNoUnit rest → HasUnits bytes → rest ≡ []
front_stop units bytes rest f none has =
    let more = units_go_on units has.0 rest f.in_range has.1.in_range (sym f.whole ∙ has.1.encoded) in
    rest_ends more.0 rest more.2 none

-- ---- the units of bytes are one list

pub one_units : (us vs bytes : List ℕ) → IsModifiedUtf8 us bytes → IsModifiedUtf8 vs bytes → us ≡ vs
one_units us vs bytes a b =
    let more = units_go_on us vs [] a.in_range b.in_range (append-nil (flat_map unit_bytes us) ∙ sym a.encoded ∙ b.encoded) in
    let none = ends_none more.0 more.2 in
    sym (append-nil us) ∙ ap (λ (ws : List ℕ). us ++ ws) (sym none) ∙ sym more.1
  where
    ends_none : (ws : List ℕ) → IsModifiedUtf8 ws [] → ws ≡ []
    ends_none [] m = refl
    ends_none (w ∷ ws) m = absurd (nil_begins_none w (flat_map unit_bytes ws) (All-head fits w ws m.in_range) (sym m.encoded))

pub one_bytes : (units a b : List ℕ) → IsModifiedUtf8 units a → IsModifiedUtf8 units b → a ≡ b
one_bytes units a b p q = p.encoded ∙ sym q.encoded

pub units_found : (units bytes : List ℕ) (found : Option (List ℕ)) → IsModifiedUtf8 units bytes
    → DecodesTo bytes found → found ≡ Some units
units_found units bytes (Some others) is h = ap Some (one_units others units bytes h is)
units_found units bytes None is h = absurd (h (units, is))

-- ---- the end of a loop

pub ended : (rest : List ℕ) → (length rest == 0) ≡ true → rest ≡ []
ended [] e = refl
ended (byte ∷ rest) e = let none : length (byte ∷ rest) ≡ 0 = grind (arith, nat_tests, e) in absurd (omega (arith, none))

pub not_ended : (rest : List ℕ) → (length rest == 0) ≡ false → rest ≡ [] → ⊥
not_ended [] e same = absurd cc
not_ended (byte ∷ rest) e same = absurd cc
