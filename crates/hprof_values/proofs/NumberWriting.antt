-- Numbers that are put at the front of some bytes, one behind the other.
use Rattle.std.proofs.Common.{◌≡◌, ℕ, suc, ◌+◌, ◌-◌, ◌*◌, ◌<◌, ◌≤◌, ◌^◌, List, [], ◌∷◌, ◌++◌, length, take, drop, get_or, sym, ap, subst}
use Rattle.std.proofs.Common.{◌∙◌, append_assoc, append-nil, take-append-drop, arith}
use Rattle.std.proofs.lemmas.List.{drop_all, drop_at, take_at, length-append, length-drop, length-take-le}
use Rattle.std.proofs.Math.Seq.{drop-cons, drop-drop}
use Rattle.std.specs.Prelude.{sum}
use borrow.Rule.Slice.PartMut.{put_mid}
use Rattle.byteorder.specs.Endian.{big_bytes}
use Rattle.byteorder.specs.Numbers.{length-bytes_high_first}
use Rattle.hprof_values.specs.declared.ids.IdSize.{IdSize}
use Rattle.hprof_values.specs.declared.ids.IdSize.TheVariants.{Four, Eight}
use Rattle.hprof_values.specs.declared.number_writing.Number.{Number}
use Rattle.hprof_values.specs.declared.number_writing.Number.TheVariants as numbers
use Rattle.hprof_values.specs.FieldGroups.{field_bytes, FitFields}
use Rattle.hprof_values.specs.Numbers.{width_of_number, number_value, number_widths, number_values}
use Rattle.hprof_values.proofs.Numbers.{to_the_end}
use Rattle.hprof_values.proofs.FieldGroups.{sum_widths}

-- the bytes that spell the numbers
abbrev pub numbers_bytes : IdSize → List Number → List ℕ
numbers_bytes ids numbers = field_bytes (number_widths ids numbers) (number_values numbers)

-- all the numbers but the rest were put at the front, up to the end
pub record Put (ids : IdSize) (numbers rest : List Number) (old now : List ℕ) (end : ℕ) : Type 0 where
  pub len : length now ≡ length old
  pub spelled : numbers_bytes ids numbers ≡ take end now ++ numbers_bytes ids rest
  pub behind : drop end now ≡ drop end old
  pub widths : end + sum (number_widths ids rest) ≡ sum (number_widths ids numbers)
  pub fits : FitFields (number_widths ids rest) (number_values rest)

-- the number at a place is the first from there on
pub Put-next : (ids : IdSize) (numbers : List Number) (i : ℕ) (d : Number) (old now : List ℕ) (end : ℕ) → i < length numbers
    → Put ids numbers (drop i numbers) old now end
    → Put ids numbers (get_or numbers i d ∷ drop (i + 1) numbers) old now end
Put-next ids numbers i d old now end lt put =
    let next : suc i ≡ i + 1 = omega arith in
    let first : drop i numbers ≡ get_or numbers i d ∷ drop (i + 1) numbers = drop-cons numbers i d lt
    ∙ ap (λ (n : ℕ). get_or numbers i d ∷ drop n numbers) next in
    subst (λ (rest : List Number). Put ids numbers rest old now end) first put

-- what was put lies in the bytes
pub Put-lies : (ids : IdSize) (numbers rest : List Number) (old now : List ℕ) (end : ℕ) → sum (number_widths ids numbers) ≤ length old
    → Put ids numbers rest old now end → end ≤ length now
Put-lies ids numbers rest old now end room put = omega (arith, put.widths, put.len)

-- the next number has room
pub Put-room : (ids : IdSize) (numbers : List Number) (number : Number) (rest : List Number) (old now : List ℕ) (end : ℕ)
    → sum (number_widths ids numbers) ≤ length old
    → Put ids numbers (number ∷ rest) old now end → end + width_of_number ids number ≤ length now
Put-room ids numbers number rest old now end room put =
    omega (arith, put.widths, put.len, sum_widths (width_of_number ids number) (number_widths ids rest))

-- a part that was written to the end
written : (end : ℕ) (now part new : List ℕ) → end ≤ length now → new ≡ put_mid end (length now - end) now part → new ≡ take end now ++ part
written end now part new le e =
    e ∙ ap (λ (r : List ℕ). take end now ++ (part ++ r)) (drop_all (length now - end) (drop end now)
    (omega (arith, length-drop end now))) ∙ ap (λ (r : List ℕ). take end now ++ r) (append-nil part)

-- one number more
pub Put-more : (ids : IdSize) (numbers : List Number) (number : Number) (rest : List Number) (old now part new : List ℕ) (end width : ℕ)
    → sum (number_widths ids numbers) ≤ length old → Put ids numbers (number ∷ rest) old now end → width ≡ width_of_number ids number
    → part ≡ big_bytes (width_of_number ids number) (number_value number) ++ drop (width_of_number ids number)
    (take (length now - end) (drop end now))
    → new ≡ put_mid end (length now - end) now part → Put ids numbers rest old new (end + width)
Put-more ids numbers number rest old now part new end width room put is e f =
    let w = width_of_number ids number in
    let bytes : List ℕ = big_bytes w (number_value number) in
    let fits = Put-room ids numbers number rest old now end room put in
    let all = sum_widths w (number_widths ids rest) in
    let front : length (take end now) ≡ end = length-take-le end now (omega arith) in
    let joined : length (take end now ++ bytes) ≡ end + width =
    omega (arith, length-append (take end now) bytes, length-bytes_high_first w (number_value number)) in
    let back : List ℕ = drop w (drop end now) in
    let parts : new ≡ (take end now ++ bytes) ++ back =
    written end now part new (omega arith) f
    ∙ ap (λ (r : List ℕ). take end now ++ r) (e ∙ ap (λ (r : List ℕ). bytes ++ drop w r) (to_the_end end now))
    ∙ sym (append_assoc (take end now) bytes back) in
    record {
      len = omega (
        arith,
        put.len,
        ap length parts,
        length-append (take end now ++ bytes) back,
        length-drop w (drop end now),
        length-drop end now,
      );
      spelled =
          put.spelled
          ∙ sym (append_assoc (take end now) bytes (numbers_bytes ids rest))
          ∙ ap (λ (r : List ℕ). r ++ numbers_bytes ids rest)
          (sym (ap (take (end + width)) parts ∙ take_at (take end now ++ bytes) back (end + width) joined));
      behind =
          ap (drop (end + width)) parts ∙ drop_at (take end now ++ bytes) back (end + width) joined
          ∙ ap (drop w) put.behind ∙ drop-drop w end old ∙ ap (λ (n : ℕ). drop (end + n) old) (sym is);
      widths = omega (arith, put.widths);
      fits = put.fits.1;
    }

-- all of them
pub Put-all : (ids : IdSize) (numbers : List Number) (i : ℕ) (old now : List ℕ) (end : ℕ) → length numbers ≤ i
    → Put ids numbers (drop i numbers) old now end
    → now ≡ numbers_bytes ids numbers ++ drop (sum (number_widths ids numbers)) old
Put-all ids numbers i old now end le some =
    let put = subst (λ (rest : List Number). Put ids numbers rest old now end) (drop_all i numbers le) some in
    let last : end ≡ sum (number_widths ids numbers) = omega (arith, put.widths) in
    sym (take-append-drop end now)
    ∙ ap (λ (r : List ℕ). r ++ drop end now) (sym (put.spelled ∙ append-nil (take end now)))
    ∙ ap (λ (r : List ℕ). numbers_bytes ids numbers ++ r) (put.behind ∙ ap (λ (n : ℕ). drop n old) last)

-- no number has more than eight bytes
width_most : (ids : IdSize) (number : Number) → width_of_number ids number ≤ 8
width_most Four (numbers.Id id) = omega arith
width_most Eight (numbers.Id id) = omega arith
width_most ids (numbers.Four number) = omega arith
width_most ids (numbers.Two number) = omega arith
width_most ids (numbers.One number) = omega arith

-- nor so many numbers more than eight each
pub widths_most : (ids : IdSize) (numbers : List Number) → sum (number_widths ids numbers) ≤ 8 * length numbers
widths_most ids [] = omega arith
widths_most ids (number ∷ numbers) =
    omega (arith, sum_widths (width_of_number ids number) (number_widths ids numbers), width_most ids number, widths_most ids numbers)

-- ---- whether they fit

-- all the numbers fit exactly where the rest do
pub record FitSoFar (ids : IdSize) (numbers rest : List Number) : Type 0 where
  pub all : FitFields (number_widths ids rest) (number_values rest) → FitFields (number_widths ids numbers) (number_values numbers)
  pub left : FitFields (number_widths ids numbers) (number_values numbers) → FitFields (number_widths ids rest) (number_values rest)

pub FitSoFar-none : (ids : IdSize) (numbers : List Number) → FitSoFar ids numbers numbers
FitSoFar-none ids numbers = record { all = λ fits. fits; left = λ fits. fits }

-- the number at a place is the first from there on
pub FitSoFar-next : (ids : IdSize) (numbers : List Number) (i : ℕ) (d : Number) → i < length numbers → FitSoFar ids numbers (drop i numbers)
    → FitSoFar ids numbers (get_or numbers i d ∷ drop (i + 1) numbers)
FitSoFar-next ids numbers i d lt fits =
    let next : suc i ≡ i + 1 = omega arith in
    let first : drop i numbers ≡ get_or numbers i d ∷ drop (i + 1) numbers = drop-cons numbers i d lt
    ∙ ap (λ (n : ℕ). get_or numbers i d ∷ drop n numbers) next in
    subst (FitSoFar ids numbers) first fits

-- one number more that fits
pub FitSoFar-more : (ids : IdSize) (numbers : List Number) (number : Number) (rest : List Number)
    → number_value number < 256 ^ width_of_number ids number
    → FitSoFar ids numbers (number ∷ rest) → FitSoFar ids numbers rest
FitSoFar-more ids numbers number rest here fits = record { all = λ others. fits.all (here, others); left = λ all. (fits.left all).1 }

-- all of them
pub FitSoFar-all : (ids : IdSize) (numbers : List Number) (i : ℕ) → length numbers ≤ i → FitSoFar ids numbers (drop i numbers)
    → FitFields (number_widths ids numbers) (number_values numbers)
FitSoFar-all ids numbers i le fits = (subst (FitSoFar ids numbers) (drop_all i numbers le) fits).all tt
