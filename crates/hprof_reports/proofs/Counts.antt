-- How many have a property can be counted from the front.
use Rattle.std.proofs.Common.{◌≡◌, ℕ, ◌+◌, ◌≤◌, length, List, [], ◌∷◌, refl, ap, subst, inl, inr, arith}
use Rattle.hprof_reports.specs.Counts.{IsCountOf}

-- so many of all have the property, if that many of the rest have it
abbrev pub IsCountedTo : {A : Type 0} → (A → Type 0) → List A → ℕ → List A → Type 0
IsCountedTo P all count rest = (others : ℕ) → IsCountOf P rest others → IsCountOf P all (count + others)

pub counted_none : {A : Type 0} (P : A → Type 0) (all : List A) → IsCountedTo P all 0 all
counted_none P all others is = let same : others ≡ 0 + others = omega arith in subst (IsCountOf P all) same is

pub counted_one : {A : Type 0} (P : A → Type 0) (all : List A) (count : ℕ) (x : A) (rest : List A) → IsCountedTo P all count (x ∷ rest)
    → P x
    → IsCountedTo P all (count + 1) rest
counted_one P all count x rest w has others is =
    let same : count + (others + 1) ≡ count + 1 + others = omega arith in
    subst (IsCountOf P all) same (w (others + 1) (inl (has, others, refl, is)))

pub counted_other : {A : Type 0} (P : A → Type 0) (all : List A) (count : ℕ) (x : A) (rest : List A) → IsCountedTo P all count (x ∷ rest)
    → ¬ (P x)
    → IsCountedTo P all count rest
counted_other P all count x rest w has_not others is = w others (inr (has_not, is))

pub counted_all : {A : Type 0} (P : A → Type 0) (all : List A) (count : ℕ) (rest : List A) → rest ≡ [] → IsCountedTo P all count rest
    → IsCountOf P all count
counted_all P all count rest none w =
    let same : count + 0 ≡ count = omega arith in
    subst (IsCountOf P all) same (subst (IsCountedTo P all count) none w 0 refl)

-- ---- no more have it than there are

pub room_at_first : {A : Type 0} (left all : List A) (most : ℕ) → left ≡ all → most ≡ length all → 0 + length left ≤ most
room_at_first left all most e f = omega (arith, ap length e)

pub room_after_one : {A : Type 0} (count most : ℕ) (left : List A) (x : A) (rest : List A) → left ≡ x ∷ rest → count + length left ≤ most
    → count + 1 + length rest ≤ most
room_after_one count most left x rest e within = omega (arith, ap length e)

pub room_after_other : {A : Type 0} (count most : ℕ) (left : List A) (x : A) (rest : List A) → left ≡ x ∷ rest → count + length left ≤ most
    → count + length rest ≤ most
room_after_other count most left x rest e within = omega (arith, ap length e)
