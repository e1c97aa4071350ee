-- Texts with a slash for each dot.
use Rattle.std.proofs.Common.{◌≡◌, ◌≢◌, ℕ, suc, ◌<◌, List, [], ◌∷◌, ◌++◌, length, get_or, refl, sym, ap, ◌∙◌, arith}
use Rattle.std.specs.List.{AllByRecursion}
use Rattle.std.proofs.Math.ListN.{get_or-map}
use Rattle.std.proofs.lemmas.Bool.Decides.{nat_tests}
use Rattle.hprof_naming.specs.MeantLabel.{slashed, slashed_byte}

-- two texts of one length, byte by byte
pub same_slashed : (one other : List ℕ) → length one ≡ length other
    → ((k : ℕ) → k < length one → k < length other → slashed_byte (get_or one k 0) ≡ slashed_byte (get_or other k 0))
    → slashed one ≡ slashed other
same_slashed [] [] long each = refl
same_slashed [] (y ∷ ys) long each = absurd (omega arith)
same_slashed (x ∷ xs) [] long each = absurd (omega arith)
same_slashed (x ∷ xs) (y ∷ ys) long each =
    let head : slashed_byte x ≡ slashed_byte y = each 0 (omega arith) (omega arith) in
    let tail : slashed xs ≡ slashed ys =
    same_slashed xs ys (omega arith) (λ k first second. each (suc k) (omega arith) (omega arith)) in
    cc

pub each_slashed : (one other : List ℕ) → slashed one ≡ slashed other
    → (k : ℕ) → slashed_byte (get_or one k 0) ≡ slashed_byte (get_or other k 0)
each_slashed one other same k =
    sym (get_or-map slashed_byte one k 0) ∙ ap (λ (l : List ℕ). get_or l k 0) same ∙ get_or-map slashed_byte other k 0

-- no other byte is the same with a slash for a dot
abbrev pub IsPlain : ℕ → Type 0
IsPlain byte = (other : ℕ) → slashed_byte other ≡ slashed_byte byte → other ≡ byte

pub plain_byte : (byte : ℕ) → byte ≢ 46 → byte ≢ 47 → IsPlain byte
plain_byte byte no_dot no_slash other same = grind (arith, nat_tests)

-- what stands behind plain bytes
pub plain_front : (front text rest : List ℕ) → AllByRecursion IsPlain front → slashed text ≡ slashed front ++ rest
    → (behind : List ℕ) × (text ≡ front ++ behind)
plain_front [] text rest plain same = (text, refl)
plain_front (byte ∷ front) [] rest plain same = cc
plain_front (byte ∷ front) (x ∷ text) rest plain same =
    let head : slashed_byte x ≡ slashed_byte byte = cc in
    let tail : slashed text ≡ slashed front ++ rest = cc in
    let first : x ≡ byte = plain.0 x head in
    let later = plain_front front text rest plain.1 tail in
    let then : text ≡ front ++ later.0 = later.1 in
    (later.0, cc)

-- what stands before a plain byte
pub plain_end : (front text : List ℕ) (byte : ℕ) → IsPlain byte → slashed text ≡ front ++ slashed_byte byte ∷ []
    → (before : List ℕ) × (text ≡ before ++ byte ∷ [])
plain_end [] [] byte plain same = cc
plain_end [] (x ∷ []) byte plain same =
    let head : slashed_byte x ≡ slashed_byte byte = cc in ([], ap (λ (b : ℕ). b ∷ []) (plain x head))
plain_end [] (x ∷ y ∷ text) byte plain same = let none : slashed_byte y ∷ slashed text ≡ [] = cc in cc
plain_end (f ∷ front) [] byte plain same = cc
plain_end (f ∷ front) (x ∷ text) byte plain same =
    let tail : slashed text ≡ front ++ slashed_byte byte ∷ [] = cc in
    let it = plain_end front text byte plain tail in
    (x ∷ it.0, ap (λ (l : List ℕ). x ∷ l) it.1)

-- a text of plain bytes is the same as no other
pub plain_text : (plain text : List ℕ) → AllByRecursion IsPlain plain → slashed text ≡ slashed plain → text ≡ plain
plain_text [] [] are same = refl
plain_text [] (x ∷ text) are same = cc
plain_text (byte ∷ plain) [] are same = cc
plain_text (byte ∷ plain) (x ∷ text) are same =
    let head : slashed_byte x ≡ slashed_byte byte = cc in
    let tail : slashed text ≡ slashed plain = cc in
    let first : x ≡ byte = are.0 x head in
    let later : text ≡ plain = plain_text plain text are.1 tail in
    cc
