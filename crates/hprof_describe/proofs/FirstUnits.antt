-- The first units of a text in print, of which some are printed and others are left.
use Rattle.std.proofs.Common.{◌≡◌, ℕ, ◌+◌, ◌-◌, ◌<◌, zero, suc, List, [], ◌∷◌, ◌++◌, take, refl, sym, ap, ◌∙◌, arith}
use Rattle.std.proofs.Common.{append_assoc, append-nil}
use Rattle.hprof_text.specs.Printed.{printed_unit}
use Rattle.hprof_lines.specs.Printed.{printed_units}

-- one unit more is printed
pub printed_more : (text more : List ℕ) (unit : ℕ) (left after : List ℕ) (done : ℕ) → done < 100 → more ≡ text ++ printed_unit unit
    → left ≡ unit ∷ after → more ++ printed_units (take (100 - (done + 1)) after) ≡ text ++ printed_units (take (100 - done) left)
printed_more text more unit left after done inside pushed e =
    let rest = 100 - (done + 1) in
    let count : 100 - done ≡ suc rest = omega arith in
    ap (λ (l : List ℕ). l ++ printed_units (take rest after)) pushed
    ∙ append_assoc text (printed_unit unit) (printed_units (take rest after))
    ∙ ap (λ (n : ℕ). text ++ printed_units (take n (unit ∷ after))) (sym count)
    ∙ ap (λ (l : List ℕ). text ++ printed_units (take (100 - done) l)) (sym e)

-- no units are left
take_none : (n : ℕ) (left : List ℕ) → left ≡ [] → take n left ≡ []
take_none zero left none = refl
take_none (suc n) left none = ap (take (suc n)) none

pub printed_all : (text left : List ℕ) (n : ℕ) → left ≡ [] → text ++ printed_units (take n left) ≡ text
printed_all text left n none = ap (λ (l : List ℕ). text ++ printed_units l) (take_none n left none) ∙ append-nil text

-- no more are wanted
pub printed_enough : (text left : List ℕ) (n : ℕ) → n ≡ 0 → text ++ printed_units (take n left) ≡ text
printed_enough text left n none = ap (λ (m : ℕ). text ++ printed_units (take m left)) none ∙ append-nil text
