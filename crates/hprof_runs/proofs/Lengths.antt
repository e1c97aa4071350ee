-- The lengths of the rows at the next places, as they are read and passed.
use Rattle.std.proofs.Common.{◌≡◌, ◌≤◌, ◌<◌, ◌+◌, ◌++◌, ◌-◌, ℕ, zero, suc, List, [], ◌∷◌, length, take, drop, set, get_or, min}
use Rattle.std.proofs.Common.{sym, ap, subst, ◌∙◌, arith}
use Rattle.std.proofs.lemmas.List.{drop-drop, length-append, length-take, take_min}
use Rattle.std.proofs.Math.Seq.{drop-append_seam}
use Rattle.hprof_runs.specs.declared.place.Place.{Place}
use Rattle.hprof_runs.specs.Ahead.{AreLengths, IsLengthAt}
use Rattle.hprof_runs.specs.Places.{content_at}
use Rattle.hprof_runs.specs.Spelling.{spelled_len}

-- ---- they are read

no_lengths : (bytes : List ℕ) (lengths : List ℕ) → AreLengths bytes [] lengths
no_lengths bytes [] = tt
no_lengths bytes (len ∷ lengths) = tt

own_length : (bytes : List ℕ) (place : Place) → IsLengthAt bytes place (length (content_at bytes place))
own_length bytes place =
    let spelled = drop place.at bytes in
    let rest = drop 12 spelled in
    ap (λ (n : ℕ). take n rest) (length-take (spelled_len spelled) rest) ∙ take_min (spelled_len spelled) rest

pub length_read : (bytes : List ℕ) (place : Place) (content : List ℕ) (len : ℕ) → content ≡ content_at bytes place → len ≡ length content
    → IsLengthAt bytes place len
length_read bytes place content len is same = subst (IsLengthAt bytes place) (sym (same ∙ ap length is)) (own_length bytes place)

pub set_length : (bytes : List ℕ) (places : List Place) (lengths : List ℕ) (i : ℕ) (place : Place) (len : ℕ)
    → AreLengths bytes (take i places) lengths → i < length places → place ≡ get_or places i place → i < length lengths
    → IsLengthAt bytes place len → AreLengths bytes (take (suc i) places) (set lengths i len)
set_length bytes [] lengths i place len are lt is room own = absurd (omega arith)
set_length bytes (first ∷ places) [] i place len are lt is room own = absurd (omega arith)
set_length bytes (first ∷ places) (other ∷ lengths) zero place len are lt is room own =
    (subst (λ (p : Place). IsLengthAt bytes p len) is own, no_lengths bytes lengths)
set_length bytes (first ∷ places) (other ∷ lengths) (suc i) place len are lt is room own =
    (are.0, set_length bytes places lengths i place len are.1 (omega arith) is (omega arith) own)

pub all_lengths : (bytes : List ℕ) (places : List Place) (lengths : List ℕ) (n : ℕ) → AreLengths bytes (take n places) lengths
    → min (length places) (length lengths) ≤ n
    → AreLengths bytes places lengths
all_lengths bytes places [] n are le = tt
all_lengths bytes [] (len ∷ lengths) n are le = tt
all_lengths bytes (place ∷ places) (len ∷ lengths) zero are le = absurd (omega (arith, le))
all_lengths bytes (place ∷ places) (len ∷ lengths) (suc n) are le = (are.0, all_lengths bytes places lengths n are.1 (omega (arith, le)))

-- ---- some are passed

pass_lengths : (bytes : List ℕ) (places : List Place) (lengths : List ℕ) (count : ℕ) → AreLengths bytes places lengths
    → AreLengths bytes (drop count places) (drop count lengths)
pass_lengths bytes places lengths zero are = are
pass_lengths bytes places [] (suc count) are = tt
pass_lengths bytes [] (len ∷ lengths) (suc count) are = no_lengths bytes (drop count lengths)
pass_lengths bytes (place ∷ places) (len ∷ lengths) (suc count) are = pass_lengths bytes places lengths count are.1

pub passed_lengths : (bytes : List ℕ) (places behind : List Place) (lengths : List ℕ) (passed count : ℕ)
    → AreLengths bytes places (drop passed lengths) → behind ≡ drop count places
    → AreLengths bytes behind (drop (passed + count) lengths)
passed_lengths bytes places behind lengths passed count are is =
    subst (λ (l : List Place). AreLengths bytes l (drop (passed + count) lengths)) (sym is)
    (subst (AreLengths bytes (drop count places)) (drop-drop count passed lengths)
    (pass_lengths bytes places (drop passed lengths) count are))

-- behind the first place and some more
pub places_behind : (places rest front above : List Place) (place : Place) → places ≡ place ∷ rest → rest ≡ front ++ above
    → above ≡ drop (length places - length above) places
places_behind places rest front above place is split =
    let whole : places ≡ (place ∷ front) ++ above = is ∙ ap (λ (l : List Place). place ∷ l) split in
    let size : length places - length above ≡ length (place ∷ front) =
    omega (arith, ap length whole, length-append (place ∷ front) above) in
    sym (ap (λ (n : ℕ). drop n places) size ∙ ap (drop (length (place ∷ front))) whole ∙ drop-append_seam (place ∷ front) above)
