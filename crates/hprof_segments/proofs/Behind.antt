-- The segments behind one that was begun.
use Rattle.std.proofs.Common.{◌≡◌, ℕ, ◌+◌, ◌<◌, ◌≤◌, Bool, cond, List, [], ◌∷◌, ◌++◌, length, refl, ap, arith}
use Rattle.std.specs.Prelude.{sum_by}
use Rattle.std.proofs.lemmas.Bool.{le-leb, lt-leb}
use Rattle.hprof_dump.specs.Dump.{most_in_segment}
use Rattle.hprof_dump.specs.Segments.{packed_behind}
use Rattle.hprof_segments.specs.ByteSegments.{byte_segments, segments_behind}

-- the segment that was begun, if one was
abbrev pub segment_begun : List (List ℕ) → List (List (List ℕ))
segment_begun [] = []
segment_begun (first ∷ others) = (first ∷ others) ∷ []

-- none comes behind it
pub behind_none : (begun : List (List ℕ)) → segments_behind begun [] ≡ segment_begun begun
behind_none [] = refl
behind_none (first ∷ others) = refl

-- the next goes into it, where it has room
pub behind_fits : (begun : List (List ℕ)) (sub : List ℕ) (more : List (List ℕ)) → sum_by length begun + length sub ≤ most_in_segment
    → segments_behind begun (sub ∷ more) ≡ segments_behind (begun ++ sub ∷ []) more
behind_fits [] sub more fits = refl
behind_fits (first ∷ others) sub more fits =
    ap (λ (t : Bool). cond t (packed_behind length most_in_segment ((first ∷ others) ++ sub ∷ []) more)
    ((first ∷ others) ∷ packed_behind length most_in_segment (sub ∷ []) more))
    (le-leb (sum_by length (first ∷ others) + length sub) most_in_segment fits)

-- and begins another, where it has none
pub behind_full : (begun : List (List ℕ)) (sub : List ℕ) (more : List (List ℕ)) → most_in_segment < sum_by length begun + length sub
    → segments_behind begun (sub ∷ more) ≡ segment_begun begun ++ byte_segments (sub ∷ more)
behind_full [] sub more full = refl
behind_full (first ∷ others) sub more full =
    ap (λ (t : Bool). cond t (packed_behind length most_in_segment ((first ∷ others) ++ sub ∷ []) more)
    ((first ∷ others) ∷ packed_behind length most_in_segment (sub ∷ []) more))
    (lt-leb (sum_by length (first ∷ others) + length sub) most_in_segment full)

-- one that is longer than a segment of several stands alone
pub alone : (sub : List ℕ) (more : List (List ℕ)) → most_in_segment < length sub
    → byte_segments (sub ∷ more) ≡ (sub ∷ []) ∷ byte_segments more
alone sub [] long = refl
alone sub (next ∷ more) long =
    let full : most_in_segment < sum_by length (sub ∷ []) + length next = omega arith in
    ap (λ (t : Bool). cond t (packed_behind length most_in_segment (sub ∷ next ∷ []) more)
    ((sub ∷ []) ∷ packed_behind length most_in_segment (next ∷ []) more))
    (lt-leb (sum_by length (sub ∷ []) + length next) most_in_segment full)
