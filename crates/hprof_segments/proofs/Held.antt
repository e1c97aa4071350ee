-- The bytes of the segment that is held.
use Rattle.std.proofs.Common.{◌≡◌, ℕ, List, [], ◌∷◌, ◌++◌, length, refl, sym, ap, ◌∙◌, append-nil}
use Rattle.std.specs.Prelude.{sum_by}
use Rattle.std.specs.List.{flat_map}
use Rattle.std.proofs.lemmas.Grind.{flat_map-append}
use Rattle.std.proofs.lemmas.List.Concat.{length-flat_map}
use Rattle.hprof_items.specs.Head.{record_bytes}
use Rattle.hprof_segments.specs.ByteSegments.{joined, segment_record}
use Rattle.hprof_segments.specs.Taking.{held_record}
use Rattle.hprof_segments.proofs.Behind.{segment_begun}

-- how many they are
pub held_size : (held : List ℕ) (begun : List (List ℕ)) → held ≡ joined begun → sum_by length begun ≡ length held
held_size held begun holds = sym (ap length holds ∙ length-flat_map (λ sub. sub) begun)

-- one more is held
pub held_more : (held : List ℕ) (begun : List (List ℕ)) (sub : List ℕ) → held ≡ joined begun → held ++ sub ≡ joined (begun ++ sub ∷ [])
held_more held begun sub holds =
    ap (λ (l : List ℕ). l ++ sub) holds
    ∙ ap (λ (l : List ℕ). joined begun ++ l) (sym (append-nil sub))
    ∙ sym (flat_map-append (λ sub. sub) begun (sub ∷ []))

-- of bytes, of which there are some
held_some : (held : List ℕ) → (held ≡ [] → ⊥) → held_record held ≡ record_bytes 0x1c 0 held
held_some [] some = absurd (some refl)
held_some (first ∷ others) some = refl

-- its record
pub held_is_begun : (held : List ℕ) (begun : List (List ℕ)) → held ≡ joined begun → (held ≡ [] → begun ≡ [])
    → flat_map segment_record (segment_begun begun) ≡ held_record held
held_is_begun held [] holds none = rw holds refl
held_is_begun held (first ∷ others) holds none =
    append-nil (segment_record (first ∷ others))
    ∙ ap (record_bytes 0x1c 0) (sym holds)
    ∙ sym (held_some held (λ empty. let is : first ∷ others ≡ [] = none empty in cc))
