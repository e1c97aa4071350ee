-- Cuts of which the first ones lie below an identifier.
use Rattle.std.proofs.Common.{◌≡◌, ◌<◌, ◌≤◌, ℕ, zero, suc, true, false, List, [], ◌∷◌, None, length, take, drop, get_or, nat_lt}
use Rattle.std.proofs.Common.{inl, inr, sym, ap, subst, ◌∙◌, ◌++◌, arith, ltb-true, ltb-false}
use Rattle.std.specs.List.Sorted.{IsNonDecreasingBy, IsPartitionPoint, IsPartitionedBy}
use Rattle.std.proofs.lemmas.List.{take-append-drop}
use Rattle.std.proofs.lemmas.List.Sorted.{IsPartitionedBy-ltb}
use Rattle.hprof_objects.specs.declared.any_cut.AnyCut.{AnyCut}
use Rattle.hprof_objects.specs.declared.searched.Searched.{Searched}
use Rattle.hprof_objects.specs.AnyCuts.{Among, AreAbove, AreApart, last_in}
use Rattle.hprof_objects.specs.Searched.{BeginFrom, PassesBelow}

-- ---- their last identifiers ascend

above_at : (last : ℕ) (cuts : List AnyCut) → AreAbove last cuts → (k : ℕ) (d : AnyCut) → k < length cuts
    → last ≤ last_in (get_or cuts k d)
above_at last [] above k d lt = absurd (omega (arith, lt))
above_at last (cut ∷ cuts) above zero d lt = let from = above.0 in let to = above.1 in omega (arith, from, to)
above_at last (cut ∷ cuts) above (suc k) d lt =
    let from = above.0 in let to = above.1 in
    let on = above_at (last_in cut) cuts above.2 k d (omega (arith, lt)) in omega (arith, from, to, on)

lasts_above : (last : ℕ) (cuts : List AnyCut) → AreAbove last cuts → IsNonDecreasingBy last_in cuts
lasts_above last [] above i j d le lt = absurd (omega (arith, lt))
lasts_above last (cut ∷ cuts) above zero zero d le lt = omega arith
lasts_above last (cut ∷ cuts) above zero (suc j) d le lt = above_at (last_in cut) cuts above.2 j d (omega (arith, lt))
lasts_above last (cut ∷ cuts) above (suc i) zero d le lt = absurd (omega (arith, le))
lasts_above last (cut ∷ cuts) above (suc i) (suc j) d le lt =
    lasts_above (last_in cut) cuts above.2 i j d (omega (arith, le)) (omega (arith, lt))

lasts_rise : (cuts : List AnyCut) → AreApart cuts → IsNonDecreasingBy last_in cuts
lasts_rise [] apart i j d le lt = absurd (omega (arith, lt))
lasts_rise (cut ∷ cuts) apart zero zero d le lt = omega arith
lasts_rise (cut ∷ cuts) apart zero (suc j) d le lt = above_at (last_in cut) cuts apart j d (omega (arith, lt))
lasts_rise (cut ∷ cuts) apart (suc i) zero d le lt = absurd (omega (arith, le))
lasts_rise (cut ∷ cuts) apart (suc i) (suc j) d le lt =
    lasts_above (last_in cut) cuts apart i j d (omega (arith, le)) (omega (arith, lt))

pub below_first : (cuts : List AnyCut) (id : ℕ) → AreApart cuts → IsPartitionedBy (λ cut. nat_lt (last_in cut) id) cuts
below_first cuts id apart = IsPartitionedBy-ltb last_in cuts id (lasts_rise cuts apart)

-- ---- the cuts below the identifier, and the others

among_at : (P : AnyCut → Type 0) (cuts : List AnyCut) (count : ℕ) → ((k : ℕ) (d : AnyCut) → k < count → P (get_or cuts k d))
    → (cut : AnyCut) → Among (take count cuts) cut → P cut
among_at P cuts zero each cut among = absurd among
among_at P [] (suc count) each cut among = absurd among
among_at P (first ∷ cuts) (suc count) each cut (inl same) = subst P (sym same) (each 0 cut (omega arith))
among_at P (first ∷ cuts) (suc count) each cut (inr among) =
    among_at P cuts count (λ k d lt. each (suc k) d (omega (arith, lt))) cut among

from_at : (id : ℕ) (cuts : List AnyCut) (count : ℕ)
    → ((k : ℕ) (d : AnyCut) → count ≤ k → k < length cuts → id ≤ last_in (get_or cuts k d)) → BeginFrom id (drop count cuts)
from_at id [] zero each = tt
from_at id [] (suc count) each = tt
from_at id (cut ∷ cuts) zero each = each 0 cut (omega arith) (omega arith)
from_at id (cut ∷ cuts) (suc count) each =
    from_at id cuts count (λ k d le lt. each (suc k) d (omega (arith, le)) (omega (arith, lt)))

module _ (id : ℕ) (cuts : List AnyCut) (count : ℕ)
    (point : IsPartitionPoint (λ cut. nat_lt (last_in cut) id ≡ true) (λ cut. nat_lt (last_in cut) id ≡ false) cuts count) where
  pub begin_from : BeginFrom id (drop count cuts)
  begin_from = from_at id cuts count (λ k d le lt. ltb-false (last_in (get_or cuts k d)) id (point.1 k d le lt))

  pub passes_first : {S R : Type 0} (old new : Searched S R) → old.cuts.now ≡ cuts → new.cuts.now ≡ drop count cuts → new.cursor ≡ None
      → PassesBelow id old new
  passes_first old new is behind none = record {
    passed = take count cuts;
    are = is ∙ sym (take-append-drop count cuts) ∙ ap (λ (l : List AnyCut). take count cuts ++ l) (sym behind);
    below = among_at (λ cut. last_in cut < id) cuts count
        (λ k d lt. ltb-true (last_in (get_or cuts k d)) id (point.0 k d (omega arith) lt));
    opened = inr none;
  }
