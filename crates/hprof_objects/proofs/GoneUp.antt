-- Going on to a key.
use Rattle.std.proofs.Common.{◌≡◌, ◌<◌, ℕ, List, [], ◌∷◌, ◌++◌, Option, refl, subst, sym, inl, inr}
use Rattle.hprof_merge.specs.Rows.{ByteRow}
use Rattle.hprof_merge.specs.Showing.{only}
use Rattle.hprof_merge.proofs.Lists.{Has-append}
use Rattle.hprof_merge.proofs.Showing.{only-some, shows_then}
use Rattle.hprof_objects.specs.Seeking.{ShowsUpTo}

module _ {C : Type 0} (shown : C → Option ByteRow) (goes : C → C → Type 0) (key : ℕ) where
  -- a row below the key was passed
  pub up_more : (old mid new : C) (row : ByteRow) (rest : List ByteRow) → ShowsUpTo shown goes key old mid → only (shown mid) ≡ row ∷ rest
      → row.0 < key → goes mid new → ShowsUpTo shown goes key old new
  up_more old mid new row rest up is lt went = record {
    passed = up.passed ++ row ∷ [];
    shows = shows_then shown goes old up.passed (row ∷ []) mid new up.shows (only-some (shown mid) row rest is, (new, went, refl));
    below = λ other has. elim (Has-append up.passed row other has) [
      | inl there ↦ up.below other there
      | inr same ↦ subst (λ (r : ByteRow). r.0 < key) (sym same) lt
    ];
  }
