-- Readers that tell nothing.
use Rattle.std.proofs.Common.{◌≡◌, List, [], ◌∷◌, Option, Some, None, refl, sym, ◌∙◌}
use Rattle.std.specs.Prelude.{ℕ}
use Rattle.hprof_stored.specs.StoredMaking.{CanBeReadAgain}

-- of them nothing has to be told again
pub untold_again : {R : Type 0} (left : R → Option (List ℕ)) (readers : List R) (again : List (Option (List ℕ))) (scratch : Option (List ℕ))
    → ((reader : R) → left reader ≡ None) → CanBeReadAgain left readers again scratch
untold_again left [] again scratch none some told tell = absurd (some refl)
untold_again left (reader ∷ readers) again scratch none some [] tell = absurd cc
untold_again left (reader ∷ readers) again scratch none some (bytes ∷ told) tell =
    let first : left reader ≡ Some bytes = cc in
    let no : None ≡ Some bytes = sym (none reader) ∙ first in
    absurd cc
