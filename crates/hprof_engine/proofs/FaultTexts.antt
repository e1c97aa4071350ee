-- Texts of faults.
use Rattle.std.proofs.Common.{◌≡◌, ℕ, List, ◌++◌, Result, Ok, Err, codes, decimal}
use Rattle.std.specs.Prelude.{IfOk}
use Rattle.hprof_engine.specs.FaultText.{IsPartText}

-- a text that names a part, and then says why
--   bytes: those of a text
pub with_why : {A E : Type 0} (bytes : A → List ℕ) (index : ℕ) (why : List ℕ) (made : Result A E)
    → IfOk made (λ text. bytes text ≡ codes "part " ++ (decimal index ++ (codes ": " ++ why)))
    → IfOk made (λ text. IsPartText index (bytes text))
with_why bytes index why (Ok text) is = (why, is)
with_why bytes index why (Err error) is = cc
