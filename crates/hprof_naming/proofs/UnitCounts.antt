-- How many units bytes have.
use Rattle.std.proofs.Common.{◌≡◌, ℕ, ◌+◌, ◌/◌, List, [], ◌∷◌, length, arith}
use Rattle.hprof_naming.specs.Units.{high_first, low_first}

half_more : (n m : ℕ) → n / 2 ≡ m → (n + 2) / 2 ≡ m + 1
half_more n m e = omega (arith, e)

pub high_first_count : (bytes : List ℕ) → length bytes / 2 ≡ length (high_first bytes)
high_first_count [] = omega arith
high_first_count (byte ∷ []) = omega arith
high_first_count (high ∷ low ∷ bytes) = omega (arith, high_first_count bytes)

pub low_first_count : (bytes : List ℕ) → length bytes / 2 ≡ length (low_first bytes)
low_first_count [] = omega arith
low_first_count (byte ∷ []) = omega arith
low_first_count (low ∷ high ∷ bytes) = omega (arith, low_first_count bytes)
