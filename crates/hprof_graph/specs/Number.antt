-- How many identifiers there are of which something holds.
use Rattle.std.specs.Prelude.{◌≡◌, ◌↔◌, ℕ, List, length, nat_eq, Contains}
use Rattle.std.specs.List.{IsDistinct}

-- so many are listed where each of them is listed once, and no other
pub record IsNumberOf (P : ℕ → Type 0) (number : ℕ) : Type 0 where
  pub all : List ℕ
  pub once : IsDistinct nat_eq all
  pub exact : (id : ℕ) → Contains all id ↔ P id
  pub number_is : number ≡ length all
