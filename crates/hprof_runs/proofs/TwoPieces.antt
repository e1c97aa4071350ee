-- Rows in two pieces, and rows that ascend.
use Rattle.std.proofs.Common.{◌⊎◌, ◌<◌, ◌≤◌, ◌++◌, List, [], ◌∷◌, refl, sym, subst, arith, inl, inr}
use Rattle.hprof_merge.specs.Rows.{ByteRow, Has, IsAscending}

pub has_either : (rows others : List ByteRow) (row : ByteRow) → Has (rows ++ others) row → Has rows row ⊎ Has others row
has_either [] others row has = inr has
has_either (first ∷ rows) others row (inl e) = inl (inl e)
has_either (first ∷ rows) others row (inr has) = elim (has_either rows others row has) [
  | inl there ↦ inl (inr there)
  | inr there ↦ inr there
]

pub has_front : (rows others : List ByteRow) (row : ByteRow) → Has rows row → Has (rows ++ others) row
has_front [] others row has = absurd has
has_front (first ∷ rows) others row (inl e) = inl e
has_front (first ∷ rows) others row (inr has) = inr (has_front rows others row has)

pub has_back : (rows others : List ByteRow) (row : ByteRow) → Has others row → Has (rows ++ others) row
has_back [] others row has = has
has_back (first ∷ rows) others row has = inr (has_back rows others row has)

pub ascends_front : (rows others : List ByteRow) → IsAscending (rows ++ others) → IsAscending rows
ascends_front [] others up = tt
ascends_front (first ∷ rows) others up =
    ((λ row has. up.0 row (has_front rows others row has)), ascends_front rows others up.1)

pub ascends_behind : (rows others : List ByteRow) → IsAscending (rows ++ others) → IsAscending others
ascends_behind [] others up = up
ascends_behind (first ∷ rows) others up = ascends_behind rows others up.1

-- each row is below each behind it
pub below_behind : (rows : List ByteRow) (next : ByteRow) (others : List ByteRow) → IsAscending (rows ++ next ∷ others) → (row : ByteRow)
    → Has rows row → row.0 < next.0
below_behind [] next others up row has = absurd has
below_behind (first ∷ rows) next others up row (inl is) =
    subst (λ (r : ByteRow). r.0 < next.0) (sym is) (up.0 next (has_next rows))
  where
    has_next : (l : List ByteRow) → Has (l ++ next ∷ others) next
    has_next [] = inl refl
    has_next (row ∷ l) = inr (has_next l)
below_behind (first ∷ rows) next others up row (inr has) = below_behind rows next others up.1 row has

-- no row is below the first
pub from_first : (first : ByteRow) (rows : List ByteRow) → IsAscending (first ∷ rows) → (row : ByteRow) → Has (first ∷ rows) row
    → first.0 ≤ row.0
from_first first rows up row (inl is) = subst (λ (r : ByteRow). first.0 ≤ r.0) (sym is) (omega arith)
from_first first rows up row (inr has) = let lt = up.0 row has in omega (arith, lt)
