-- What is enough of rows, as rows come and move.
use Rattle.std.proofs.Common.{◌≡◌, ◌≢◌, ◌⊎◌, ℕ, List, [], ◌∷◌, ◌++◌, sym, subst}
use Rattle.std.proofs.Common.{inl, inr}
use Rattle.hprof_merge.specs.Rows.{ByteRow, Has}
use Rattle.hprof_merge.proofs.Lists.{Has-append, append-has, append-last}
use Rattle.hprof_objects.specs.Enough.{HasTwo, IsEnough}

-- two contents stay two where more rows are kept
two_more : (Kept More : ByteRow → Type 0) → ((row : ByteRow) → Kept row → More row) → (key : ℕ) → HasTwo Kept key → HasTwo More key
two_more Kept More more key two = record {
  one = two.one;
  other = two.other;
  has_one = more (key, two.one) two.has_one;
  has_other = more (key, two.other) two.has_other;
  differ = two.differ;
}

-- each of all rows that was covered before is covered where more are kept
covers_more : (Kept More : ByteRow → Type 0) → ((row : ByteRow) → Kept row → More row) → (row : ByteRow)
    → Kept row ⊎ HasTwo Kept row.0 → More row ⊎ HasTwo More row.0
covers_more Kept More more row (inl kept) = inl (more row kept)
covers_more Kept More more row (inr two) = inr (two_more Kept More more row.0 two)

-- a row comes, and is kept
pub enough_with : (all : List ByteRow) (Kept More : ByteRow → Type 0) (last : ByteRow) → IsEnough all Kept
    → ((row : ByteRow) → Kept row → More row) → More last → ((row : ByteRow) → More row → Kept row ⊎ (row ≡ last))
    → IsEnough (all ++ last ∷ []) More
enough_with all Kept More last enough more has only = record {
  only = λ row kept. of_all row (only row kept);
  each = λ row has_row. covers row (Has-append all last row has_row);
}
  where
    of_all : (row : ByteRow) → Kept row ⊎ (row ≡ last) → Has (all ++ last ∷ []) row
    of_all row (inl kept) = append-has all last row (enough.only row kept)
    of_all row (inr is) = subst (λ (r : ByteRow). Has (all ++ last ∷ []) r) (sym is) (append-last all last)

    covers : (row : ByteRow) → Has all row ⊎ (row ≡ last) → More row ⊎ HasTwo More row.0
    covers row (inl old) = covers_more Kept More more row (enough.each row old)
    covers row (inr is) = inl (subst More (sym is) has)

-- the same rows are kept elsewhere
pub enough_moved : (all : List ByteRow) (Kept Other : ByteRow → Type 0) → IsEnough all Kept → ((row : ByteRow) → Kept row → Other row)
    → ((row : ByteRow) → Other row → Kept row) → IsEnough all Other
enough_moved all Kept Other enough to from = record {
  only = λ row kept. enough.only row (from row kept);
  each = λ row has_row. covers_more Kept Other to row (enough.each row has_row);
}

-- of the rows that are kept some are enough
pub enough_of : (all : List ByteRow) (Kept Fewer : ByteRow → Type 0) → IsEnough all Kept → ((row : ByteRow) → Fewer row → Kept row)
    → ((row : ByteRow) → Kept row → Fewer row ⊎ HasTwo Fewer row.0) → IsEnough all Fewer
enough_of all Kept Fewer enough only each = record {
  only = λ row kept. enough.only row (only row kept);
  each = λ row has_row. covers row (enough.each row has_row);
}
  where
    both : (key : ℕ) (one other : List ℕ) → one ≢ other → Fewer (key, one) ⊎ HasTwo Fewer key → Fewer (key, other) ⊎ HasTwo Fewer key
        → HasTwo Fewer key
    both key one other differ (inr two) second = two
    both key one other differ (inl first) (inr two) = two
    both key one other differ (inl first) (inl second) =
        record { one = one; other = other; has_one = first; has_other = second; differ = differ }

    covers : (row : ByteRow) → Kept row ⊎ HasTwo Kept row.0 → Fewer row ⊎ HasTwo Fewer row.0
    covers row (inl kept) = each row kept
    covers row (inr two) =
        inr (both row.0 two.one two.other two.differ (each (row.0, two.one) two.has_one) (each (row.0, two.other) two.has_other))
