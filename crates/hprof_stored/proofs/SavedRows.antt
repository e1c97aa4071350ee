-- The objects of parts that were saved are those of the parts with a whole header.
use Rattle.std.proofs.Common.{◌⊎◌, ℕ, zero, suc, List, [], ◌∷◌, Option, Some, None, inl, inr, subst}
use Rattle.std.specs.List.{AllByRecursion}
use Rattle.std.specs.Prelude.{map}
use Rattle.hprof_values.specs.declared.ids.IdSize.TheVariants.{Four}
use Rattle.hprof_items.specs.declared.header.Header.{Header}
use Rattle.hprof_items.specs.FactValue.{FactValue}
use Rattle.hprof_stream.specs.Fault.{StatesSoFar}
use Rattle.hprof_heap.specs.Gathering.{Given}
use Rattle.hprof_merge.specs.Rows.{ByteRow, Has}
use Rattle.hprof_merge.specs.TwoContents.{HasTwoContents, IsLeastWithTwoContents}
use Rattle.hprof_merge.specs.Union.{AnyHas, HaveSameRows, IsUnion}
use Rattle.hprof_objects.specs.ObjectRows.{object_rows}
use Rattle.hprof_objects.specs.StoredObjects.{objects_of}
use Rattle.hprof_objects.specs.Whole.{rows_given}
use Rattle.hprof_engine.specs.Saved.{IsSaved, given_of, given_with}
use Rattle.hprof_engine.proofs.SavedParts.{bare_states_none}
use Rattle.hprof_stored.specs.SavedParts.{PartSaved, all_saved, read_saved, size_in}

-- ---- lists with the same rows

module _ (lists others : List (List ByteRow)) (same : HaveSameRows lists others) where
  pub union_same : (rows : List ByteRow) → IsUnion lists rows → IsUnion others rows
  union_same rows union = record {
    ascends = union.ascends;
    same = λ row. (λ has. (same row).0 ((union.same row).0 has), λ has. (union.same row).1 ((same row).1 has));
  }

  two_same : (key : ℕ) → HasTwoContents lists key → HasTwoContents others key
  two_same key two = record {
    one = two.one;
    other = two.other;
    has_one = (same (key, two.one)).0 two.has_one;
    has_other = (same (key, two.other)).0 two.has_other;
    differ = two.differ;
  }

  two_back : (key : ℕ) → HasTwoContents others key → HasTwoContents lists key
  two_back key two = record {
    one = two.one;
    other = two.other;
    has_one = (same (key, two.one)).1 two.has_one;
    has_other = (same (key, two.other)).1 two.has_other;
    differ = two.differ;
  }

  pub least_same : (key : ℕ) → IsLeastWithTwoContents lists key → IsLeastWithTwoContents others key
  least_same key it = record {
    contents = two_same key it.contents;
    least = λ lower below two. it.least lower below (two_back lower two);
  }

-- ---- parts

first_or_later : (rows : List ByteRow) (lists : List (List ByteRow)) (row : ByteRow) → AnyHas (rows ∷ lists) row
    → Has rows row ⊎ AnyHas lists row
first_or_later rows lists row (zero, has) = inl has
first_or_later rows lists row (suc place, has) = inr (place, has)

later_has : (rows : List ByteRow) (lists : List (List ByteRow)) (row : ByteRow) → AnyHas lists row → AnyHas (rows ∷ lists) row
later_has rows lists row (place, has) = (suc place, has)

to_given : (longest : ℕ) (bytes : List ℕ) (header : Option Header) (facts : List FactValue) (others : List Given) (row : ByteRow)
    → StatesSoFar longest bytes header facts → Has (object_rows (size_in header) facts) row ⊎ AnyHas (map rows_given others) row
    → AnyHas (map rows_given (given_with header facts others)) row
to_given longest bytes None facts others row states (inl has) =
    absurd (subst (λ (l : List FactValue). Has (object_rows Four l) row) (bare_states_none longest bytes facts states) has)
to_given longest bytes None facts others row states (inr has) = has
to_given longest bytes (Some header) facts others row states (inl has) = (0, has)
to_given longest bytes (Some header) facts others row states (inr has) =
    later_has (object_rows header.ids facts) (map rows_given others) row has

of_given : (header : Option Header) (facts : List FactValue) (others : List Given) (row : ByteRow)
    → AnyHas (map rows_given (given_with header facts others)) row
    → Has (object_rows (size_in header) facts) row ⊎ AnyHas (map rows_given others) row
of_given None facts others row has = inr has
of_given (Some header) facts others row has = first_or_later (object_rows header.ids facts) (map rows_given others) row has

saved_to : (longest : ℕ) (parts : List PartSaved) → AllByRecursion (IsSaved longest) (all_saved parts) → (row : ByteRow)
    → AnyHas (objects_of (map read_saved parts)) row → AnyHas (map rows_given (given_of (all_saved parts))) row
saved_to longest [] are row has = has
saved_to longest (part ∷ parts) are row has =
    let saved = part.saved in
    let others : List Given = given_of (all_saved parts) in
    to_given longest saved.bytes saved.header saved.facts others row are.0
    (elim (first_or_later (object_rows (size_in saved.header) saved.facts) (objects_of (map read_saved parts)) row has) [
      | inl here ↦ inl here
      | inr later ↦ inr (saved_to longest parts are.1 row later)
    ])

saved_of : (parts : List PartSaved) (row : ByteRow) → AnyHas (map rows_given (given_of (all_saved parts))) row
    → AnyHas (objects_of (map read_saved parts)) row
saved_of [] row has = has
saved_of (part ∷ parts) row has =
    let saved = part.saved in
    let others : List Given = given_of (all_saved parts) in
    elim (of_given saved.header saved.facts others row has) [
      | inl here ↦ (0, here)
      | inr later ↦
          later_has (object_rows (size_in saved.header) saved.facts) (objects_of (map read_saved parts)) row (saved_of parts row later)
    ]

-- the same rows
pub saved_rows : (longest : ℕ) (parts : List PartSaved) → AllByRecursion (IsSaved longest) (all_saved parts)
    → HaveSameRows (objects_of (map read_saved parts)) (map rows_given (given_of (all_saved parts)))
saved_rows longest parts are row = (saved_to longest parts are row, saved_of parts row)
