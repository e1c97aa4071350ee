-- The rows that a cursor of two kinds shows.
use Rattle.std.proofs.Common.{◌≡◌, List, [], ◌∷◌, Option, sym, refl}
use Rattle.hprof_merge.specs.declared.one_of.OneOf.{OneOf}
use Rattle.hprof_merge.specs.declared.one_of.OneOf.TheVariants.{First, Second}
use Rattle.hprof_merge.specs.Rows.{ByteRow}
use Rattle.hprof_merge.specs.Showing.{Shows}
use Rattle.hprof_merge.specs.OneOf.{of_either, goes_either}

module _ {A B : Type 0} (first : A → Option ByteRow) (second : B → Option ByteRow) (goes_first : A → A → Type 0)
    (goes_second : B → B → Type 0) where
  pub shows_first : (old : A) (new : OneOf A B) (rows : List ByteRow)
      → Shows (of_either first second) (goes_either goes_first goes_second) (First old) rows new
      → (after : A) × (new ≡ First after) × Shows first goes_first old rows after
  shows_first old new [] same = (old, sym same, refl)
  shows_first old new (row ∷ rows) (is, (First mid, goes, shows)) =
      let rest = shows_first mid new rows shows in (rest.0, rest.1, (is, (mid, goes, rest.2)))
  shows_first old new (row ∷ rows) (is, (Second mid, never, shows)) = absurd never

  pub shows_second : (old : B) (new : OneOf A B) (rows : List ByteRow)
      → Shows (of_either first second) (goes_either goes_first goes_second) (Second old) rows new
      → (after : B) × (new ≡ Second after) × Shows second goes_second old rows after
  shows_second old new [] same = (old, sym same, refl)
  shows_second old new (row ∷ rows) (is, (First mid, never, shows)) = absurd never
  shows_second old new (row ∷ rows) (is, (Second mid, goes, shows)) =
      let rest = shows_second mid new rows shows in (rest.0, rest.1, (is, (mid, goes, rest.2)))
