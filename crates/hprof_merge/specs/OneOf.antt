-- What cursors of two kinds do.
use Rattle.std.specs.Prelude.{◌≡◌, ◌<◌, Option, Some}
use Rattle.hprof_merge.specs.declared.one_of.OneOf.{OneOf}
use Rattle.hprof_merge.specs.declared.one_of.OneOf.TheVariants.{First, Second}
use Rattle.hprof_merge.specs.Rows.{ByteRow}

-- what its own kind shows of it
abbrev pub of_either : {A B X : Type 0} → (A → X) → (B → X) → OneOf A B → X
of_either first second (First cursor) = first cursor
of_either first second (Second cursor) = second cursor

-- what holds of its own kind holds of it
abbrev pub holds_either : {A B : Type 0} → (A → Type 0) → (B → Type 0) → OneOf A B → Type 0
holds_either first second (First cursor) = first cursor
holds_either first second (Second cursor) = second cursor

-- it went on as its own kind does
abbrev pub goes_either : {A B : Type 0} → (A → A → Type 0) → (B → B → Type 0) → OneOf A B → OneOf A B → Type 0
goes_either first second (First old) (First new) = first old new
goes_either first second (First old) (Second new) = ⊥
goes_either first second (Second old) (First new) = ⊥
goes_either first second (Second old) (Second new) = second old new

-- it failed as its own kind does
abbrev pub fails_either : {A B F G : Type 0} → (A → F → A → Type 0) → (B → G → B → Type 0) → OneOf A B → OneOf F G → OneOf A B → Type 0
fails_either first second (First old) (First fault) (First new) = first old fault new
fails_either first second (Second old) (Second fault) (Second new) = second old fault new
fails_either first second (First old) (First fault) (Second new) = ⊥
fails_either first second (First old) (Second fault) new = ⊥
fails_either first second (Second old) (First fault) new = ⊥
fails_either first second (Second old) (Second fault) (First new) = ⊥

-- if both kinds rise, it does
pub either_rises : {A B : Type 0} (first : A → Option ByteRow) (second : B → Option ByteRow) (goes_first : A → A → Type 0)
    (goes_second : B → B → Type 0)
    → ((old new : A) (row next : ByteRow) → goes_first old new → first old ≡ Some row → first new ≡ Some next → row.0 < next.0)
    → ((old new : B) (row next : ByteRow) → goes_second old new → second old ≡ Some row → second new ≡ Some next → row.0 < next.0)
    → (old new : OneOf A B) (row next : ByteRow) → goes_either goes_first goes_second old new → of_either first second old ≡ Some row
    → of_either first second new ≡ Some next → row.0 < next.0
either_rises first second goes_first goes_second one other (First old) (First new) row next goes is next_is =
    one old new row next goes is next_is
either_rises first second goes_first goes_second one other (First old) (Second new) row next never is next_is = absurd never
either_rises first second goes_first goes_second one other (Second old) (First new) row next never is next_is = absurd never
either_rises first second goes_first goes_second one other (Second old) (Second new) row next goes is next_is =
    other old new row next goes is next_is
