-- What grew from one heap to another, label by label.
use Rattle.std.specs.Prelude.{◌≡◌, ◌⊎◌, ◌≢◌, ℕ, ◌+◌, List, Contains}
use Rattle.std.specs.Cmp.Lexicographic.{slice_cmp}
use Rattle.std.specs.List.Sorted.{IsStrictlySortedBy}
use Rattle.std.specs.Ordering.{nat_cmp, ordering_then}
use Rattle.std.specs.declared.cmp.Ordering.{Ordering}
use Rattle.hprof_diff.specs.Counts.{Totals}

-- a number before and after
pub record StepValue : Type 0 where
  pub old : ℕ
  pub new : ℕ

-- steps by how much they add: new less old, as numbers with a sign
abbrev pub step_cmp : StepValue → StepValue → Ordering
step_cmp step other = nat_cmp (step.new + other.old) (other.new + step.old)

-- the change of one label
pub record ChangeValue : Type 0 where
  pub label : List ℕ
  pub bytes : StepValue
  pub count : StepValue

-- what added the most bytes first, then what added the most objects, then by label, byte by byte
abbrev pub change_cmp : ChangeValue → ChangeValue → Ordering
change_cmp change other = ordering_then (step_cmp other.bytes change.bytes)
    (ordering_then (step_cmp other.count change.count) (slice_cmp nat_cmp change.label other.label))

-- the bytes or the number of objects differ
abbrev pub Differs : StepValue → StepValue → Type 0
Differs bytes count = (bytes.old ≢ bytes.new) ⊎ (count.old ≢ count.new)

-- the change of a label between two heaps
abbrev pub change_of : (old new : Totals) → List ℕ → ChangeValue
change_of old new label = record {
  label = label;
  bytes = record { old = old.bytes label; new = new.bytes label };
  count = record { old = old.count label; new = new.count label };
}

-- one change for each label that differs, in order
pub record IsDifference (old new : Totals) (changes : List ChangeValue) : Type 0 where
  pub ascend : IsStrictlySortedBy change_cmp changes
  pub is : (change : ChangeValue) → Contains changes change → (change ≡ change_of old new change.label) × Differs change.bytes change.count
  pub all : (label : List ℕ) → Differs (change_of old new label).bytes (change_of old new label).count
      → Contains changes (change_of old new label)
