-- A heap as a value.
use Rattle.std.specs.Prelude.{ℕ, List, [], ◌∷◌}
use Rattle.std.specs.Coded.{×_prop, Unit-prop, le_prop}
use Rattle.std.specs.List.{AllByRecursion}
use Rattle.std.proofs.Props.{props}
use Rattle.hprof_values.specs.declared.ids.IdSize.{IdSize}
use Rattle.hprof_items.specs.FactValue.{FactValue}
use Rattle.hprof_items.specs.Header.{IsMillis}
use Rattle.hprof_rows.specs.Facts.{AllFit}
use Rattle.hprof_rows.specs.Fitting.{Fits-prop}
use Rattle.hprof_rows.specs.Order.{IsBefore, IsCanonicalOrder}

-- a size of identifiers, a time in milliseconds, and facts in canonical order
pub record HeapValue : Type 0 where
  pub ids : IdSize
  pub millis : ℕ
  pub facts : List FactValue

-- what every heap keeps
pub record IsHeap (heap : HeapValue) : Type 0 where
  pub is_millis : IsMillis heap.millis
  pub fit : AllFit heap.ids heap.facts
  pub ordered : IsCanonicalOrder heap.facts

-- ---- each of these has at most one proof, so that a heap is known by its value

IsBefore-prop : (fact other : FactValue) → IsProp (IsBefore fact other)
IsBefore-prop fact other = hlevel props

all_before-prop : (fact : FactValue) (facts : List FactValue) → IsProp (AllByRecursion (IsBefore fact) facts)
all_before-prop fact [] = Unit-prop
all_before-prop fact (first ∷ facts) = ×_prop (IsBefore-prop fact first) (all_before-prop fact facts)

IsCanonicalOrder-prop : (facts : List FactValue) → IsProp (IsCanonicalOrder facts)
IsCanonicalOrder-prop [] = Unit-prop
IsCanonicalOrder-prop (fact ∷ facts) = ×_prop (all_before-prop fact facts) (IsCanonicalOrder-prop facts)

pub IsHeap-prop : (heap : HeapValue) → IsProp (IsHeap heap)
IsHeap-prop heap = hlevel (le_prop, Fits-prop, IsCanonicalOrder-prop)
