-- What ties a gatherer's heap to the size that was begun last.
use Rattle.std.specs.Prelude.{◌≡◌, Bool, true, false, Option, Some, None, ⊤}
use Rattle.std.specs.Coded.{Unit-prop}
use Rattle.std.proofs.Props.{props}
use Rattle.hprof_values.specs.declared.ids.IdSize.{IdSize}
use Rattle.hprof_heap.specs.declared.heap.Heap.{Heap}

-- with two sizes begun nothing; else the heap has the size, and there is none where no part was begun
abbrev pub IsSteady : Option Heap → Option IdSize → Bool → Type 0
IsSteady heap begun true = ⊤
IsSteady None begun false = begun ≡ None
IsSteady (Some heap) begun false = begun ≡ Some heap.tables.ids

-- it has at most one proof
pub IsSteady-prop : (heap : Option Heap) (begun : Option IdSize) (two : Bool) → IsProp (IsSteady heap begun two)
IsSteady-prop heap begun true = Unit-prop
IsSteady-prop None begun false = hlevel props
IsSteady-prop (Some heap) begun false = hlevel props
