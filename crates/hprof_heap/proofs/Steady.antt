-- What a gatherer's heap and the size that was begun last keep.
use Rattle.std.proofs.Common.{◌≡◌, Bool, true, false, Option, Some, Result, Ok, Err, sym, ap, subst, ◌∙◌}
use Rattle.std.specs.Prelude.{IfOk, OnErr}
use Rattle.hprof_values.specs.declared.ids.IdSize.{IdSize}
use Rattle.hprof_items.specs.FactValue.{FactValue}
use Rattle.hprof_heap.specs.declared.heap.Heap.{Heap}
use Rattle.hprof_tables.specs.declared.relation.Stated.{Stated}
use Rattle.hprof_tables.specs.declared.relation.Stated.TheVariants.{New, Same, Differs}
use Rattle.hprof_rows.specs.HeapValue.{HeapValue}
use Rattle.hprof_heap.specs.Steady.{IsSteady}
use Rattle.hprof_rows.specs.Stating.{StatesInto}

-- stating a fact keeps the size
pub states_ids : {E : Type 0} (r : Result Stated E) (heap new : HeapValue) (fact : FactValue)
    → IfOk r (λ stated. StatesInto heap fact stated new) → OnErr r (new ≡ heap) → new.ids ≡ heap.ids
states_ids (Ok New) heap new fact s e = s.ids
states_ids (Ok Same) heap new fact s e = ap (λ (h : HeapValue). h.ids) s.1
states_ids (Ok Differs) heap new fact s e = ap (λ (h : HeapValue). h.ids) s.1
states_ids (Err f) heap new fact s e = ap (λ (h : HeapValue). h.ids) e

-- a heap that keeps its size stays that of the size that was begun last
pub steady_after : (old : Option Heap) (heap new : Heap) (begun : Option IdSize) (two : Bool) → IsSteady old begun two → old ≡ Some heap
    → new.tables.ids ≡ heap.tables.ids → IsSteady (Some new) begun two
steady_after old heap new begun true steady e same = tt
steady_after old heap new begun false steady e same =
    let begun-is : begun ≡ Some heap.tables.ids = subst (λ (o : Option Heap). IsSteady o begun false) e steady in
    begun-is ∙ ap (λ (ids : IdSize). Some ids) (sym same)
