-- A heap of a few objects, in the making of a larger one.
use Rattle.std.specs.Prelude.{ℕ, List}
use Rattle.hprof_values.specs.declared.ids.IdSize.{IdSize}
use Rattle.hprof_items.specs.FactValue.{FactValue}
use Rattle.hprof_small.specs.Small.{IsSmallHeap}
use Rattle.hprof_words.specs.declared.few.Few.{Few}

-- the heap has the objects with the identifiers beside it
abbrev pub IsFew : ℕ → IdSize → List FactValue → Few → Type 0
IsFew millis ids all few = IsSmallHeap millis ids few.wanted.items all few.heap
