-- What is found by a pass over objects.
use Rattle.std.specs.Prelude.{List, Result, Ok, Err}
use Rattle.hprof_items.specs.FactValue.{FactValue}
use Rattle.hprof_passes.specs.declared.pass_fault.PassFault.{PassFault}
use Rattle.hprof_passes.specs.Passing.{IfLost}

-- what is found is so of the facts that the objects make up with those of a heap, and they agree; or they cannot be gone through
abbrev pub Finds : {A E F : Type 0} → (MakeUp : List FactValue → Type 0) → (agree : Type 0) → (tells : F → Type 0)
    → (Is : List FactValue → A → Type 0) → Result A (PassFault E F) → Type 0
Finds MakeUp agree tells Is (Ok found) = agree × ((all : List FactValue) → MakeUp all → Is all found)
Finds MakeUp agree tells Is (Err stop) = IfLost tells stop
