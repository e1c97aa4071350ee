-- What is found of objects is found also where counts of them are known.
use Rattle.std.proofs.Common.{List, Option, Result, Ok, Err}
use Rattle.hprof_values.specs.declared.ids.IdSize.{IdSize}
use Rattle.hprof_items.specs.FactValue.{FactValue}
use Rattle.hprof_passes.specs.declared.pass_fault.PassFault.{PassFault}
use Rattle.hprof_passes.specs.Finding.{Finds}
use Rattle.hprof_histogram.specs.declared.counted_kinds.CountedKinds.{CountedKinds}
use Rattle.hprof_histogram.specs.Known.{MadeUpWith}

pub found_with : {A E F : Type 0} → (MakeUp : List FactValue → Type 0) (agree : Type 0) (tells : F → Type 0)
    (Is : List FactValue → A → Type 0) (ids : IdSize) (known : Option CountedKinds) (r : Result A (PassFault E F))
    → Finds MakeUp agree tells Is r → Finds (MadeUpWith MakeUp ids known) agree tells Is r
found_with MakeUp agree tells Is ids known (Ok found) finds = (finds.0, λ all made. finds.1 all made.0)
found_with MakeUp agree tells Is ids known (Err stop) finds = finds
