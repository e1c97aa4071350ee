-- What is found by a pass, said in other words.
use Rattle.std.proofs.Common.{List, Result, Ok, Err}
use Rattle.hprof_items.specs.FactValue.{FactValue}
use Rattle.hprof_passes.specs.declared.pass_fault.PassFault.{PassFault}
use Rattle.hprof_passes.specs.Finding.{Finds}

module _ {A E F : Type 0} (MakeUp : List FactValue → Type 0) (agree : Type 0) (tells : F → Type 0) (Is Also : List FactValue → A → Type 0)
  where
    pub found_so : (r : Result A (PassFault E F)) → Finds MakeUp agree tells Is r
        → ((all : List FactValue) (found : A) → MakeUp all → Is all found → Also all found) → Finds MakeUp agree tells Also r
    found_so (Ok found) finds so = (finds.0, λ all make. so all found make (finds.1 all make))
    found_so (Err stop) finds so = finds
