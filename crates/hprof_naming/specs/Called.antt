-- Classes that are called by a word: java.lang.ref, java.lang.Thread and java.lang.String of the JDK are told so.
use Rattle.std.specs.Prelude.{ℕ, List, Some}
use Rattle.hprof_items.specs.FactValue.{FactValue}
use Rattle.hprof_heap.specs.ClassName.{NamesClass}
use Rattle.hprof_heap.specs.Names.{HasName}

-- the load of least serial gives the class a name that has just these bytes
pub record IsCalled (facts : List FactValue) (class : ℕ) (word : List ℕ) : Type 0 where
  pub name : ℕ
  pub names : NamesClass facts class (Some name)
  pub has : HasName facts name word
