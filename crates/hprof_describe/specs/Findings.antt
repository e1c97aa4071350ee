-- What is found of each identifier.
use Rattle.std.specs.Prelude.{◌≡◌, ℕ, List, Option}
use Rattle.hprof_values.specs.declared.ids.IdSize.{IdSize}
use Rattle.hprof_items.specs.FactValue.{FactValue}
use Rattle.hprof_heap.specs.Classes.{ClassValue}
use Rattle.hprof_heap.specs.Found.{IsClassFound, IsObjectFound}
use Rattle.hprof_naming.specs.Naming.{IsNaming, Naming}
use Rattle.hprof_naming.specs.Texts.{IsText, TextValue}
use Rattle.hprof_threads.specs.ThreadNames.{IsThreadName}

-- how names and classes are printed, and of each identifier its class dump, its object dump, its text and the name of its thread
pub record Findings : Type 0 where
  pub ids : IdSize
  pub naming : Naming
  pub class : ℕ → Option ClassValue
  pub object : ℕ → Option FactValue
  pub text : ℕ → TextValue
  pub thread_name : ℕ → Option (List ℕ)

-- so it is among these facts
pub record AreFindings (ids : IdSize) (facts : List FactValue) (found : Findings) : Type 0 where
  pub ids_are : found.ids ≡ ids
  pub is_naming : IsNaming facts found.naming
  pub classes : (id : ℕ) → IsClassFound facts id (found.class id)
  pub objects : (id : ℕ) → IsObjectFound facts id (found.object id)
  pub texts : (id : ℕ) → IsText ids facts id (found.text id)
  pub thread_names : (id : ℕ) → IsThreadName ids facts id (found.thread_name id)
