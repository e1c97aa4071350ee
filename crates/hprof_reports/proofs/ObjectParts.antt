-- What is found of an identifier, and what is said of it.
use Rattle.std.proofs.Common.{◌≡◌, ℕ, List, Option, Some, None}
use Rattle.std.specs.Prelude.{IfNone, IfSome}
use Rattle.std.specs.Option.{option_map}
use Rattle.hprof_items.specs.FactValue.{FactValue}
use Rattle.hprof_rows.specs.Facts.{Has}
use Rattle.hprof_heap.specs.declared.class_dump.ClassDump.{ClassDump}
use Rattle.hprof_heap.specs.declared.object_dump.ObjectDump.{ObjectDump}
use Rattle.hprof_heap.specs.ClassDump.{class_value}
use Rattle.hprof_heap.specs.Classes.{HasDump, HasNoDump}
use Rattle.hprof_heap.specs.ObjectDump.{fact_of_object}
use Rattle.hprof_heap.specs.Objects.{IsObject, HasNoObject}
use Rattle.hprof_heap.specs.Found.{IsClassFound, IsObjectFound}

-- the class dump that a look-up found, if there is one
pub class_is_found : (facts : List FactValue) (id : ℕ) (row : Option ClassDump) → IfSome row (λ r. HasDump facts (class_value r))
    → IfSome row (λ r. r.id ≡ id) → IfNone row (HasNoDump facts id) → IsClassFound facts id (option_map class_value row)
class_is_found facts id (Some row) found same none = (found, same)
class_is_found facts id None found same none = none

-- the object dump
pub object_is_found : (facts : List FactValue) (id : ℕ) (row : Option ObjectDump) → IfSome row (λ r. Has facts (fact_of_object r))
    → IfSome row (λ r. IsObject id (fact_of_object r)) → IfNone row (HasNoObject facts id)
    → IsObjectFound facts id (option_map fact_of_object row)
object_is_found facts id (Some row) found same none = (found, same)
object_is_found facts id None found same none = none
