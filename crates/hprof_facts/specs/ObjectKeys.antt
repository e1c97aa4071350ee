-- Which facts are objects, and their identifiers.
use Rattle.std.specs.Prelude.{ℕ, Option, Some, None}
use Rattle.hprof_items.specs.FactValue.{FactValue, Instance, ObjArray, PrimArray}

-- the identifier of an object
abbrev pub object_key : FactValue → Option ℕ
object_key (Instance id trace class bytes) = Some id
object_key (ObjArray id trace class elements) = Some id
object_key (PrimArray id trace elem bytes) = Some id
object_key fact = None
