-- What facts have of an identifier.
use Rattle.std.specs.Prelude.{◌≡◌, ℕ, List, Option, Some, None}
use Rattle.hprof_items.specs.FactValue.{FactValue}
use Rattle.hprof_rows.specs.Facts.{Has}
use Rattle.hprof_heap.specs.Classes.{ClassValue, HasDump, HasNoDump}
use Rattle.hprof_heap.specs.Objects.{IsObject, HasNoObject}

-- the class dump of the identifier, if there is one
abbrev pub IsClassFound : List FactValue → ℕ → Option ClassValue → Type 0
IsClassFound facts id (Some dump) = HasDump facts dump × (dump.id ≡ id)
IsClassFound facts id None = HasNoDump facts id

-- the object dump of the identifier, if there is one
abbrev pub IsObjectFound : List FactValue → ℕ → Option FactValue → Type 0
IsObjectFound facts id (Some fact) = Has facts fact × IsObject id fact
IsObjectFound facts id None = HasNoObject facts id
