-- Nodes by what dump they have; no public contract speaks of it.
use Rattle.std.specs.Prelude.{◌≡◌, ◌≢◌, ℕ, List}
use Rattle.hprof_items.specs.FactValue.{FactValue}
use Rattle.hprof_rows.specs.Facts.{Has}
use Rattle.hprof_heap.specs.Classes.{ClassValue, HasDump}
use Rattle.hprof_heap.specs.Objects.{IsObject}

-- it has a class dump
abbrev pub IsClassNode : List FactValue → ℕ → Type 0
IsClassNode facts id = (id ≢ 0) × ((dump : ClassValue) × HasDump facts dump × (dump.id ≡ id))

-- it has an object dump
abbrev pub IsObjectNode : List FactValue → ℕ → Type 0
IsObjectNode facts id = (id ≢ 0) × ((fact : FactValue) × Has facts fact × IsObject id fact)

-- the fact is a dump of the object, which is a node
abbrev pub GivesObject : FactValue → ℕ → Type 0
GivesObject fact id = (id ≢ 0) × IsObject id fact
