-- A sink that collects the identifiers of objects; no public contract speaks of it.
use Rattle.std.specs.Prelude.{◌↔◌, ◌⊎◌, ℕ, Contains}
use Rattle.hprof_values.specs.declared.ids.IdSize.{IdSize}
use Rattle.hprof_items.specs.FactValue.{FactValue}
use Rattle.hprof_reach.specs.Nodes.{GivesObject}
use Rattle.hprof_reach.specs.declared.node_sink.NodeSink.{NodeSink}

-- it has what it had, and the object
abbrev pub TakesNode : NodeSink → IdSize → FactValue → NodeSink → Type 0
TakesNode old ids object new = (node : ℕ) → Contains new.nodes.items node ↔ (Contains old.nodes.items node ⊎ GivesObject object node)
