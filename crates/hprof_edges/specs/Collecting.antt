-- What collects edges was given.
use Rattle.std.specs.Prelude.{◌↔◌, Bool, List, ◌++◌, Contains}
use Rattle.hprof_edges.specs.declared.edge.Edge.{Edge}
use Rattle.hprof_layouts.specs.declared.reference.Wanted.{Wanted}
use Rattle.hprof_layouts.specs.References.{is_wanted}

-- behind these edges it was given exactly those of which that holds
pub record PutBehind (holds : List Edge → Type 0) (edges : List Edge) (P : Edge → Type 0) : Type 0 where
  pub more : List Edge
  pub holds_more : holds (edges ++ more)
  pub exact : (edge : Edge) → Contains more edge ↔ P edge

-- whether an edge is wanted, by what it refers to
abbrev pub is_edge_wanted : Wanted → Edge → Bool
is_edge_wanted which edge = is_wanted which edge.to
