-- The order of edges. It is this project's own: by what refers, then by the kind of reference, then by its place, and then by what it
-- refers to.
use Rattle.std.specs.Prelude.{ℕ, List, [], ◌∷◌}
use Rattle.hprof_edges.specs.declared.edge.Via.{Via}
use Rattle.hprof_edges.specs.declared.edge.Via.TheVariants as vias
use Rattle.hprof_edges.specs.declared.edge.Edge.{Edge}

-- the kinds of references are numbered: those of an object's class and of a class first, then those by values
abbrev pub number_of_via : Via → ℕ
number_of_via vias.Class = 1
number_of_via vias.Parent = 2
number_of_via vias.Loader = 3
number_of_via vias.Signers = 4
number_of_via vias.Domain = 5
number_of_via vias.Constant = 6
number_of_via vias.Static = 7
number_of_via vias.Field = 8
number_of_via vias.Element = 9

-- an edge as numbers: of two edges the first numbers that differ tell which comes first
abbrev pub numbers_of_edge : Edge → List ℕ
numbers_of_edge edge = edge.from ∷ number_of_via edge.via ∷ edge.position ∷ edge.to ∷ []
