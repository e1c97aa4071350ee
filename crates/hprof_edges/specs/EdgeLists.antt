-- The edges that private functions put, one behind the other; no public contract speaks of them.
use Rattle.std.specs.Prelude.{ℕ, ◌+◌, ◌==◌, List, [], ◌∷◌, ◌++◌, map, if◌then◌else◌}
use Rattle.hprof_values.specs.declared.basic.Basic.{Basic}
use Rattle.hprof_values.specs.declared.entry.Entry.{Entry}
use Rattle.hprof_values.specs.Value.{constant_of, static_of}
use Rattle.hprof_layouts.specs.declared.field_value.FieldValue.{FieldValue}
use Rattle.hprof_heap.specs.Classes.{ClassValue}
use Rattle.hprof_layouts.specs.declared.reference.Reference.{Reference}
use Rattle.hprof_layouts.specs.Refers.{refers}
use Rattle.hprof_edges.specs.declared.edge.Via.{Via}
use Rattle.hprof_edges.specs.declared.edge.Via.TheVariants as vias
use Rattle.hprof_edges.specs.declared.edge.Edge.{Edge}

-- the edge, if it refers to something
abbrev pub unless_zero : Edge → List Edge
unless_zero edge = if edge.to == 0 then [] else edge ∷ []

-- ---- by place

-- what a value of the type that has these bits refers to; 0 where it refers to nothing
abbrev pub target_of : Basic → ℕ → ℕ
target_of basic bits = if refers basic then bits else 0

abbrev pub targets_of_constants : List Entry → List ℕ
targets_of_constants entries = map (λ constant. target_of constant.value.basic constant.value.bits) (map constant_of entries)

abbrev pub targets_of_statics : List Entry → List ℕ
targets_of_statics entries = map (λ field. target_of field.value.basic field.value.bits) (map static_of entries)

abbrev pub targets_of_values : List FieldValue → List ℕ
targets_of_values values = map (λ value. target_of value.basic value.bits) values

-- edges to these in turn, from that place on
abbrev pub numbered : ℕ → Via → ℕ → List ℕ → List Edge
numbered from via position [] = []
numbered from via position (to ∷ targets) =
    unless_zero (record { from = from; via = via; position = position; to = to }) ++ numbered from via (position + 1) targets

-- edges by these references
abbrev pub reference_edges : ℕ → List Reference → List Edge
reference_edges from [] = []
reference_edges from (reference ∷ references) =
    unless_zero (record { from = from; via = vias.Field; position = reference.place; to = reference.to })
    ++ reference_edges from references

-- ---- of a class

abbrev pub named_edge : ClassValue → Via → ℕ → List Edge
named_edge dump via to = unless_zero (record { from = dump.id; via = via; position = 0; to = to })

-- to its superclass, its loader, its signers and its domain
abbrev pub named_edges : ClassValue → List Edge
named_edges dump =
    named_edge dump vias.Parent dump.parent
    ++ (named_edge dump vias.Loader dump.loader
    ++ (named_edge dump vias.Signers dump.signers
    ++ named_edge dump vias.Domain dump.domain))
