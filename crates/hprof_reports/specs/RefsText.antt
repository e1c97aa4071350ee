-- The report `refs`: what refers to an identifier.
use Rattle.std.specs.Prelude.{◌≡◌, ℕ, List, [], ◌∷◌, map, codes}
use Rattle.std.specs.Fmt.{decimal}
use Rattle.hprof_text.specs.Identifier.{id_digits}
use Rattle.hprof_values.specs.declared.ids.IdSize.{IdSize}
use Rattle.hprof_items.specs.FactValue.{FactValue}
use Rattle.hprof_edges.specs.declared.edge.Edge.{Edge}
use Rattle.hprof_edges.specs.declared.edge.Via.{Via}
use Rattle.hprof_edges.specs.declared.edge.Via.TheVariants as vias
use Rattle.hprof_edges.specs.Edges.{AreReferrers}
use Rattle.hprof_lines.specs.Line.{line_of, text_of_lines}

-- the word for what refers
abbrev pub via_word : Via → List ℕ
via_word vias.Class = codes "class"
via_word vias.Parent = codes "super"
via_word vias.Loader = codes "loader"
via_word vias.Signers = codes "signers"
via_word vias.Domain = codes "domain"
via_word vias.Constant = codes "constant"
via_word vias.Static = codes "static"
via_word vias.Field = codes "field"
via_word vias.Element = codes "element"

-- what refers, by way of what, and the place of that
abbrev pub edge_line : Edge → List ℕ
edge_line edge = line_of (id_digits edge.from ∷ via_word edge.via ∷ decimal edge.position ∷ [])

-- the text is a line for each edge to the identifier, in order
pub record IsRefsText (ids : IdSize) (facts : List FactValue) (id : ℕ) (text : List ℕ) : Type 0 where
  pub edges : List Edge
  pub are_referrers : AreReferrers ids facts id edges
  pub is : text ≡ text_of_lines (map edge_line edges)
