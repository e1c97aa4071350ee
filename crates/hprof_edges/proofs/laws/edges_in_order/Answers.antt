use Rattle.std.proofs.Common.{◌≡◌, refl, sym, ap, ◌∙◌}
use Rattle.std.specs.Cmp.Lexicographic.{slice_cmp}
use Rattle.std.specs.Ordering.{nat_cmp, ordering_then}
use Rattle.std.specs.declared.cmp.Ordering.{Ordering}
use Rattle.std.specs.declared.cmp.Ordering.TheVariants.{Less, Equal, Greater}
use Rattle.hprof_edges.specs.declared.edge.Edge.{Edge}
use Rattle.hprof_edges.specs.declared.edge.Via.{Via}
use Rattle.hprof_edges.specs.declared.edge.Via.TheVariants as vias
use Rattle.hprof_edges.specs.contracts.edge.EdgeOrd.TheImpl as edge_ord
use Rattle.hprof_edges.specs.contracts.edge.ViaOrd.TheImpl as via_ord
use Rattle.hprof_edges.specs.EdgeOrder.{number_of_via, numbers_of_edge}
use Rattle.hprof_edges.proofs.laws.edges_in_order.Goals as goal

-- what the derived orders answer
abbrev via_cmp : Via → Via → Ordering
via_cmp = (via_ord.ghosts).cmp

abbrev edge_cmp : Edge → Edge → Ordering
edge_cmp = (edge_ord.ghosts).cmp

vias_in_order : (via other : Via) → via_cmp via other ≡ nat_cmp (number_of_via via) (number_of_via other)
vias_in_order vias.Class vias.Class = refl
vias_in_order vias.Parent vias.Parent = refl
vias_in_order vias.Loader vias.Loader = refl
vias_in_order vias.Signers vias.Signers = refl
vias_in_order vias.Domain vias.Domain = refl
vias_in_order vias.Constant vias.Constant = refl
vias_in_order vias.Static vias.Static = refl
vias_in_order vias.Field vias.Field = refl
vias_in_order vias.Element vias.Element = refl
vias_in_order via other = refl

-- nothing behind an order
then-Equal : (a : Ordering) → ordering_then a Equal ≡ a
then-Equal Less = refl
then-Equal Equal = refl
then-Equal Greater = refl

in_order : (edge other : Edge) → edge_cmp edge other ≡ slice_cmp nat_cmp (numbers_of_edge edge) (numbers_of_edge other)
in_order edge other =
    ap (λ (o : Ordering). ordering_then (nat_cmp edge.from other.from) (ordering_then o
    (ordering_then (nat_cmp edge.position other.position) (nat_cmp edge.to other.to)))) (vias_in_order edge.via other.via)
    ∙ sym (ap (λ (o : Ordering). ordering_then (nat_cmp edge.from other.from)
    (ordering_then (nat_cmp (number_of_via edge.via) (number_of_via other.via))
    (ordering_then (nat_cmp edge.position other.position) o))) (then-Equal (nat_cmp edge.to other.to)))

pub returns : goal.returns
returns c = in_order
