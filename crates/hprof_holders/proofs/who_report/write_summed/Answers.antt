use Rattle.std.proofs.Common.{List, length, map, ap, subst, ◌∙◌, arith}
use Rattle.std.specs.List.{flat_map}
use Rattle.std.proofs.lemmas.Bool.{lt-leb}
use Rattle.hprof_lines.specs.Stopping.{WritesText}
use Rattle.hprof_holders.specs.declared.sums.Sum.{Sum}
use Rattle.hprof_holders.specs.SumCounts.{sum_value}
use Rattle.hprof_holders.specs.WhoText.{edge_kind, sum_line}
use Rattle.hprof_holders.proofs.SomeSums.{one_sums}
use Rattle.hprof_holders.proofs.WhoParts.{told_sums}
use Rattle.hprof_holders.proofs.who_report.write_summed.Goals as goal

pub returns-clause-bytes : goal.returns-clause-bytes
returns-clause-bytes g c = λ found names sums are are_names all are_sums.
    let edges = c.args.edges.now in
    let texts = map (edge_kind found names) edges in
    let own = c.in_ok-sums.sums.items in
    let r = c.write_sums in
    let same = ap (λ (l : List Sum). map sum_value l) c.deref.ensures.value
    ∙ one_sums texts (map sum_value own) sums (c.in_ok-sums.ensures texts (c.in_ok-counted.ensures found names are are_names all))
    are_sums in
    let more = lt-leb (length edges) 20 (omega (arith, c.if-edges-le-MOST_EDGES.false)) in
    subst (WritesText (g.W.Target.written c.args.target.now) (g.W.Target.written r.new.target) r.result)
    (ap (flat_map sum_line) same ∙ told_sums edges sums more) r.ensures.bytes
