use Rattle.std.proofs.Common.{subst}
use Rattle.std.proofs.lemmas.Bool.{both_ways}
use Rattle.hprof_lines.specs.Stopping.{WritesText}
use Rattle.hprof_holders.specs.WhoText.{none_line}
use Rattle.hprof_holders.proofs.WhoParts.{who_none, who_some}
use Rattle.hprof_holders.proofs.who_report.write_found.Goals as goal

pub returns-then-are_none-clause-bytes : goal.returns-then-are_none-clause-bytes
returns-then-are_none-clause-bytes g c = λ found threads names sums are are_threads are_names all are_sums.
    let id = c.args.id in
    let line = none_line id (found.class id) (found.object id) in
    let r = c.write_line in
    subst (WritesText (g.W.Target.written c.args.target.now) (g.W.Target.written r.new.target) r.result)
    (who_none found threads names id sums c.args.roots.now c.args.edges.now (c.are_none.ensures.0 c.if-are_none.true))
    (r.ensures.bytes line (c.none_line.ensures found are))

pub returns-clause-bytes : goal.returns-clause-bytes
returns-clause-bytes g c = λ found threads names sums are are_threads are_names all are_sums.
    let r = c.write_referred in
    subst (WritesText (g.W.Target.written c.args.target.now) (g.W.Target.written r.new.target) r.result)
    (who_some found threads names c.args.id sums c.args.roots.now c.args.edges.now
    (λ none. both_ways _ c.if-are_none.false (c.are_none.ensures.1 none)))
    (r.ensures.bytes found threads names sums are are_threads are_names all are_sums)
