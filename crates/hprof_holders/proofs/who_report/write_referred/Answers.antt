use Rattle.std.proofs.Common.{◌++◌, subst}
use Rattle.std.specs.List.{flat_map}
use Rattle.std.proofs.lemmas.Result.{err_from_is_err_and}
use Rattle.hprof_lines.specs.Stopping.{WritesText}
use Rattle.hprof_lines.proofs.TextWriting.{text_stops, text_then}
use Rattle.hprof_holders.specs.RootsText.{roots_text}
use Rattle.hprof_holders.specs.WhoText.{edge_line, sums_text}
use Rattle.hprof_holders.proofs.WhoParts.{referred_parts}
use Rattle.hprof_holders.proofs.who_report.write_referred.Goals as goal

pub returns-in_err-write_roots-clause-bytes : goal.returns-in_err-write_roots-clause-bytes
returns-in_err-write_roots-clause-bytes g c = λ found threads names sums are are_threads are_names all are_sums.
    let r = c.from_residual in
    let p = err_from_is_err_and r.result r.ensures.1 in
    let roots = c.args.roots.now in
    let edges = c.args.edges.now in
    let old = g.W.Target.written c.args.target.now in
    let new = g.W.Target.written c.write_roots.new.target in
    subst (WritesText old new r.result) (referred_parts found threads names roots edges sums)
    (text_stops r.result old new p.0 (roots_text found threads roots) (sums_text edges sums ++ flat_map (edge_line found names) edges) p.1
    (c.in_err-write_roots.ensures.bytes found threads are are_threads))

pub returns-in_err-write_summed-clause-bytes : goal.returns-in_err-write_summed-clause-bytes
returns-in_err-write_summed-clause-bytes g c = λ found threads names sums are are_threads are_names all are_sums.
    let r = c.from_residual-in_err-write_summed in
    let p = err_from_is_err_and r.result r.ensures.1 in
    let roots = c.args.roots.now in
    let edges = c.args.edges.now in
    let lines = flat_map (edge_line found names) edges in
    let old = g.W.Target.written c.args.target.now in
    let mid = g.W.Target.written c.write_roots.new.target in
    let new = g.W.Target.written c.write_summed.new.target in
    subst (WritesText old new r.result) (referred_parts found threads names roots edges sums)
    (text_then r.result old mid new (roots_text found threads roots) (sums_text edges sums ++ lines)
    (c.in_ok-write_roots.ensures.bytes found threads are are_threads)
    (text_stops r.result mid new p.0 (sums_text edges sums) lines p.1
    (c.in_err-write_summed.ensures.bytes found names sums are are_names all are_sums)))

pub returns-clause-bytes : goal.returns-clause-bytes
returns-clause-bytes g c = λ found threads names sums are are_threads are_names all are_sums.
    let r = c.write_edges.result in
    let roots = c.args.roots.now in
    let edges = c.args.edges.now in
    let lines = flat_map (edge_line found names) edges in
    let old = g.W.Target.written c.args.target.now in
    let mid = g.W.Target.written c.write_roots.new.target in
    let told = g.W.Target.written c.write_summed.new.target in
    let new = g.W.Target.written c.write_edges.new.target in
    subst (WritesText old new r) (referred_parts found threads names roots edges sums)
    (text_then r old mid new (roots_text found threads roots) (sums_text edges sums ++ lines)
    (c.in_ok-write_roots.ensures.bytes found threads are are_threads)
    (text_then r mid told new (sums_text edges sums) lines
    (c.in_ok-write_summed.ensures.bytes found names sums are are_names all are_sums)
    (c.write_edges.ensures.bytes found names are are_names all)))
