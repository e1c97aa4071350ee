use Rattle.std.proofs.Common.{◌++◌, codes}
use Rattle.std.proofs.lemmas.Result.{err_from_is_err_and}
use Rattle.hprof_lines.proofs.TextWriting.{text_stops, text_then}
use Rattle.hprof_describe.specs.Nodes.{node_text}
use Rattle.hprof_holders.specs.Steps.{step_text}
use Rattle.hprof_why.specs.Walks.{more_line}
use Rattle.hprof_why.proofs.parts.write_front.Goals as goal

pub returns-in_err-write_line-clause-bytes : goal.returns-in_err-write_line-clause-bytes
returns-in_err-write_line-clause-bytes g c = λ found edge are is.
    let r = c.from_residual in
    let p = err_from_is_err_and r.result r.ensures.1 in
    let step = codes "  " ++ step_text found.nodes.naming found.edges edge ++ codes "\n" in
    let node = node_text found.nodes c.args.front.behind.node ++ codes "\n" in
    text_stops r.result (g.W.Target.written c.args.target.now) (g.W.Target.written c.write_line.new.target) p.0 step
    (more_line c.args.front.more ++ node) p.1
    (c.in_err-write_line.ensures.bytes step (c.step_line.ensures found.nodes.naming found.edges edge are.are_nodes.is_naming is))

pub returns-in_err-write_line-2-clause-bytes : goal.returns-in_err-write_line-2-clause-bytes
returns-in_err-write_line-2-clause-bytes g c = λ found edge are is.
    let r = c.from_residual-in_err-write_line-2 in
    let p = err_from_is_err_and r.result r.ensures.1 in
    let old = g.W.Target.written c.args.target.now in
    let mid = g.W.Target.written c.write_line.new.target in
    let new = g.W.Target.written c.write_line-2.new.target in
    let step = codes "  " ++ step_text found.nodes.naming found.edges edge ++ codes "\n" in
    let more = more_line c.args.front.more in
    let node = node_text found.nodes c.args.front.behind.node ++ codes "\n" in
    text_then r.result old mid new step (more ++ node)
    (c.in_ok-write_line.ensures.bytes step (c.step_line.ensures found.nodes.naming found.edges edge are.are_nodes.is_naming is))
    (text_stops r.result mid new p.0 more node p.1 (c.in_err-write_line-2.ensures.bytes more c.more_line.ensures))

pub returns-clause-bytes : goal.returns-clause-bytes
returns-clause-bytes g c = λ found edge are is.
    let old = g.W.Target.written c.args.target.now in
    let one = g.W.Target.written c.write_line.new.target in
    let two = g.W.Target.written c.write_line-2.new.target in
    let new = g.W.Target.written c.write_line-3.new.target in
    let step = codes "  " ++ step_text found.nodes.naming found.edges edge ++ codes "\n" in
    let more = more_line c.args.front.more in
    let node = node_text found.nodes c.args.front.behind.node ++ codes "\n" in
    text_then c.write_line-3.result old one new step (more ++ node)
    (c.in_ok-write_line.ensures.bytes step (c.step_line.ensures found.nodes.naming found.edges edge are.are_nodes.is_naming is))
    (text_then c.write_line-3.result one two new more node (c.in_ok-write_line-2.ensures.bytes more c.more_line.ensures)
    (c.write_line-3.ensures.bytes node (c.node_line.ensures found.nodes are.are_nodes)))
