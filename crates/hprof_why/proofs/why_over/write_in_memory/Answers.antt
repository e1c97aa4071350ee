use Rattle.std.proofs.lemmas.Result.{err_from_is_err_and}
use Rattle.hprof_lines.proofs.TextWriting.{text_unwritten}
use Rattle.hprof_why.proofs.why_over.write_in_memory.Goals as goal

-- memory was wanted before the first line
pub returns-in_err-tables-clause-bytes : goal.returns-in_err-tables-clause-bytes
returns-in_err-tables-clause-bytes g c = λ found text are told.
    let r = c.from_residual in
    let p = err_from_is_err_and r.result r.ensures.1 in
    text_unwritten r.result (g.W.Target.written c.args.target.now) p.0 text p.1
