use Rattle.std.proofs.lemmas.Result.{err_from_is_err_and}
use Rattle.hprof_heap.specs.HeapFacts.{facts_of, size_of}
use Rattle.hprof_lines.proofs.TextWriting.{text_unwritten}
use Rattle.hprof_holders.proofs.SomeWho.{who_exists}
use Rattle.hprof_holders.proofs.who_over.write_in_memory.Goals as goal

-- memory was wanted before the first line
pub returns-in_err-edges-clause-bytes : goal.returns-in_err-edges-clause-bytes
returns-in_err-edges-clause-bytes g c =
    let it = who_exists (size_of c.args.heap.now) (facts_of c.args.heap.now) c.holds_of_heap.ensures.agree c.args.id in
    let r = c.from_residual in
    let p = err_from_is_err_and r.result r.ensures.1 in
    (it.0, it.1, text_unwritten r.result (g.W.Target.written c.args.target.now) p.0 it.0 p.1)

pub returns-in_err-tables-clause-bytes : goal.returns-in_err-tables-clause-bytes
returns-in_err-tables-clause-bytes g c =
    let it = who_exists (size_of c.args.heap.now) (facts_of c.args.heap.now) c.holds_of_heap.ensures.agree c.args.id in
    let r = c.from_residual-in_err-tables in
    let p = err_from_is_err_and r.result r.ensures.1 in
    (it.0, it.1, text_unwritten r.result (g.W.Target.written c.args.target.now) p.0 it.0 p.1)
