use Rattle.std.proofs.Common.{Err, ap, sym, ◌∙◌, arith, rules}
use Rattle.std.proofs.lemmas.Result.{err_from_is_err_and}
use Rattle.hprof_values.proofs.ListEnds.{entries_stop}
use Rattle.hprof_values.proofs.entry_span.entries_end.Goals as goal

pub returns-in_err-end-clause-end : goal.returns-in_err-end-clause-end
returns-in_err-end-clause-end c =
    let p = err_from_is_err_and c.from_residual.result c.from_residual.ensures.1 in
    let stopped = entries_stop c.args.ids c.args.kind _ c.args.item.now.bytes.now c.loop-left.left c.loop-left.end
    c.in_err-end.field-0.0 (omega arith) (sym c.entry_end.ensures.end ∙ c.in_err-end.was) in
    p.1 ∙ ap Err p.2 ∙ sym stopped ∙ c.loop-left.invariant.same

pub returns-clause-end : goal.returns-clause-end
returns-clause-end c = search rules

pub returns-clause-there : goal.returns-clause-there
returns-clause-there c = search rules

pub returns-in_err-end-clause-there : goal.returns-in_err-end-clause-there
returns-in_err-end-clause-there c = search rules
