use Rattle.std.proofs.Common.{ℕ, List, length, ap, subst, ◌∙◌}
use Rattle.std.specs.List.{filter}
use Rattle.std.proofs.lemmas.Result.{err_from_is_err_and}
use Rattle.hprof_values.specs.Lists.{identifiers_of}
use Rattle.hprof_heap.specs.HeapFacts.{facts_of}
use Rattle.hprof_threads.specs.declared.held.Held.{Held}
use Rattle.hprof_lines.specs.Stopping.{WritesText}
use Rattle.hprof_lines.proofs.TextWriting.{text_stops, text_then}
use Rattle.hprof_holders.specs.ThreadsText.{elsewhere_text, is_elsewhere, stack_text}
use Rattle.hprof_holders.proofs.threads_report.write_framed.Goals as goal

pub returns-in_err-write_stack-clause-bytes : goal.returns-in_err-write_stack-clause-bytes
returns-in_err-write_stack-clause-bytes g c = λ found threads serial are are_threads held.
    let r = c.from_residual in
    let p = err_from_is_err_and r.result r.ensures.1 in
    let rows = c.args.rows.now in
    let stack = identifiers_of c.args.frames in
    text_stops r.result (g.W.Target.written c.args.target.now) (g.W.Target.written c.write_stack.new.target) p.0
    (stack_text found threads 0 rows stack) (elsewhere_text found (filter (is_elsewhere (length stack)) rows)) p.1
    (c.in_err-write_stack.ensures.bytes found threads serial are are_threads held)

pub returns-clause-bytes : goal.returns-clause-bytes
returns-clause-bytes g c = λ found threads serial are are_threads held.
    let rows = c.args.rows.now in
    let stack = identifiers_of c.args.frames in
    let r = c.write_elsewhere.result in
    let mid = g.W.Target.written c.write_stack.new.target in
    let new = g.W.Target.written c.write_elsewhere.new.target in
    let rest = c.rows_elsewhere-rest.ensures (facts_of c.args.heap.now) serial held
    ∙ ap (λ (count : ℕ). filter (is_elsewhere count) rows) c.len-count.ensures in
    text_then r (g.W.Target.written c.args.target.now) mid new (stack_text found threads 0 rows stack)
    (elsewhere_text found (filter (is_elsewhere (length stack)) rows))
    (c.in_ok-write_stack.ensures.bytes found threads serial are are_threads held)
    (subst (λ (left : List Held). WritesText mid new r (elsewhere_text found left)) rest (c.write_elsewhere.ensures.bytes found are))
