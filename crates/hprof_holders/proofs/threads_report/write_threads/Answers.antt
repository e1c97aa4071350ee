use Rattle.std.proofs.Common.{ℕ, sym, ap, subst, ◌∙◌}
use Rattle.std.specs.List.{flat_map}
use Rattle.std.proofs.lemmas.Result.{err_from_is_err_and}
use Rattle.hprof_heap.specs.HeapFacts.{facts_of, size_of}
use Rattle.hprof_lines.specs.Stopping.{WritesText}
use Rattle.hprof_lines.proofs.TextWriting.{text_unwritten}
use Rattle.hprof_holders.specs.ThreadsText.{thread_text}
use Rattle.hprof_holders.proofs.SomeSerials.{one_serials}
use Rattle.hprof_holders.proofs.SomeThreads.{text_exists}
use Rattle.hprof_holders.proofs.threads_report.write_threads.Goals as goal

-- memory was wanted before the first thread
pub returns-in_err-held-clause-bytes : goal.returns-in_err-held-clause-bytes
returns-in_err-held-clause-bytes g c =
    let it = text_exists (facts_of c.args.heap.now) c.holds_of_heap.ensures.agree (size_of c.args.heap.now) in
    let r = c.from_residual in
    let p = err_from_is_err_and r.result r.ensures.1 in
    (it.0, it.1, text_unwritten r.result (g.W.Target.written c.args.target.now) p.0 it.0 p.1)

pub returns-in_err-serials-clause-bytes : goal.returns-in_err-serials-clause-bytes
returns-in_err-serials-clause-bytes g c =
    let it = text_exists (facts_of c.args.heap.now) c.holds_of_heap.ensures.agree (size_of c.args.heap.now) in
    let r = c.from_residual-in_err-serials in
    let p = err_from_is_err_and r.result r.ensures.1 in
    (it.0, it.1, text_unwritten r.result (g.W.Target.written c.args.target.now) p.0 it.0 p.1)

pub returns-clause-bytes : goal.returns-clause-bytes
returns-clause-bytes g c =
    let facts = facts_of c.args.heap.now in
    let it = text_exists facts c.holds_of_heap.ensures.agree (size_of c.args.heap.now) in
    let are = it.1 in
    let text = λ (serial : ℕ). thread_text are.found are.threads serial (are.held serial) in
    let old = g.W.Target.written c.args.target.now in
    let new = g.W.Target.written c.write_all.new.target in
    let serials = c.deref.ensures.value
    ∙ one_serials facts c.in_ok-serials.serials.items are.serials c.in_ok-serials.ensures are.are_serials in (
      it.0,
      are,
      subst (WritesText old new c.write_all.result) (ap (flat_map text) serials ∙ sym are.is)
          (c.write_all.ensures.bytes are.found are.threads are.held are.are_found are.are_threads are.are_held),
    )
