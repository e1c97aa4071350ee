use Rattle.std.proofs.Common.{List, ℕ, sym, subst}
use Rattle.std.specs.Option.{option_map}
use Rattle.std.specs.Prelude.{Option}
use Rattle.std.proofs.lemmas.Result.{err_from_is_err_and}
use Rattle.hprof_values.specs.Lists.{identifiers_of}
use Rattle.hprof_heap.specs.HeapFacts.{facts_of}
use Rattle.hprof_threads.proofs.ThreadAnswers.{stack_once}
use Rattle.hprof_lines.specs.Stopping.{WritesText}
use Rattle.hprof_lines.proofs.TextWriting.{text_stops, text_then}
use Rattle.hprof_holders.specs.ThreadFindings.{frames_in, frames_of}
use Rattle.hprof_holders.specs.ThreadsText.{head_line}
use Rattle.hprof_holders.proofs.ThreadTexts.{places_text, thread_parts}
use Rattle.hprof_holders.proofs.threads_report.write_thread.Goals as goal

pub returns-in_err-write_line-clause-bytes : goal.returns-in_err-write_line-clause-bytes
returns-in_err-write_line-clause-bytes g c = λ found threads are are_threads held.
    let r = c.from_residual in
    let p = err_from_is_err_and r.result r.ensures.1 in
    let serial = c.args.serial in
    let rows = c.args.rows.now in
    let old = g.W.Target.written c.args.target.now in
    let new = g.W.Target.written c.write_line.new.target in
    let head = head_line found threads serial in
    subst (WritesText old new r.result) (sym (thread_parts found threads rows serial))
    (text_stops r.result old new p.0 head (places_text found threads rows (frames_of threads serial)) p.1
    (c.in_err-write_line.ensures.bytes head (c.head_line.ensures found threads are are_threads)))

pub returns-clause-bytes : goal.returns-clause-bytes
returns-clause-bytes g c = λ found threads are are_threads held.
    let facts = facts_of c.args.heap.now in
    let serial = c.args.serial in
    let rows = c.args.rows.now in
    let r = c.write_places.result in
    let old = g.W.Target.written c.args.target.now in
    let mid = g.W.Target.written c.write_line.new.target in
    let new = g.W.Target.written c.write_places.new.target in
    let head = head_line found threads serial in
    let stack = option_map identifiers_of c.thread_stack-frames.result in
    let same = stack_once facts c.holds_of_heap.ensures.agree serial stack (threads.stack serial)
    (c.thread_stack-frames.ensures c.requires.roots) (are_threads.stacks serial) in
    subst (WritesText old new r) (sym (thread_parts found threads rows serial))
    (text_then r old mid new head (places_text found threads rows (frames_of threads serial))
    (c.in_ok-write_line.ensures.bytes head (c.head_line.ensures found threads are are_threads))
    (subst (λ (frames : Option (List ℕ)). WritesText mid new r (places_text found threads rows (frames_in frames))) same
    (c.write_places.ensures.bytes found threads serial are are_threads held)))
