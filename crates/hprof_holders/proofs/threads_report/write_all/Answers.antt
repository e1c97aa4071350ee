use Rattle.std.proofs.Common.{ℕ, List, ap, subst}
use Rattle.std.specs.List.{flat_map}
use Rattle.std.specs.Io.KnownBytes.{Appends}
use Rattle.std.proofs.lemmas.Result.{err_from_is_err_and}
use Rattle.hprof_devices.proofs.Writes.{Pushed-more, WritesFront}
use Rattle.hprof_heap.specs.HeapFacts.{facts_of}
use Rattle.hprof_threads.specs.declared.held.Held.{Held}
use Rattle.hprof_lines.proofs.TextWriting.{pushed_stops_within}
use Rattle.hprof_holders.specs.ThreadsText.{thread_text}
use Rattle.hprof_holders.proofs.SomeHeld.{one_rows}
use Rattle.hprof_holders.proofs.threads_report.write_all.Goals as goal

pub returns-in_err-write_thread-clause-bytes : goal.returns-in_err-write_thread-clause-bytes
returns-in_err-write_thread-clause-bytes g c = λ found threads rows are are_threads held.
    let r = c.from_residual in
    let p = err_from_is_err_and r.result r.ensures.1 in
    let facts = facts_of c.args.heap.now in
    let serial = c.in-Some.serial.now in
    let after = c.in-Some.after.now in
    let own = c.held_by_thread-rows.result.now in
    let is_own = c.held_by_thread-rows.ensures facts c.requires.held in
    let text = λ (number : ℕ). thread_text found threads number (rows number) in
    let mid = g.W.Target.written c.loop-serial.target in
    let new = g.W.Target.written c.write_thread.new.target in
    pushed_stops_within r.result p.0 p.1 (g.W.Target.written c.args.target.now) mid
    (flat_map text c.args.serials.now) (flat_map text c.loop-serial.rest.now)
    (c.loop-serial.invariant.pushed found threads rows are are_threads held) new (text serial) (flat_map text after)
    (ap (flat_map text) c.in-Some.ensures.cases.0)
    (subst (λ (list : List Held). WritesFront mid new (thread_text found threads serial list))
    (one_rows facts serial own (rows serial) is_own (held serial))
    (c.in_err-write_thread.ensures.bytes found threads are are_threads is_own))

pub loop-serial-preserved : goal.loop-serial-preserved
loop-serial-preserved g c = record {
  pushed = λ found threads rows are are_threads held.
      let facts = facts_of c.args.heap.now in
      let serial = c.in-Some.serial.now in
      let after = c.in-Some.after.now in
      let own = c.held_by_thread-rows.result.now in
      let is_own = c.held_by_thread-rows.ensures facts c.requires.held in
      let text = λ (number : ℕ). thread_text found threads number (rows number) in
      let mid = g.W.Target.written c.loop-serial.target in
      let new = g.W.Target.written c.write_thread.new.target in
      Pushed-more (g.W.Target.written c.args.target.now) mid new (flat_map text c.args.serials.now)
      (flat_map text c.loop-serial.rest.now) (text serial) (flat_map text after)
      (c.loop-serial.invariant.pushed found threads rows are are_threads held) (ap (flat_map text) c.in-Some.ensures.cases.0)
      (subst (λ (list : List Held). Appends mid new (thread_text found threads serial list))
      (one_rows facts serial own (rows serial) is_own (held serial))
      (c.in_ok-write_thread.ensures.bytes found threads are are_threads is_own));
  well = c.in_ok-write_thread.ensures.health;
}
