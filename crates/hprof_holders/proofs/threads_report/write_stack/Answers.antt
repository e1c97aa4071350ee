use Rattle.std.proofs.Common.{◌+◌, List, ℕ, length, sym, ap, subst, ◌∙◌, arith}
use Rattle.std.proofs.lemmas.Result.{err_from_is_err_and}
use Rattle.hprof_values.specs.Lists.{identifiers_left, identifiers_of}
use Rattle.hprof_values.specs.declared.lists.ids.Ids.{Ids}
use Rattle.hprof_devices.proofs.Writes.{Pushed, Pushed-all, Pushed-more, Pushed-none}
use Rattle.hprof_lines.proofs.TextWriting.{pushed_stops_within}
use Rattle.hprof_holders.specs.ThreadsText.{frame_text, stack_text}
use Rattle.hprof_holders.proofs.ThreadTexts.{stack_done, stack_more}
use Rattle.hprof_holders.proofs.threads_report.write_stack.Goals as goal

pub loop-frame-init : goal.loop-frame-init
loop-frame-init g c =
    let same = ap (λ (ids : Ids). identifiers_left ids) c.into_iter-frame-iterator.ensures.into_iter_gives
    ∙ c.iter-frame-items.ensures.all in
    let old = g.W.Target.written c.args.target.now in
    record {
      pushed = λ found threads serial are are_threads held.
          let rows = c.args.rows.now in
          let all = stack_text found threads 0 rows (identifiers_of c.args.frames) in
          subst (λ (frames : List ℕ). Pushed old old all (stack_text found threads 0 rows frames)) (sym same) (Pushed-none old all);
      well = c.requires.well;
      count = omega (arith, ap (λ (frames : List ℕ). length frames) same);
    }

pub returns-in_err-write_frame-clause-bytes : goal.returns-in_err-write_frame-clause-bytes
returns-in_err-write_frame-clause-bytes g c = λ found threads serial are are_threads held.
    let r = c.from_residual in
    let p = err_from_is_err_and r.result r.ensures.1 in
    let rows = c.args.rows.now in
    let number = c.loop-frame.number in
    let frame = c.in-Some.frame in
    let rest = identifiers_left c.next.new.self in
    pushed_stops_within r.result p.0 p.1 (g.W.Target.written c.args.target.now) (g.W.Target.written c.loop-frame.target)
    (stack_text found threads 0 rows (identifiers_of c.args.frames))
    (stack_text found threads number rows (identifiers_left c.loop-frame.frame-iterator))
    (c.loop-frame.invariant.pushed found threads serial are are_threads held) (g.W.Target.written c.write_frame.new.target)
    (frame_text found threads rows number frame) (stack_text found threads (number + 1) rows rest)
    (ap (stack_text found threads number rows) c.in-Some.ensures.steps ∙ stack_more found threads rows number frame rest)
    (c.in_err-write_frame.ensures.bytes found threads serial are are_threads held)

pub loop-frame-preserved : goal.loop-frame-preserved
loop-frame-preserved g c =
    let steps = c.in-Some.ensures.steps in
    let lengths = ap (λ (l : List ℕ). length l) steps in
    let count = c.loop-frame.invariant.count in
    record {
      pushed = λ found threads serial are are_threads held.
          let rows = c.args.rows.now in
          let number = c.loop-frame.number in
          let frame = c.in-Some.frame in
          let rest = identifiers_left c.next.new.self in
          Pushed-more (g.W.Target.written c.args.target.now) (g.W.Target.written c.loop-frame.target)
          (g.W.Target.written c.write_frame.new.target) (stack_text found threads 0 rows (identifiers_of c.args.frames))
          (stack_text found threads number rows (identifiers_left c.loop-frame.frame-iterator))
          (frame_text found threads rows number frame) (stack_text found threads (number + 1) rows rest)
          (c.loop-frame.invariant.pushed found threads serial are are_threads held)
          (ap (stack_text found threads number rows) steps ∙ stack_more found threads rows number frame rest)
          (c.in_ok-write_frame.ensures.bytes found threads serial are are_threads held);
      well = c.in_ok-write_frame.ensures.health;
      count = omega (arith, lengths, count);
    }

pub returns-clause-bytes : goal.returns-clause-bytes
returns-clause-bytes g c = λ found threads serial are are_threads held.
    let rows = c.args.rows.now in
    let number = c.loop-frame.number in
    let left = identifiers_left c.loop-frame.frame-iterator in
    Pushed-all (g.W.Target.written c.args.target.now) (g.W.Target.written c.loop-frame.target)
    (stack_text found threads 0 rows (identifiers_of c.args.frames)) (stack_text found threads number rows left)
    (c.loop-frame.invariant.pushed found threads serial are are_threads held)
    (stack_done found threads rows number left c.in-None.ensures.steps.0)
