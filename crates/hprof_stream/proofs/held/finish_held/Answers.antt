use Rattle.std.proofs.Common.{◌<◌, length, refl, ap, inr, arith}
use Rattle.std.proofs.lemmas.Result.{err_from_is_err_and}
use Rattle.std.specs.Vec.{vec_len}
use Rattle.hprof_stream.proofs.Holding.{some_len}
use Rattle.hprof_stream.proofs.HeldOn.{GoesOn-then, GoesOn-halted}
use Rattle.hprof_stream.proofs.Rooms.{KeepsRoom-then, NeedsGrowth-from}
use Rattle.hprof_stream.proofs.held.finish_held.Goals as goal

pub loop-progress-init : goal.loop-progress-init
loop-progress-init g c = record {
  on = λ front is. inr (refl, refl, (front, refl, is));
  held = λ some. some;
  counted = c.requires.counted;
  sound = c.requires.sound;
  begun = c.requires.begun;
  less = omega arith;
  room = record { room = omega arith; fewer = omega arith };
  kept = λ header e. e;
}

pub finish_once-requires-clause-counted : goal.finish_once-requires-clause-counted
finish_once-requires-clause-counted g c = c.loop-progress.invariant.counted

pub finish_once-requires-clause-begun : goal.finish_once-requires-clause-begun
finish_once-requires-clause-begun g c = c.loop-progress.invariant.begun

pub finish_once-requires-clause-sound : goal.finish_once-requires-clause-sound
finish_once-requires-clause-sound g c = c.loop-progress.invariant.sound

pub returns-in_err-left-clause-finished : goal.returns-in_err-left-clause-finished
returns-in_err-left-clause-finished g c front is =
    let inv = c.loop-progress.invariant in
    let mid = c.loop-progress in
    let fault = c.in_err-left.field-0.0 in
    let some : 0 < length mid.rest.held.items = let n = some_len (vec_len mid.rest.held) c.loop-progress-test.ensures in omega (
      arith,
      n,
      mid.rest.held.ok,
    ) in
    let any = some_len (length mid.left.now) c.if-not-is_empty.ensures in
    let p = err_from_is_err_and c.from_residual.result c.from_residual.ensures.1 in
    rw (p.1, p.2) (
    GoesOn-halted g.S.Sink.begins g.S.Sink.steps g.S.Sink.refuses g.S.Sink.failed c.args.progress.now mid.progress
    c.finish_once.new.progress front c.args.bytes.now mid.left.now c.args.sink.now mid.sink
    c.finish_once.new.sink mid.rest c.finish_once.new.rest (inv.on front is) some fault c.in_err-left.ensures.finished
    (omega (arith, inv.held some, ap length is.held)) (omega (arith, any, inv.less))
    )

pub loop-progress-smaller : goal.loop-progress-smaller
loop-progress-smaller g c = c.in_ok-left.ensures.shorter

pub loop-progress-preserved : goal.loop-progress-preserved
loop-progress-preserved g c =
    let inv = c.loop-progress.invariant in
    let mid = c.loop-progress in
    let some : 0 < length mid.rest.held.items = let n = some_len (vec_len mid.rest.held) c.loop-progress-test.ensures in omega (
      arith,
      n,
      mid.rest.held.ok,
    ) in
    record {
      on = λ front is.
          GoesOn-then g.S.Sink.begins g.S.Sink.steps g.S.Sink.refuses g.S.Sink.failed c.args.progress.now mid.progress
          c.finish_once.new.progress front c.args.bytes.now mid.left.now c.args.sink.now mid.sink
          c.finish_once.new.sink mid.rest c.finish_once.new.rest (inv.on front is) some c.in_ok-left.left.now c.in_ok-left.ensures.finished;
      held = λ still. inv.held some;
      counted = c.in_ok-left.ensures.counted;
      sound = c.in_ok-left.ensures.sound;
      begun = c.in_ok-left.ensures.begun;
      less = omega (arith, c.in_ok-left.ensures.less, inv.less);
      room = KeepsRoom-then c.args.rest.now mid.rest c.finish_once.new.rest _ _ _ inv.room c.in_ok-left.ensures.room;
      kept = λ header e. c.in_ok-left.ensures.kept header (inv.kept header e);
    }

pub returns-clause-finished : goal.returns-clause-finished
returns-clause-finished g c front is = c.loop-progress.invariant.on front is

pub returns-in_err-left-clause-full : goal.returns-in_err-left-clause-full
returns-in_err-left-clause-full g c e =
    let p = err_from_is_err_and c.from_residual.result c.from_residual.ensures.1 in
    NeedsGrowth-from c.args.rest.now c.loop-progress.rest _ _ c.loop-progress.invariant.room
    (c.in_err-left.ensures.full (rw (p.1, p.2) at e))

pub returns-clause-room : goal.returns-clause-room
returns-clause-room g c = c.loop-progress.invariant.room

pub returns-clause-sound : goal.returns-clause-sound
returns-clause-sound g c = c.loop-progress.invariant.sound

pub returns-clause-less : goal.returns-clause-less
returns-clause-less g c = c.loop-progress.invariant.less

pub returns-clause-counted : goal.returns-clause-counted
returns-clause-counted g c = c.loop-progress.invariant.counted

pub returns-clause-begun : goal.returns-clause-begun
returns-clause-begun g c = c.loop-progress.invariant.begun

pub returns-clause-kept : goal.returns-clause-kept
returns-clause-kept g c = c.loop-progress.invariant.kept

pub returns-in_err-left-clause-kept : goal.returns-in_err-left-clause-kept
returns-in_err-left-clause-kept g c header e = c.in_err-left.ensures.kept header (c.loop-progress.invariant.kept header e)
