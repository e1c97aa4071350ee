use Rattle.std.proofs.Common.{List, ℕ, sym, subst}
use Rattle.hprof_stream.specs.Walking.{Walks}
use Rattle.hprof_stream.proofs.Stepping.{Halts-here, Halts-then, Walks-on, walk_keeps}
use Rattle.hprof_stream.proofs.Walks.{Walks-none, Walks-counted}
use Rattle.hprof_stream.proofs.progress.Progress.walk_within.Goals as goal

pub loop-progress-init : goal.loop-progress-init
loop-progress-init g c = record {
  walked = Walks-none g.S.Sink.begins g.S.Sink.steps c.args.self.now.limits.max_item c.args.self.now
      c.args.bytes.now c.args.sink.now;
  header = c.requires.header;
  counted = c.requires.counted;
  begun = c.requires.begun;
}

pub loop-progress-preserved : goal.loop-progress-preserved
loop-progress-preserved g c =
    let from = c.args.self.now in
    let now = c.loop-progress.progress in
    let next = c.step_sub.new.self in
    let bytes = c.loop-progress.rest.now in
    let rest = c.split_at.result.1.now in
    let sink = c.loop-progress.sink in
    let given = c.step_sub.new.sink in
    let inv = c.loop-progress.invariant in
    let step = rw c.in-Ok-Some.field-0-is at c.in-Ok-Some.ensures.step in
    let over = subst (λ (r : List ℕ). Walks g.S.Sink.begins g.S.Sink.steps now.limits.max_item now bytes sink next r given)
    (sym c.split_at.ensures.back) step.0 in
    record {
      walked = Walks-on g.S.Sink.begins g.S.Sink.steps g.S.Sink.refuses g.S.Sink.failed from now next c.args.bytes.now bytes rest
          c.args.sink.now sink given inv.walked over;
      header = walk_keeps g.S.Sink.begins g.S.Sink.steps g.S.Sink.refuses g.S.Sink.failed now.limits.max_item now next bytes rest sink
          given c.args.header over inv.header;
      counted = Walks-counted g.S.Sink.begins g.S.Sink.steps now.limits.max_item now next bytes rest sink given over inv.counted;
      begun = c.in-Ok-Some.ensures.begun;
    }

pub returns-in-Err-clause-walk : goal.returns-in-Err-clause-walk
returns-in-Err-clause-walk g c =
    let from = c.args.self.now in
    let now = c.loop-progress.progress in
    let next = c.step_sub.new.self in
    let rest = c.loop-progress.rest.now in
    let sink = c.loop-progress.sink in
    let given = c.step_sub.new.sink in
    Halts-then g.S.Sink.begins g.S.Sink.steps g.S.Sink.refuses g.S.Sink.failed from now next c.args.bytes.now rest c.args.sink.now
    sink given c.in-Err.fault c.loop-progress.invariant.walked
    (Halts-here g.S.Sink.begins g.S.Sink.steps g.S.Sink.refuses g.S.Sink.failed now next rest sink given c.in-Err.fault
    c.in-Err.ensures.step)
