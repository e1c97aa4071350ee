use Rattle.std.proofs.Common.{ℕ, List, inl, inr, sym, subst}
use Rattle.std.proofs.lemmas.Result.{err_from_is_err_and}
use Rattle.hprof_stream.specs.Walking.{Walks}
use Rattle.hprof_stream.proofs.Stepping.{Halts-here, Halts-then, Walks-on, WalksAll-short}
use Rattle.hprof_stream.proofs.Walks.{Walks-none, Walks-counted}
use Rattle.hprof_stream.proofs.progress.Progress.walk.Goals as goal

pub loop-rest-init : goal.loop-rest-init
loop-rest-init g c = record {
  walked = Walks-none g.S.Sink.begins g.S.Sink.steps c.args.self.now.limits.max_item c.args.self.now
      c.args.bytes.now c.args.sink.now;
  counted = c.requires.counted;
  begun = c.requires.begun;
}

pub returns-in_err-rest-clause-walk : goal.returns-in_err-rest-clause-walk
returns-in_err-rest-clause-walk g c =
    let p = err_from_is_err_and c.from_residual.result c.from_residual.ensures.1 in
    rw (p.1, p.2) (Halts-then g.S.Sink.begins g.S.Sink.steps g.S.Sink.refuses g.S.Sink.failed c.args.self.now c.loop-rest.self
    c.walk_subs.new.self c.args.bytes.now c.loop-rest.rest.now c.args.sink.now c.loop-rest.sink c.walk_subs.new.sink
    c.in_err-rest.field-0.0 c.loop-rest.invariant.walked c.in_err-rest.ensures.walk)

pub returns-then-not-is_outside-clause-walk : goal.returns-then-not-is_outside-clause-walk
returns-then-not-is_outside-clause-walk g c =
    let subs = c.in_ok-rest.ensures.walk in (
      Walks-on g.S.Sink.begins g.S.Sink.steps g.S.Sink.refuses g.S.Sink.failed c.args.self.now c.loop-rest.self c.walk_subs.new.self
          c.args.bytes.now c.loop-rest.rest.now c.in_ok-rest.rest.now c.args.sink.now c.loop-rest.sink c.walk_subs.new.sink
          c.loop-rest.invariant.walked subs.0,
      elim subs.1 [
        | inl outside ↦
            let no = c.if-not-is_outside.true in
            let yes = c.is_outside.ensures.within outside in absurd cc
        | inr short ↦ short
      ],
    )

pub step_outside-requires-clause-room : goal.step_outside-requires-clause-room
step_outside-requires-clause-room g c = c.is_outside.ensures.room

pub step_outside-requires-clause-counted : goal.step_outside-requires-clause-counted
step_outside-requires-clause-counted g c =
    let now = c.loop-rest.self in
    Walks-counted g.S.Sink.begins g.S.Sink.steps now.limits.max_item now c.walk_subs.new.self c.loop-rest.rest.now c.in_ok-rest.rest.now
    c.loop-rest.sink c.walk_subs.new.sink c.in_ok-rest.ensures.walk.0 c.loop-rest.invariant.counted

pub returns-in_err-len-clause-walk : goal.returns-in_err-len-clause-walk
returns-in_err-len-clause-walk g c =
    let from = c.args.self.now in
    let mid = c.walk_subs.new.self in
    let next = c.step_outside.new.self in
    let left = c.in_ok-rest.rest.now in
    let sink = c.walk_subs.new.sink in
    let given = c.step_outside.new.sink in
    let fault = c.in_err-len.field-0.0 in
    let walked = Walks-on g.S.Sink.begins g.S.Sink.steps g.S.Sink.refuses g.S.Sink.failed from c.loop-rest.self mid
    c.args.bytes.now c.loop-rest.rest.now left c.args.sink.now c.loop-rest.sink sink c.loop-rest.invariant.walked
    c.in_ok-rest.ensures.walk.0 in
    let p = err_from_is_err_and c.from_residual-in_err-len.result c.from_residual-in_err-len.ensures.1 in
    rw (p.1, p.2) (Halts-then g.S.Sink.begins g.S.Sink.steps g.S.Sink.refuses g.S.Sink.failed from mid next c.args.bytes.now left
    c.args.sink.now sink given fault walked
    (Halts-here g.S.Sink.begins g.S.Sink.steps g.S.Sink.refuses g.S.Sink.failed mid next left sink given fault c.in_err-len.ensures.step))

pub returns-in_default-clause-walk : goal.returns-in_default-clause-walk
returns-in_default-clause-walk g c =
    let from = c.args.self.now in
    let mid = c.walk_subs.new.self in
    let left = c.in_ok-rest.rest.now in
    let sink = c.walk_subs.new.sink in
    let walked = Walks-on g.S.Sink.begins g.S.Sink.steps g.S.Sink.refuses g.S.Sink.failed from c.loop-rest.self mid
    c.args.bytes.now c.loop-rest.rest.now left c.args.sink.now c.loop-rest.sink sink c.loop-rest.invariant.walked
    c.in_ok-rest.ensures.walk.0 in
    WalksAll-short g.S.Sink.begins g.S.Sink.steps g.S.Sink.refuses g.S.Sink.failed from mid c.step_outside.new.self c.args.bytes.now left
    c.args.sink.now sink c.step_outside.new.sink walked (rw c.in_default.is at c.in_ok-len.ensures.step)

pub loop-rest-preserved : goal.loop-rest-preserved
loop-rest-preserved g c =
    let from = c.args.self.now in
    let now = c.loop-rest.self in
    let mid = c.walk_subs.new.self in
    let next = c.step_outside.new.self in
    let bytes = c.loop-rest.rest.now in
    let left = c.in_ok-rest.rest.now in
    let rest = c.split_at.result.1.now in
    let sink = c.walk_subs.new.sink in
    let given = c.step_outside.new.sink in
    let inv = c.loop-rest.invariant in
    let subs = c.in_ok-rest.ensures.walk.0 in
    let step = rw c.in-Some.is at c.in_ok-len.ensures.step in
    let over = subst (λ (r : List ℕ). Walks g.S.Sink.begins g.S.Sink.steps mid.limits.max_item mid left sink next r given)
    (sym c.split_at.ensures.back) step.0 in
    let walked = Walks-on g.S.Sink.begins g.S.Sink.steps g.S.Sink.refuses g.S.Sink.failed from now mid c.args.bytes.now bytes left
    c.args.sink.now c.loop-rest.sink sink inv.walked subs in
    let counted = Walks-counted g.S.Sink.begins g.S.Sink.steps now.limits.max_item now mid bytes left c.loop-rest.sink sink subs
    inv.counted in
    record {
      walked = Walks-on g.S.Sink.begins g.S.Sink.steps g.S.Sink.refuses g.S.Sink.failed from mid next c.args.bytes.now left rest
          c.args.sink.now sink given walked over;
      counted = Walks-counted g.S.Sink.begins g.S.Sink.steps mid.limits.max_item mid next left rest sink given over counted;
      begun = c.in_ok-len.ensures.begun;
    }
