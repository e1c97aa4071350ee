use Rattle.std.proofs.Common.{◌≡◌, ◌⊎◌, ◌<◌, ◌++◌, length, Option, None, true, is_some, inl, inr, sym, subst, ◌∙◌, arith, rules}
use Rattle.std.specs.Vec.{vec_len}
use Rattle.hprof_items.specs.declared.header.Header.{Header}
use Rattle.hprof_stream.specs.Walking.{IsBegun, seen}
use Rattle.hprof_stream.proofs.Holding.{some_len, no_len}
use Rattle.hprof_stream.proofs.HeldOn.{Behind-held, Behind-over, ReadsOn-kept, ReadsOn-walk, none_left, counted_behind}
use Rattle.hprof_stream.proofs.Holding.{none_is}
use Rattle.hprof_stream.proofs.Stepping.{all_keeps}
use Rattle.hprof_stream.proofs.Behind.{IsCounted-less}
use Rattle.hprof_stream.proofs.held.read_on.Goals as goal
use Rattle.hprof_stream.proofs.held.read_on.Goals.{then-is_some-via-then-is_some, then-is_some-via-else-is_some+then-not-is_empty}

pub returns-then-is_some-clause-read : goal.returns-then-is_some-clause-read
returns-then-is_some-clause-read g c front is =
    let from = c.args.progress.now in
    let mid = c.finish_held.new in
    let to = c.pass_over-left.new in
    let bytes = c.args.bytes.now in
    let left = c.in_ok-left.left.now in
    let behind = c.pass_over-left.result.now in
    let was = Behind-held g.S.Sink.begins g.S.Sink.steps g.S.Sink.refuses g.S.Sink.failed from mid.progress front bytes left
    c.args.sink.now mid.sink mid.rest (c.in_ok-left.ensures.finished front is) in
    let over = Behind-over g.S.Sink.begins g.S.Sink.steps g.S.Sink.refuses g.S.Sink.failed from mid.progress to.progress
    (front ++ bytes) left behind c.args.sink.now mid.sink mid.rest to.rest was c.pass_over-left.ensures.bytes c.in_ok-left.ensures.done
    (c.pass_over-left.ensures.passed, c.pass_over-left.ensures.none) in
    let keeps : (is_some to.rest.passing ≡ true) ⊎ (0 < length to.rest.held.items) = elim c.then-is_some.branch [
      | then-is_some-via-then-is_some w ↦ inl (sym c.is_some.ensures ∙ w.if-is_some.true)
      | then-is_some-via-else-is_some+then-not-is_empty w ↦ inr (let n =
          some_len (vec_len to.rest.held) w.if-not-is_empty.ensures in omega (arith, n, to.rest.held.ok))
    ] in
    ReadsOn-kept g.S.Sink.begins g.S.Sink.steps g.S.Sink.refuses g.S.Sink.failed from to.progress front bytes behind c.args.sink.now
    mid.sink to.rest over.0 (none_left g.S.Sink.begins g.S.Sink.steps g.S.Sink.refuses g.S.Sink.failed to.rest behind over.1 keeps)

pub returns-then-is_some-clause-begun : goal.returns-then-is_some-clause-begun
returns-then-is_some-clause-begun g c =
    subst (λ (h : Option Header). IsBegun h (g.S.Sink.begun c.finish_held.new.sink)) (sym c.pass_over-left.ensures.header)
    c.in_ok-left.ensures.begun

pub walk-requires-clause-begun : goal.walk-requires-clause-begun
walk-requires-clause-begun g c =
    subst (λ (h : Option Header). IsBegun h (g.S.Sink.begun c.finish_held.new.sink)) (sym c.pass_over-left.ensures.header)
    c.in_ok-left.ensures.begun

pub returns-clause-read : goal.returns-clause-read
returns-clause-read g c front is =
    let from = c.args.progress.now in
    let mid = c.finish_held.new in
    let to = c.pass_over-left.new in
    let bytes = c.args.bytes.now in
    let left = c.in_ok-left.left.now in
    let behind = c.pass_over-left.result.now in
    let was = Behind-held g.S.Sink.begins g.S.Sink.steps g.S.Sink.refuses g.S.Sink.failed from mid.progress front bytes left
    c.args.sink.now mid.sink mid.rest (c.in_ok-left.ensures.finished front is) in
    let over = Behind-over g.S.Sink.begins g.S.Sink.steps g.S.Sink.refuses g.S.Sink.failed from mid.progress to.progress
    (front ++ bytes) left behind c.args.sink.now mid.sink mid.rest to.rest was c.pass_over-left.ensures.bytes c.in_ok-left.ensures.done
    (c.pass_over-left.ensures.passed, c.pass_over-left.ensures.none) in
    let none : to.rest.passing ≡ None = none_is to.rest.passing (sym c.is_some.ensures ∙ c.if-is_some.false) in
    let empty : length to.rest.held.items ≡ 0 = let n =
    no_len (vec_len to.rest.held) c.if-not-is_empty.ensures in omega (arith, n, to.rest.held.ok) in
    ReadsOn-walk g.S.Sink.begins g.S.Sink.steps g.S.Sink.refuses g.S.Sink.failed from to.progress c.walk.new.self front bytes behind
    c.args.sink.now mid.sink c.walk.new.sink to.rest c.clear.new.self over.0 empty none
    c.walk.result c.walk.ensures.walk c.clear.ensures.held (c.clear.ensures.passing ∙ none) c.clear.ensures.walk

pub returns-clause-counted : goal.returns-clause-counted
returns-clause-counted g c =
    let to = c.pass_over-left.new in
    let none : to.rest.passing ≡ None = none_is to.rest.passing (sym c.is_some.ensures ∙ c.if-is_some.false) in
    counted_behind g.S.Sink.begins g.S.Sink.steps g.S.Sink.refuses g.S.Sink.failed to.progress c.walk.new.self
    c.pass_over-left.result.now c.finish_held.new.sink c.walk.new.sink c.clear.new.self c.walk.result c.walk.ensures.walk
    (IsCounted-less to.progress _ (length c.pass_over-left.result.now) c.pass_over-left.ensures.counted (omega arith))
    c.clear.ensures.held (c.clear.ensures.passing ∙ none)

pub returns-clause-kept : goal.returns-clause-kept
returns-clause-kept g c header e =
    all_keeps g.S.Sink.begins g.S.Sink.steps g.S.Sink.refuses g.S.Sink.failed c.pass_over-left.new.progress c.walk.new.self
    c.pass_over-left.result.now c.finish_held.new.sink c.walk.new.sink (seen c.walk.result) header c.walk.ensures.walk
    (c.pass_over-left.ensures.header ∙ c.in_ok-left.ensures.kept header e)

pub returns-then-is_some-clause-counted : goal.returns-then-is_some-clause-counted
returns-then-is_some-clause-counted g c = search rules

pub returns-then-is_some-clause-full : goal.returns-then-is_some-clause-full
returns-then-is_some-clause-full g c = search rules

pub returns-then-is_some-clause-kept : goal.returns-then-is_some-clause-kept
returns-then-is_some-clause-kept g c = search rules

pub returns-then-is_some-clause-less : goal.returns-then-is_some-clause-less
returns-then-is_some-clause-less g c = search rules

pub returns-then-is_some-clause-room : goal.returns-then-is_some-clause-room
returns-then-is_some-clause-room g c = search rules

pub returns-then-is_some-clause-sound : goal.returns-then-is_some-clause-sound
returns-then-is_some-clause-sound g c = search rules
