use Rattle.std.proofs.Common.{◌∙◌, ap, List, ℕ, ◌++◌}
use Rattle.std.proofs.lemmas.Result.{err_from_is_err_and}
use Rattle.hprof_segments.specs.Writer.{held_bytes}
use Rattle.hprof_segments.proofs.Takes.{next_comes, next_stops, next_held, next_alone}
use Rattle.hprof_segments.proofs.segment_writer.SegmentWriter.take_next.Goals as goal

pub returns-in_err-write_held-clause-taken : goal.returns-in_err-write_held-clause-taken
returns-in_err-write_held-clause-taken g c = λ start subs h.
    let r = c.from_residual.result in
    let p = err_from_is_err_and r c.from_residual.ensures.1 in
    next_stops start _ _ (held_bytes c.args.self.now) _ subs c.args.spelled.now r p.0 p.1 h c.requires.full
    c.in_err-write_held.ensures.bytes

pub returns-then-spelled-gt-MOST_IN_SEGMENT-clause-taken : goal.returns-then-spelled-gt-MOST_IN_SEGMENT-clause-taken
returns-then-spelled-gt-MOST_IN_SEGMENT-clause-taken g c = λ start subs h.
    let spelled = c.args.spelled.now in
    next_alone start _ _ (held_bytes c.write_held.new.self) subs spelled c.write_segment.result
    (next_comes start _ _ (held_bytes c.args.self.now) subs spelled h c.requires.full c.in_ok-write_held.ensures.bytes)
    c.if-spelled-gt-MOST_IN_SEGMENT.true c.in_ok-write_held.ensures.empty c.write_segment.ensures.bytes

pub returns-clause-taken : goal.returns-clause-taken
returns-clause-taken g c = λ start subs h.
    let spelled = c.args.spelled.now in
    next_held start _ (held_bytes c.hold.new.self) subs spelled
    (next_comes start _ _ (held_bytes c.args.self.now) subs spelled h c.requires.full c.in_ok-write_held.ensures.bytes)
    c.requires.sub.0 (c.hold.ensures ∙ ap (λ (held : List ℕ). held ++ spelled) c.in_ok-write_held.ensures.empty)
