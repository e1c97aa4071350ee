use Rattle.std.proofs.Common.{arith, subst, sym, List, ℕ, ◌++◌, ◌∷◌, []}
use Rattle.hprof_segments.specs.Taking.{HasTaken}
use Rattle.hprof_segments.specs.Writer.{held_bytes}
use Rattle.hprof_segments.proofs.Takes.{taken_more}
use Rattle.hprof_segments.proofs.segment_writer.SegmentWriter.take.Goals as goal

pub returns-clause-taken : goal.returns-clause-taken
returns-clause-taken g c = λ start subs h.
    subst (λ (held : List ℕ). HasTaken start (g.W.Target.written c.args.target.now) held (subs ++ c.args.spelled.now ∷ []))
    (sym c.hold.ensures)
    (taken_more start _ (held_bytes c.args.self.now) subs c.args.spelled.now h c.requires.sub.0 (omega arith))
