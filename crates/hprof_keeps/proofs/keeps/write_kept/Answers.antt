use Rattle.std.proofs.Common.{subst, sym}
use Rattle.hprof_lines.specs.Stopping.{WritesText}
use Rattle.hprof_keeps.specs.Kept.{kept_text}
use Rattle.hprof_keeps.specs.declared.kept.Kept.{Kept}
use Rattle.hprof_keeps.proofs.keeps.write_kept.Goals as goal

pub returns-in-Weakly-clause-bytes : goal.returns-in-Weakly-clause-bytes
returns-in-Weakly-clause-bytes g c = λ found is.
    subst (λ (told : Kept). WritesText (g.W.Target.written c.args.target.now) (g.W.Target.written c.write_str.new.target)
    c.write_str.result (kept_text found c.args.retained.now c.args.id told)) (sym c.in-Weakly.is) c.write_str.ensures.bytes

pub returns-in-Nowise-clause-bytes : goal.returns-in-Nowise-clause-bytes
returns-in-Nowise-clause-bytes g c = λ found is.
    subst (λ (told : Kept). WritesText (g.W.Target.written c.args.target.now) (g.W.Target.written c.write_str-in-Nowise.new.target)
    c.write_str-in-Nowise.result (kept_text found c.args.retained.now c.args.id told)) (sym c.in-Nowise.is)
    c.write_str-in-Nowise.ensures.bytes
