use Rattle.std.proofs.Common.{◌∙◌, arith}
use Rattle.hprof_questions.proofs.KeptLines.{kept_full, kept_more}
use Rattle.hprof_questions.proofs.dialogue.keep.Goals as goal

pub returns-then-len-lt-KEPT-clause-kept : goal.returns-then-len-lt-KEPT-clause-kept
returns-then-len-lt-KEPT-clause-kept c = λ rest is.
    c.push_reserved.ensures.items ∙ kept_more 4098 c.args.line.now.items rest c.args.byte is (omega arith)

pub returns-else-len-lt-KEPT-clause-kept : goal.returns-else-len-lt-KEPT-clause-kept
returns-else-len-lt-KEPT-clause-kept c = λ rest is. kept_full 4098 c.args.line.now.items rest c.args.byte is (omega arith)
