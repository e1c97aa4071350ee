use Rattle.std.proofs.Common.{◌≡◌, ◌∙◌, ap, codes, refl, subst, sym}
use Rattle.hprof_lines.specs.Stopping.{WritesText}
use Rattle.hprof_questions.specs.declared.question.Question.TheVariants as questions
use Rattle.hprof_questions.specs.declared.subject.Misnamed.{Misnamed}
use Rattle.hprof_questions.specs.declared.subject.Misnamed.TheVariants as misnamed
use Rattle.hprof_ask.specs.HeapAnswers.{reply_without_report}
use Rattle.hprof_ask.proofs.answers.write_reply_without_report.Goals as goal

misnamed_line : (fault : Misnamed) → reply_without_report (questions.Misnamed fault) ≡ codes "not an identifier\n"
misnamed_line misnamed.NoIdentifier = refl

pub returns-in-Misnamed-NoIdentifier-clause-bytes : goal.returns-in-Misnamed-NoIdentifier-clause-bytes
returns-in-Misnamed-NoIdentifier-clause-bytes g c =
    let it = c.write_str-in-Misnamed-NoIdentifier in
    subst (WritesText (g.W.Target.written c.args.target.now) (g.W.Target.written it.new.target) it.result)
    (sym (ap reply_without_report c.in-Misnamed-NoIdentifier.is ∙ misnamed_line c.in-Misnamed-NoIdentifier.field-0)) it.ensures.bytes

pub returns-in-NotUnderstood-clause-bytes : goal.returns-in-NotUnderstood-clause-bytes
returns-in-NotUnderstood-clause-bytes g c =
    let it = c.write_str-in-NotUnderstood in
    subst (WritesText (g.W.Target.written c.args.target.now) (g.W.Target.written it.new.target) it.result)
    (sym (ap reply_without_report c.in-NotUnderstood.is)) it.ensures.bytes
