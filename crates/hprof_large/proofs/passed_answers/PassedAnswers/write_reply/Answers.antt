use Rattle.std.proofs.Common.{◌∙◌, ap, inl, Result, subst, sym}
use Rattle.hprof_heap.specs.HeapFacts.{facts_of, size_of}
use Rattle.hprof_questions.specs.declared.question.Question.{Question}
use Rattle.hprof_questions.specs.declared.question.Question.TheVariants as questions
use Rattle.hprof_questions.specs.declared.report.Report.{Report}
use Rattle.hprof_questions.specs.declared.dialogue_fault.DialogueFault.{DialogueFault}
use Rattle.hprof_questions.specs.Answering.{LeavesWriter, TellsLoss, WritesAnswer}
use Rattle.hprof_ask.specs.HeapAnswers.{IsReply, reply_without_report}
use Rattle.hprof_large.specs.Stops.{IsLostBy}
use Rattle.hprof_large.proofs.Answering.{answered, leaves_writer, line_reply, loses_nothing}
use Rattle.hprof_large.proofs.passed_answers.PassedAnswers.write_reply.Goals as goal

pub returns-in-Report-Heap-clause-bytes : goal.returns-in-Report-Heap-clause-bytes
returns-in-Report-Heap-clause-bytes g c = λ whole is.
    let it = c.write_cached.ensures.bytes whole is in
    let asked = c.in-Report-Heap in (
      it.0,
      subst (λ (question : Question). IsReply c.args.self.now.summaries.now.items whole.ids whole.facts question it.0)
          (sym (asked.is ∙ ap (λ (report : Report). questions.Report report) (rw asked.is at asked.field-0-is))) (inl it.1),
      it.2,
    )

pub returns-in-Report : goal.returns-in-Report
returns-in-Report g c =
    record {
      bytes = λ whole is.
          let it = c.write_report.ensures.bytes whole is in (
            it.0,
            subst (λ (question : Question). IsReply c.args.self.now.summaries.now.items whole.ids whole.facts question it.0)
                (sym c.in-Report.is) it.1,
            it.2,
          );
      health = c.write_report.ensures.health;
      lost = c.write_report.ensures.lost;
      texts = c.requires.texts;
      references = c.write_report.ensures.references;
    }

-- no report is written
pub returns-in_default : goal.returns-in_default
returns-in_default g c =
    let self = c.args.self.now in
    let wrote = c.write_reply_without_report in
    let old = g.W.Target.written c.args.target.now in
    let new = g.W.Target.written wrote.new.target in
    let health = g.W.Target.health wrote.new.target in
    let text = reply_without_report c.args.question in
    let Loses = IsLostBy (g.O.Objects.tells self.objects
    (size_of self.heap.now) (facts_of self.heap.now)) in
    record {
      bytes = λ whole is. (
        text,
        line_reply self.summaries.now.items whole.ids whole.facts c.args.question c.in_default.not-Report,
        subst (λ (r : Result (Unit {0}) DialogueFault). WritesAnswer old new r text) (sym c.answer_of.ensures)
            (answered old new health wrote.result text wrote.ensures.health wrote.ensures.bytes),
      );
      health = subst (λ (r : Result (Unit {0}) DialogueFault). LeavesWriter r health) (sym c.answer_of.ensures)
          (leaves_writer wrote.result health wrote.ensures.health);
      lost = subst (λ (r : Result (Unit {0}) DialogueFault). TellsLoss Loses r) (sym c.answer_of.ensures)
          (loses_nothing Loses wrote.result);
      texts = c.requires.texts;
      references = c.requires.references;
    }
