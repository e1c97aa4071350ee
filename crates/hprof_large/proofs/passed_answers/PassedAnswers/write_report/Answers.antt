use Rattle.std.proofs.Common.{◌∙◌, ap, codes, inr, ℕ, List, Option, refl, Result, subst, sym}
use Rattle.hprof_heap.specs.HeapFacts.{facts_of, size_of}
use Rattle.hprof_passes.specs.declared.pass_fault.PassFault.TheVariants.{Sink}
use Rattle.hprof_engine.specs.declared.product.ProductFault.{ProductFault}
use Rattle.hprof_engine.specs.declared.product.ProductFault.TheVariants as writes
use Rattle.hprof_lines.specs.Stopping.{WritesText}
use Rattle.hprof_questions.specs.declared.dialogue_fault.DialogueFault.{DialogueFault}
use Rattle.hprof_questions.specs.Answering.{WritesAnswer}
use Rattle.hprof_large.proofs.Answering.{answered, lacks_class, lost, replied, stopped}
use Rattle.hprof_large.proofs.passed_answers.PassedAnswers.write_report.Goals as goal

pub returns-in-Ok-clause-bytes : goal.returns-in-Ok-clause-bytes
returns-in-Ok-clause-bytes g c =
    let self = c.args.self.now in
    replied self.heap.now (g.O.Objects.make_up self.objects)
    (g.met.O.Objects.whole self.objects) self.summaries.now.items g.W.Target.written g.W.Target.health c.args.target.now
    c.write_by_passes.new.target (g.O.Objects.agree self.objects (size_of self.heap.now) (facts_of self.heap.now))
    (g.O.Objects.tells self.objects (size_of self.heap.now)
    (facts_of self.heap.now)) c.args.report c.requires.well c.in-Ok.field-0 c.in-Ok.ensures.ends

pub returns-in-Err-Lost-clause-bytes : goal.returns-in-Err-Lost-clause-bytes
returns-in-Err-Lost-clause-bytes g c =
    let self = c.args.self.now in
    let it = c.in-Err-Lost in
    (lost self.heap.now (g.O.Objects.make_up self.objects)
    (g.met.O.Objects.whole self.objects) self.summaries.now.items g.W.Target.written g.W.Target.health c.args.target.now
    c.write_by_passes.new.target (g.O.Objects.agree self.objects (size_of self.heap.now) (facts_of self.heap.now))
    (g.O.Objects.tells self.objects (size_of self.heap.now)
    (facts_of self.heap.now)) c.args.report c.requires.well it.field-0 it.fault c.stop_of_pass_fault.result it.field-0-is
    c.stop_of_pass_fault.ensures it.ensures.ends).0

pub returns-in-Err-Sink-Write-clause-bytes : goal.returns-in-Err-Sink-Write-clause-bytes
returns-in-Err-Sink-Write-clause-bytes g c =
    let self = c.args.self.now in
    let it = c.in-Err-Sink-Write in
    (stopped self.heap.now (g.O.Objects.make_up self.objects)
    (g.met.O.Objects.whole self.objects) self.summaries.now.items g.W.Target.written g.W.Target.health c.args.target.now
    c.write_by_passes.new.target (g.O.Objects.agree self.objects (size_of self.heap.now) (facts_of self.heap.now))
    (g.O.Objects.tells self.objects (size_of self.heap.now)
    (facts_of self.heap.now)) c.args.report c.requires.well it.field-0 (writes.Write it.fault)
    (it.field-0-is ∙ ap (λ (stop : ProductFault). Sink stop) it.field-0-0-is) (λ refusal e. absurd cc) it.ensures.ends).0

pub returns-in-Err-Sink-OutOfMemory-clause-bytes : goal.returns-in-Err-Sink-OutOfMemory-clause-bytes
returns-in-Err-Sink-OutOfMemory-clause-bytes g c =
    let self = c.args.self.now in
    let it = c.in-Err-Sink-OutOfMemory in
    (stopped self.heap.now (g.O.Objects.make_up self.objects)
    (g.met.O.Objects.whole self.objects) self.summaries.now.items g.W.Target.written g.W.Target.health c.args.target.now
    c.write_by_passes.new.target (g.O.Objects.agree self.objects (size_of self.heap.now) (facts_of self.heap.now))
    (g.O.Objects.tells self.objects (size_of self.heap.now)
    (facts_of self.heap.now)) c.args.report c.requires.well it.field-0 writes.OutOfMemory
    (it.field-0-is ∙ ap (λ (stop : ProductFault). Sink stop) it.field-0-0-is) (λ refusal e. absurd cc) it.ensures.ends).0

-- no class has the name
pub returns-in-Err-Sink-Refused-clause-bytes : goal.returns-in-Err-Sink-Refused-clause-bytes
returns-in-Err-Sink-Refused-clause-bytes g c = λ whole is.
    let self = c.args.self.now in
    let it = c.in-Err-Sink-Refused in
    let lacks = lacks_class self.heap.now (g.O.Objects.make_up self.objects)
    (g.met.O.Objects.whole self.objects) self.summaries.now.items g.W.Target.written g.W.Target.health c.args.target.now
    c.write_by_passes.new.target (g.O.Objects.agree self.objects (size_of self.heap.now) (facts_of self.heap.now))
    (g.O.Objects.tells self.objects (size_of self.heap.now)
    (facts_of self.heap.now)) c.args.report c.requires.well it.field-0 it.field-0-0-0
    (it.field-0-is ∙ ap (λ (stop : ProductFault). Sink stop) it.field-0-0-is) it.ensures.ends in
    let text = codes "no class has this name\n" in
    let wrote = c.write_reply_without_report in
    let new = g.W.Target.written wrote.new.target in (
      text,
      inr (lacks.1 whole is, refl),
      subst (λ (r : Result (Unit {0}) DialogueFault).
          WritesAnswer (g.W.Target.written c.args.target.now) new r text) (sym c.answer_of.ensures)
          (answered (g.W.Target.written c.args.target.now) new (g.W.Target.health wrote.new.target) wrote.result text wrote.ensures.health
          (subst (λ (old : Option (List ℕ)). WritesText old new wrote.result text) (ap g.W.Target.written lacks.0) wrote.ensures.bytes)),
    )
