use Rattle.std.proofs.Common.{Some, None}
use Rattle.hprof_heap.specs.HeapFacts.{facts_of}
use Rattle.hprof_naming.proofs.Namings.{of_text}
use Rattle.hprof_meaning.specs.Judgements.{AreJudged, IsClassJudged, IsJudged}
use Rattle.hprof_meaning.proofs.JudgedNames.{class_judged_by}
use Rattle.hprof_meaning.proofs.judging.judge_class.Goals as goal

pub returns-in-Some : goal.returns-in-Some
returns-in-Some c = λ word meant are.
    let facts = facts_of c.args.heap.now in
    let name = c.in-Some.name in
    let new = c.judge_name.new.judged in
    of_text (λ is. IsJudged facts word (Some name) is × AreJudged facts word new)
    (λ is. IsClassJudged facts word c.args.class is × AreJudged facts word new) c.judge_name.result
    (λ is both. (
      class_judged_by facts c.holds_of_heap.ensures.agree word c.args.class (Some name) is (c.in-Some.ensures facts c.requires)
          both.0,
      both.1,
    )) (c.judge_name.ensures word meant are)

pub returns-in-None : goal.returns-in-None
returns-in-None c = λ word meant are.
    let facts = facts_of c.args.heap.now in
    of_text (λ is. IsJudged facts word None is)
    (λ is. IsClassJudged facts word c.args.class is × AreJudged facts word c.args.judged.now) c.judge_label.result
    (λ is judged. (
      class_judged_by facts c.holds_of_heap.ensures.agree word c.args.class None is (c.in-None.ensures facts c.requires) judged,
      are,
    )) (c.judge_label.ensures word meant)
