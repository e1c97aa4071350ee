use Rattle.std.proofs.Common.{[]}
use Rattle.hprof_questions.proofs.Dialogues.{ends_stopped, hindered, lost_passed}
use Rattle.hprof_questions.proofs.dialogue.converse.Goals as goal
use Rattle.std.proofs.KnownBytes.{Consumes-nil}
use Rattle.hprof_questions.proofs.Hearing.{heard_none}
use Rattle.hprof_questions.specs.declared.dialogue_fault.DialogueFault.TheVariants.{OutOfMemory}

-- there is no room for a piece of the questions
pub returns-in_default-clause-dialogue : goal.returns-in_default-clause-dialogue
returns-in_default-clause-dialogue g c = λ heap about.
    let was = c.args.questions.now in
    let before = c.args.target.now in
    let IA = g.A.Answers.is_answer c.args.answers.now heap in
    hindered IA g.Q.Asker.left g.Q.Asker.health g.Q.Asker.pulls g.W.Target.written g.W.Target.health was before was []
    (Consumes-nil (g.Q.Asker.left was)) before c.pass_on.new.target [] (heard_none IA (g.W.Target.written before))
    c.pass_on.ensures.bytes c.pass_on.result c.pass_on.ensures.stop c.pass_on.ensures.health

pub returns-in_default-clause-ends : goal.returns-in_default-clause-ends
returns-in_default-clause-ends g c =
    let was = c.args.questions.now in (
      [],
      Consumes-nil (g.Q.Asker.left was),
      ends_stopped g.Q.Asker.left g.Q.Asker.health g.Q.Asker.pulls g.W.Target.health was was c.pass_on.new.target [] c.pass_on.result
          c.requires.asking c.pass_on.ensures.health,
    )

pub returns-in_default-clause-lost : goal.returns-in_default-clause-lost
returns-in_default-clause-lost g c =
    lost_passed (g.A.Answers.loses c.args.answers.now) OutOfMemory c.pass_on.result tt c.pass_on.ensures.stop

-- nor for a line
pub returns-in_default-with_capacity-clause-dialogue : goal.returns-in_default-with_capacity-clause-dialogue
returns-in_default-with_capacity-clause-dialogue g c = λ heap about.
    let was = c.args.questions.now in
    let before = c.args.target.now in
    let IA = g.A.Answers.is_answer c.args.answers.now heap in
    let it = c.pass_on-in_default-with_capacity in
    hindered IA g.Q.Asker.left g.Q.Asker.health g.Q.Asker.pulls g.W.Target.written g.W.Target.health was before was []
    (Consumes-nil (g.Q.Asker.left was)) before it.new.target [] (heard_none IA (g.W.Target.written before))
    it.ensures.bytes it.result it.ensures.stop it.ensures.health

pub returns-in_default-with_capacity-clause-ends : goal.returns-in_default-with_capacity-clause-ends
returns-in_default-with_capacity-clause-ends g c =
    let was = c.args.questions.now in
    let it = c.pass_on-in_default-with_capacity in (
      [],
      Consumes-nil (g.Q.Asker.left was),
      ends_stopped g.Q.Asker.left g.Q.Asker.health g.Q.Asker.pulls g.W.Target.health was was it.new.target [] it.result
          c.requires.asking it.ensures.health,
    )

pub returns-in_default-with_capacity-clause-lost : goal.returns-in_default-with_capacity-clause-lost
returns-in_default-with_capacity-clause-lost g c =
    let it = c.pass_on-in_default-with_capacity in
    lost_passed (g.A.Answers.loses c.args.answers.now) OutOfMemory it.result tt it.ensures.stop
