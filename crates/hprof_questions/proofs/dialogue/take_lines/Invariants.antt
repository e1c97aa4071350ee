use Rattle.std.proofs.Common.{◌≡◌, ◌≤◌, vec_capacity}
use Rattle.hprof_devices.specs.declared.health.Health.TheVariants.{Well}
use Rattle.hprof_questions.proofs.Dialogues.{SoFar}
use Rattle.hprof_questions.proofs.dialogue.take_lines.Given as goal

-- what came so far is heard
abbrev pub invariant-turns : goal.invariant-turns
invariant-turns g l = record {
  so_far : SoFar (g.A.Answers.about l.answers) (g.A.Answers.is_answer l.answers) g.Q.Asker.left g.W.Target.written l.fn.questions
      l.fn.target l.questions l.target l.line.items;
  asking : g.Q.Asker.health l.questions ≡ Well;
  well : g.W.Target.health l.target ≡ Well;
  keeps : g.A.Answers.keeps l.answers l.cache;
  room : 4098 ≤ vec_capacity l.line;
  pulls : l._turn ≤ g.Q.Asker.pulls l.questions;
}
