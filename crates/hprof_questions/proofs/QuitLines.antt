-- What stands behind a line that ends the dialogue.
use Rattle.std.proofs.Common.{◌≡◌, ℕ, List, [], ◌∷◌, ◌++◌, Option, subst, sym, ◌∙◌, append_assoc}
use Rattle.hprof_questions.specs.declared.question.Question.{Question}
use Rattle.hprof_questions.specs.Answering.{AreAnswers}
use Rattle.hprof_questions.specs.Dialogue.{AnswersLines, AreLinesToQuit}
use Rattle.hprof_questions.specs.Lines.{AreLines}
use Rattle.hprof_questions.proofs.LineLemmas.{first_extended}
use Rattle.hprof_questions.proofs.OneLine.{lines_behind, some_lines}
use Rattle.hprof_questions.proofs.OneText.{answers_ended, answers_front}

-- whatever it is, all lines are answered
pub quit_answers : (IsAnswer : Question → List ℕ → Type 0) (bytes more : List ℕ) (start now : Option (List ℕ))
    → AnswersLines IsAnswer AreLinesToQuit bytes start now → AnswersLines IsAnswer AreLines (bytes ++ more) start now
quit_answers IsAnswer bytes more start now all =
    let quit = all.taken in
    let others = some_lines (quit.rest ++ more) in
    let before = answers_front IsAnswer quit.before [] quit.last all.text quit.quits
    (subst (λ (lines : List (List ℕ)). AreAnswers IsAnswer lines all.text) quit.is all.are_answers) in
    let are : quit.before ++ quit.last ∷ others.0 ≡ all.lines ++ others.0 =
    sym (append_assoc quit.before (quit.last ∷ []) others.0) ∙ sym (λ i. quit.is i ++ others.0) in
    record {
      lines = all.lines ++ others.0;
      taken = lines_behind (bytes ++ more) all.lines (quit.rest ++ more) others.0
          (first_extended bytes all.lines quit.rest more quit.first) others.1;
      text = all.text;
      are_answers = subst (λ (lines : List (List ℕ)). AreAnswers IsAnswer lines all.text) are
          (answers_ended IsAnswer quit.before others.0 quit.last all.text quit.quits before);
      appended = all.appended;
    }
