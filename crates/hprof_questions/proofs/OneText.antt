-- The answers to lines are one text.
use Rattle.std.proofs.Common.{◌≡◌, ◌⊎◌, ℕ, List, [], ◌∷◌, ◌++◌, refl, sym, ap, ◌∙◌, inl, inr, append_assoc}
use Rattle.hprof_questions.specs.declared.question.Question.{Question}
use Rattle.hprof_questions.specs.declared.question.Question.TheVariants as questions
use Rattle.hprof_questions.specs.Same.{IsSame}
use Rattle.hprof_questions.specs.Answering.{AreAnswers, IsLineAnswer}
use Rattle.hprof_questions.specs.Asked.{Asks, NoneQuits, Quits}
use Rattle.hprof_questions.proofs.OneQuestion.{asks_once}
use Rattle.hprof_questions.proofs.SomeQuestion.{some_question}

module _ (IsAnswer : Question → List ℕ → Type 0)
    (once : (question same : Question) (one other : List ℕ) → IsSame question same → IsAnswer question one → IsAnswer same other
    → one ≡ other) where
  pub line_answer_once : (line one other : List ℕ) → IsLineAnswer IsAnswer line one → IsLineAnswer IsAnswer line other → one ≡ other
  line_answer_once line one other is is_too =
      once is.question is_too.question one other (asks_once line is.question is_too.question is.asks is_too.asks) is.is is_too.is

  pub answers_once : (lines : List (List ℕ)) (one other : List ℕ) → AreAnswers IsAnswer lines one → AreAnswers IsAnswer lines other
      → one ≡ other
  answers_once [] one other are are_too = are ∙ sym are_too
  answers_once (line ∷ lines) one other (inl (quits, e)) (inl (quits_too, e_too)) = e ∙ sym e_too
  answers_once (line ∷ lines) one other (inl (quits, e)) (inr are_too) = absurd (are_too.0 quits)
  answers_once (line ∷ lines) one other (inr are) (inl (quits, e)) = absurd (are.0 quits)
  answers_once (line ∷ lines) one other (inr (goes_on, answer, rest, is, are, e)) (inr too) =
      let first = line_answer_once line answer too.1 is too.3 in
      let later = answers_once lines rest too.2 are too.4 in
      e ∙ (λ i. first i ++ later i) ∙ sym too.5

-- the answers to two lists of lines are those to the one, of which none ends the dialogue, and then those to the other
pub answers_split : (IsAnswer : Question → List ℕ → Type 0) (lines more : List (List ℕ)) (text : List ℕ) → NoneQuits lines
    → AreAnswers IsAnswer (lines ++ more) text
    → (first : List ℕ) × (then : List ℕ) × AreAnswers IsAnswer lines first × AreAnswers IsAnswer more then × (text ≡ first ++ then)
answers_split IsAnswer [] more text none are = ([], text, refl, are, refl)
answers_split IsAnswer (line ∷ lines) more text none (inl (quits, e)) = absurd (none.0 quits)
answers_split IsAnswer (line ∷ lines) more text none (inr (goes_on, answer, rest, is, are, e)) =
    let it = answers_split IsAnswer lines more rest none.1 are in (
      answer ++ it.0,
      it.1,
      inr (goes_on, answer, it.0, is, it.2, refl),
      it.3,
      e ∙ ap (λ (l : List ℕ). answer ++ l) it.4 ∙ sym (append_assoc answer it.0 it.1),
    )

-- what stands behind a line that ends the dialogue is not answered
pub answers_front : (IsAnswer : Question → List ℕ → Type 0) (lines more : List (List ℕ)) (last text : List ℕ) → Quits last
    → AreAnswers IsAnswer (lines ++ last ∷ more) text → AreAnswers IsAnswer lines text
answers_front IsAnswer [] more last text quits (inl (quits_too, e)) = e
answers_front IsAnswer [] more last text quits (inr are) = absurd (are.0 quits)
answers_front IsAnswer (line ∷ lines) more last text quits (inl are) = inl are
answers_front IsAnswer (line ∷ lines) more last text quits (inr (goes_on, answer, rest, is, are, e)) =
    inr (goes_on, answer, rest, is, answers_front IsAnswer lines more last rest quits are, e)

pub answers_ended : (IsAnswer : Question → List ℕ → Type 0) (lines more : List (List ℕ)) (last text : List ℕ) → Quits last
    → AreAnswers IsAnswer lines text → AreAnswers IsAnswer (lines ++ last ∷ more) text
answers_ended IsAnswer [] more last text quits are = inl (quits, are)
answers_ended IsAnswer (line ∷ lines) more last text quits (inl are) = inl are
answers_ended IsAnswer (line ∷ lines) more last text quits (inr (goes_on, answer, rest, is, are, e)) =
    inr (goes_on, answer, rest, is, answers_ended IsAnswer lines more last rest quits are, e)

-- a line ends the dialogue, or does not
quits_or_not : (line : List ℕ) → Quits line ⊎ (Quits line → ⊥)
quits_or_not line = let it = some_question line in by it.0 it.1 where
  by : (question : Question) → Asks line question → Quits line ⊎ (Quits line → ⊥)
  by questions.Quit asks = inl asks
  by questions.Nothing asks = inr (λ quits. let no = asks_once line questions.Nothing questions.Quit asks quits in absurd cc)
  by questions.Help asks = inr (λ quits. let no = asks_once line questions.Help questions.Quit asks quits in absurd cc)
  by (questions.Report report) asks =
      inr (λ quits. let no = asks_once line (questions.Report report) questions.Quit asks quits in absurd cc)
  by (questions.Misnamed fault) asks =
      inr (λ quits. let no = asks_once line (questions.Misnamed fault) questions.Quit asks quits in absurd cc)
  by questions.NotUnderstood asks =
      inr (λ quits. let no = asks_once line questions.NotUnderstood questions.Quit asks quits in absurd cc)

-- and there is one
pub some_answers : (IsAnswer : Question → List ℕ → Type 0) → ((question : Question) → (text : List ℕ) × IsAnswer question text)
    → (lines : List (List ℕ)) → (text : List ℕ) × AreAnswers IsAnswer lines text
some_answers IsAnswer some [] = ([], refl)
some_answers IsAnswer some (line ∷ lines) = elim (quits_or_not line) [
  | inl quits ↦ ([], inl (quits, refl))
  | inr goes_on ↦
      let question = some_question line in
      let answer = some question.0 in
      let rest = some_answers IsAnswer some lines in (
        answer.0 ++ rest.0,
        inr (goes_on, answer.0, rest.0, record { question = question.0; asks = question.1; is = answer.1 }, rest.1, refl),
      )
]
