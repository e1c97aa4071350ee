-- Lines that are heard and answered, one after the other.
use Rattle.std.proofs.Common.{◌≡◌, ◌≢◌, ◌⊎◌, ℕ, ◌<◌, ◌≤◌, List, [], ◌∷◌, ◌++◌, length, take, Option, Result, Ok, Err, refl, sym, ap}
use Rattle.std.proofs.Common.{subst, ◌∙◌, inl, inr, append_assoc, append-nil, arith}
use Rattle.std.specs.Prelude.{IfErr, ⊤}
use Rattle.std.specs.Io.KnownBytes.{Appends, Keeps}
use Rattle.std.proofs.KnownBytes.{Appends-nil, Appends-trans, Appends-kept}
use Rattle.std.proofs.lemmas.List.{length-take, nil_from_length}
use Rattle.hprof_questions.specs.declared.dialogue.Course.{Course}
use Rattle.hprof_questions.specs.declared.dialogue.Course.TheVariants as courses
use Rattle.hprof_questions.specs.declared.question.Question.{Question}
use Rattle.hprof_questions.specs.declared.question.Question.TheVariants as questions
use Rattle.hprof_questions.specs.declared.dialogue_fault.DialogueFault.{DialogueFault}
use Rattle.hprof_questions.specs.declared.dialogue_fault.DialogueFault.TheVariants as stops
use Rattle.hprof_questions.specs.Answering.{AreAnswers, IsLineAnswer, IsOfWriter, TakesQuestion}
use Rattle.hprof_questions.specs.Asked.{Asks, NoneQuits, Quits}
use Rattle.hprof_questions.specs.Dialogue.{AnswersBefore, AnswersFront, AnswersLines, AnswersSome, AnswersStopped, AreLinesToQuit}
use Rattle.hprof_questions.specs.Dialogue.{AreOpenLines, Finishes, Heard}
use Rattle.hprof_questions.specs.Lines.{AreFirstLines, AreLines, AreTaken, IsBeforeFeed}
use Rattle.hprof_questions.proofs.Taking.{ended, ended_asks, ended_quits, first_line, no_quit, none_ended, none_more}
use Rattle.hprof_questions.proofs.Taking.{taken_byte, taken_line, taken_none, taken_open, taken_quit}

-- nothing was written
nothing_written : (now new : Option (List ℕ)) → new ≡ now → Appends now new []
nothing_written now new same = subst (λ (held : Option (List ℕ)). Appends now held []) (sym same) (Appends-nil now)

module _ (IsAnswer : Question → List ℕ → Type 0) where
  -- the answers to some lines of which none ends the dialogue, and then to others
  pub answers_then : (lines more : List (List ℕ)) (text other : List ℕ) → NoneQuits lines → AreAnswers IsAnswer lines text
      → AreAnswers IsAnswer more other → AreAnswers IsAnswer (lines ++ more) (text ++ other)
  answers_then [] more text other none are too = subst (λ (l : List ℕ). AreAnswers IsAnswer more (l ++ other)) (sym are) too
  answers_then (line ∷ lines) more text other none (inl (quits, e)) too = absurd (none.0 quits)
  answers_then (line ∷ lines) more text other none (inr (no_quit, answer, rest, is, are, e)) too = inr (
    no_quit,
    answer,
    rest ++ other,
    is,
    answers_then lines more rest other none.1 are too,
    ap (λ (l : List ℕ). l ++ other) e ∙ append_assoc answer rest other,
  )

  -- the answer to one line more
  answers_more : (lines : List (List ℕ)) (line text answer : List ℕ) → NoneQuits lines → (Quits line → ⊥)
      → AreAnswers IsAnswer lines text → IsLineAnswer IsAnswer line answer → AreAnswers IsAnswer (lines ++ line ∷ []) (text ++ answer)
  answers_more lines line text answer none no_quit are is =
      answers_then lines (line ∷ []) text answer none are (inr (no_quit, answer, [], is, refl, sym (append-nil answer)))

  -- one line more ends the dialogue
  answers_quit : (lines : List (List ℕ)) (line text : List ℕ) → NoneQuits lines → Quits line → AreAnswers IsAnswer lines text
      → AreAnswers IsAnswer (lines ++ line ∷ []) text
  answers_quit lines line text none quits are = subst (AreAnswers IsAnswer (lines ++ line ∷ [])) (append-nil text)
      (answers_then lines (line ∷ []) text [] none are (inl (quits, refl)))

  -- before the first byte
  pub heard_none : (start : Option (List ℕ)) → Heard IsAnswer [] start start []
  heard_none start = record { taken = taken_none; text = []; are_answers = refl; appended = Appends-nil start }

  module _ (bytes : List ℕ) (start now : Option (List ℕ)) (kept : List ℕ) (heard : Heard IsAnswer bytes start now kept) where
    -- a byte more of a line
    pub heard_byte : (byte : ℕ) (next : List ℕ) → byte ≢ 10
        → ((rest : List ℕ) → kept ≡ take 4098 rest → next ≡ take 4098 (rest ++ byte ∷ []))
        → Heard IsAnswer (bytes ++ byte ∷ []) start now next
    heard_byte byte next other keeps = record {
      taken = taken_byte bytes kept heard.taken byte next other keeps;
      text = heard.text;
      are_answers = heard.are_answers;
      appended = heard.appended;
    }

    -- a line ended, and was taken
    module _ (question : Question)
        (asks : (before line : List ℕ) → kept ≡ take 4098 before → IsBeforeFeed before line → Asks line question) where
      abbrev line_ended : List ℕ
      line_ended = ended bytes kept heard.taken question asks

      line_asks : Asks line_ended question
      line_asks = ended_asks bytes kept heard.taken question asks

      -- it was answered
      pub heard_line : (new : Option (List ℕ)) → TakesQuestion IsAnswer question now new (Ok courses.Open) → (next : List ℕ) → next ≡ []
          → Heard IsAnswer (bytes ++ 10 ∷ []) start new next
      heard_line new (other, answer, is, appends) next empty = record {
        taken = taken_line bytes kept heard.taken question asks other next empty;
        text = heard.text ++ answer;
        are_answers = answers_more heard.taken.lines line_ended heard.text answer heard.taken.none
            (no_quit line_ended question line_asks other) heard.are_answers (record { question = question; asks = line_asks; is = is });
        appended = Appends-trans start now new heard.text answer heard.appended appends;
      }

      -- its answer stopped
      abbrev front_of_last : (more : List ℕ) (new : Option (List ℕ)) → question ≢ questions.Quit → (answer : List ℕ)
          → IsAnswer question answer → (n : ℕ) → n ≤ length answer → Appends now new (take n answer)
          → AnswersFront IsAnswer ⊥ (bytes ++ 10 ∷ more) start new
      front_of_last more new other answer is n within appends = record {
        lines = heard.taken.lines;
        last = line_ended;
        taken = inl (more, first_line bytes kept heard.taken question asks more);
        none = none_ended bytes kept heard.taken question asks other;
        text = heard.text;
        are_answers = heard.are_answers;
        answer = answer;
        is_answer = record { question = question; asks = line_asks; is = is };
        count = n;
        within = within;
        appended = Appends-trans start now new heard.text (take n answer) heard.appended appends;
      }

      pub heard_stop : (more : List ℕ) (new : Option (List ℕ)) (stop : DialogueFault) → TakesQuestion IsAnswer question now new (Err stop)
          → AnswersStopped IsAnswer ⊥ (bytes ++ 10 ∷ more) start new stop
      heard_stop more new (stops.Lost loss) (other, answer, is, same) =
          (front_of_last more new other answer is 0 (omega arith) (nothing_written now new same), refl)
      heard_stop more new (stops.Questions fault) (other, answer, is, front) =
          inr (front_of_last more new other answer is front.0 front.1 front.2)
      heard_stop more new (stops.Write fault) (other, answer, is, front) =
          inr (front_of_last more new other answer is front.0 front.1 front.2)
      heard_stop more new stops.OutOfMemory (other, answer, is, front) =
          inr (front_of_last more new other answer is front.0 front.1 front.2)

      -- it ended the dialogue
      pub heard_quit : (more : List ℕ) (new : Option (List ℕ)) → TakesQuestion IsAnswer question now new (Ok courses.Ended)
          → AnswersLines IsAnswer AreLinesToQuit (bytes ++ 10 ∷ more) start new
      heard_quit more new (quit, same) = record {
        lines = heard.taken.lines ++ line_ended ∷ [];
        taken = taken_quit bytes kept heard.taken question asks more quit;
        text = heard.text;
        are_answers = answers_quit heard.taken.lines line_ended heard.text heard.taken.none
            (ended_quits bytes kept heard.taken question asks quit) heard.are_answers;
        appended = subst (λ (held : Option (List ℕ)). Appends start held heard.text) (sym same) heard.appended;
      }

    -- nothing more was heard, nor written
    pub heard_still : (new : Option (List ℕ)) → Keeps now new → Heard IsAnswer bytes start new kept
    heard_still new keeps = record {
      taken = heard.taken;
      text = heard.text;
      are_answers = heard.are_answers;
      appended = Appends-kept start now new heard.text heard.appended keeps;
    }

    -- the lines so far are answered
    pub heard_taken : (IsEnd : Type 0) (new : Option (List ℕ)) → Keeps now new → AnswersLines IsAnswer (AreTaken IsEnd) bytes start new
    heard_taken IsEnd new keeps = record {
      lines = heard.taken.lines;
      taken = inl (heard.taken.rest, heard.taken.first);
      text = heard.text;
      are_answers = heard.are_answers;
      appended = Appends-kept start now new heard.text heard.appended keeps;
    }

    -- memory was wanted behind them, or the writer failed
    pub heard_hindered : (new : Option (List ℕ)) (stop : DialogueFault) → Keeps now new → (stop ≡ stops.OutOfMemory) ⊎ IsOfWriter stop
        → AnswersStopped IsAnswer ⊥ bytes start new stop
    heard_hindered new stops.OutOfMemory keeps why = inl (heard_taken ⊥ new keeps)
    heard_hindered new (stops.Write fault) keeps why = inl (heard_taken ⊥ new keeps)
    heard_hindered new (stops.Lost loss) keeps (inl same) = absurd cc
    heard_hindered new (stops.Lost loss) keeps (inr writes) = absurd writes
    heard_hindered new (stops.Questions fault) keeps (inl same) = absurd cc
    heard_hindered new (stops.Questions fault) keeps (inr writes) = absurd writes

    pub heard_open : AnswersLines IsAnswer AreOpenLines bytes start now
    heard_open = record {
      lines = heard.taken.lines;
      taken = taken_open bytes kept heard.taken;
      text = heard.text;
      are_answers = heard.are_answers;
      appended = heard.appended;
    }

    -- nothing is behind the last line feed
    pub heard_all : length kept ≡ 0 → AnswersLines IsAnswer AreLines bytes start now
    heard_all none =
        let taken = heard.taken in
        let empty : taken.rest ≡ [] =
        nil_from_length taken.rest (omega (arith, none, ap length taken.kept_is, length-take 4098 taken.rest)) in
        record {
          lines = taken.lines;
          taken = inl (subst (AreFirstLines bytes taken.lines) empty taken.first);
          text = heard.text;
          are_answers = heard.are_answers;
          appended = heard.appended;
        }

    module _ (some : 0 < length kept) (question : Question) (asks : (line : List ℕ) → kept ≡ take 4098 line → Asks line question) where
      abbrev unended : List ℕ
      unended = heard.taken.rest

      abbrev before : List (List ℕ)
      before = heard.taken.lines

      unended_asks : Asks unended question
      unended_asks = asks unended heard.taken.kept_is

      all_lines : AreLines bytes (before ++ unended ∷ [])
      all_lines = inr (
        before,
        unended,
        refl,
        heard.taken.first,
        (omega (arith, some, ap length heard.taken.kept_is, length-take 4098 unended), heard.taken.no_feed),
      )

      abbrev front_of_rest : (new : Option (List ℕ)) → question ≢ questions.Quit → (answer : List ℕ) → IsAnswer question answer
          → (n : ℕ) → n ≤ length answer → Appends now new (take n answer) → AnswersFront IsAnswer ⊤ bytes start new
      front_of_rest new other answer is n within appends = record {
        lines = before;
        last = unended;
        taken = inr (tt, all_lines);
        none = none_more before unended heard.taken.none (no_quit unended question unended_asks other);
        text = heard.text;
        are_answers = heard.are_answers;
        answer = answer;
        is_answer = record { question = question; asks = unended_asks; is = is };
        count = n;
        within = within;
        appended = Appends-trans start now new heard.text (take n answer) heard.appended appends;
      }

      -- what is behind the last line feed was answered, or ended the dialogue, or the answer stopped
      pub heard_last : (r : Result Course DialogueFault) (new : Option (List ℕ)) → TakesQuestion IsAnswer question now new r
          → Finishes IsAnswer bytes start new r
      heard_last (Ok courses.Open) new (other, answer, is, appends) = record {
        lines = before ++ unended ∷ [];
        taken = all_lines;
        text = heard.text ++ answer;
        are_answers = answers_more before unended heard.text answer heard.taken.none (no_quit unended question unended_asks other)
            heard.are_answers (record { question = question; asks = unended_asks; is = is });
        appended = Appends-trans start now new heard.text answer heard.appended appends;
      }
      heard_last (Ok courses.Ended) new (quit, same) = record {
        lines = before ++ unended ∷ [];
        taken = all_lines;
        text = heard.text;
        are_answers = answers_quit before unended heard.text heard.taken.none (subst (Asks unended) quit unended_asks) heard.are_answers;
        appended = subst (λ (held : Option (List ℕ)). Appends start held heard.text) (sym same) heard.appended;
      }
      heard_last (Err (stops.Lost loss)) new (other, answer, is, same) =
          (front_of_rest new other answer is 0 (omega arith) (nothing_written now new same), refl)
      heard_last (Err (stops.Questions fault)) new (other, answer, is, front) =
          inr (front_of_rest new other answer is front.0 front.1 front.2)
      heard_last (Err (stops.Write fault)) new (other, answer, is, front) =
          inr (front_of_rest new other answer is front.0 front.1 front.2)
      heard_last (Err stops.OutOfMemory) new (other, answer, is, front) =
          inr (front_of_rest new other answer is front.0 front.1 front.2)

  -- nothing more was written
  pub lines_still : (IsTaken : List ℕ → List (List ℕ) → Type 0) (bytes : List ℕ) (start now new : Option (List ℕ)) → Keeps now new
      → AnswersLines IsAnswer IsTaken bytes start now → AnswersLines IsAnswer IsTaken bytes start new
  lines_still IsTaken bytes start now new keeps all = record {
    lines = all.lines;
    taken = all.taken;
    text = all.text;
    are_answers = all.are_answers;
    appended = Appends-kept start now new all.text all.appended keeps;
  }

  abbrev front_still : (IsEnd : Type 0) (bytes : List ℕ) (start now new : Option (List ℕ)) → Keeps now new
      → AnswersFront IsAnswer IsEnd bytes start now → AnswersFront IsAnswer IsEnd bytes start new
  front_still IsEnd bytes start now new keeps front = record {
    lines = front.lines;
    last = front.last;
    taken = front.taken;
    none = front.none;
    text = front.text;
    are_answers = front.are_answers;
    answer = front.answer;
    is_answer = front.is_answer;
    count = front.count;
    within = front.within;
    appended = Appends-kept start now new (front.text ++ take front.count front.answer) front.appended keeps;
  }

  some_still : (IsEnd : Type 0) (bytes : List ℕ) (start now new : Option (List ℕ)) → Keeps now new
      → AnswersSome IsAnswer IsEnd bytes start now → AnswersSome IsAnswer IsEnd bytes start new
  some_still IsEnd bytes start now new keeps (inl all) = inl (lines_still (AreTaken IsEnd) bytes start now new keeps all)
  some_still IsEnd bytes start now new keeps (inr front) = inr (front_still IsEnd bytes start now new keeps front)

  -- whatever it stopped at, some of the answers were written
  some_stopped : (IsEnd : Type 0) (bytes : List ℕ) (start now : Option (List ℕ)) (stop : DialogueFault)
      → AnswersStopped IsAnswer IsEnd bytes start now stop → AnswersSome IsAnswer IsEnd bytes start now
  some_stopped IsEnd bytes start now (stops.Lost loss) before = inr before.0
  some_stopped IsEnd bytes start now (stops.Questions fault) some = some
  some_stopped IsEnd bytes start now (stops.Write fault) some = some
  some_stopped IsEnd bytes start now stops.OutOfMemory some = some

  stopped_still : (IsEnd : Type 0) (bytes : List ℕ) (start now new : Option (List ℕ)) (stop : DialogueFault) → Keeps now new
      → AnswersStopped IsAnswer IsEnd bytes start now stop → AnswersStopped IsAnswer IsEnd bytes start new stop
  stopped_still IsEnd bytes start now new (stops.Lost loss) keeps before =
      (front_still IsEnd bytes start now new keeps before.0, before.1)
  stopped_still IsEnd bytes start now new (stops.Questions fault) keeps some = some_still IsEnd bytes start now new keeps some
  stopped_still IsEnd bytes start now new (stops.Write fault) keeps some = some_still IsEnd bytes start now new keeps some
  stopped_still IsEnd bytes start now new stops.OutOfMemory keeps some = some_still IsEnd bytes start now new keeps some

  -- all was passed on behind it, or the writer failed
  pub stopped_passed : (IsEnd : Type 0) (bytes : List ℕ) (start now new : Option (List ℕ)) (stop last : DialogueFault) → Keeps now new
      → (last ≡ stop) ⊎ IsOfWriter last → AnswersStopped IsAnswer IsEnd bytes start now stop
      → AnswersStopped IsAnswer IsEnd bytes start new last
  stopped_passed IsEnd bytes start now new stop last keeps (inl same) stopped =
      subst (AnswersStopped IsAnswer IsEnd bytes start new) (sym same) (stopped_still IsEnd bytes start now new stop keeps stopped)
  stopped_passed IsEnd bytes start now new stop (stops.Write fault) keeps (inr writes) stopped =
      some_still IsEnd bytes start now new keeps (some_stopped IsEnd bytes start now stop stopped)
  stopped_passed IsEnd bytes start now new stop (stops.Lost loss) keeps (inr writes) stopped = absurd writes
  stopped_passed IsEnd bytes start now new stop (stops.Questions fault) keeps (inr writes) stopped = absurd writes
  stopped_passed IsEnd bytes start now new stop stops.OutOfMemory keeps (inr writes) stopped = absurd writes

  -- the same, where more is known of the end
  lines_for : (IsEnd Ends : Type 0) → (IsEnd → Ends) → (bytes : List ℕ) (lines : List (List ℕ)) → AreTaken IsEnd bytes lines
      → AreTaken Ends bytes lines
  lines_for IsEnd Ends ends bytes lines (inl first) = inl first
  lines_for IsEnd Ends ends bytes lines (inr whole) = inr (ends whole.0, whole.1)

  abbrev front_for : (IsEnd Ends : Type 0) → (IsEnd → Ends) → (bytes : List ℕ) (start now : Option (List ℕ))
      → AnswersFront IsAnswer IsEnd bytes start now → AnswersFront IsAnswer Ends bytes start now
  front_for IsEnd Ends ends bytes start now front = record {
    lines = front.lines;
    last = front.last;
    taken = lines_for IsEnd Ends ends bytes (front.lines ++ front.last ∷ []) front.taken;
    none = front.none;
    text = front.text;
    are_answers = front.are_answers;
    answer = front.answer;
    is_answer = front.is_answer;
    count = front.count;
    within = front.within;
    appended = front.appended;
  }

  pub some_for : (IsEnd Ends : Type 0) → (IsEnd → Ends) → (bytes : List ℕ) (start now : Option (List ℕ))
      → AnswersSome IsAnswer IsEnd bytes start now → AnswersSome IsAnswer Ends bytes start now
  some_for IsEnd Ends ends bytes start now (inl all) = inl (record {
    lines = all.lines;
    taken = lines_for IsEnd Ends ends bytes all.lines all.taken;
    text = all.text;
    are_answers = all.are_answers;
    appended = all.appended;
  })
  some_for IsEnd Ends ends bytes start now (inr front) = inr (front_for IsEnd Ends ends bytes start now front)

  pub before_for : (IsEnd Ends : Type 0) → (IsEnd → Ends) → (bytes : List ℕ) (start now : Option (List ℕ))
      → AnswersBefore IsAnswer IsEnd bytes start now → AnswersBefore IsAnswer Ends bytes start now
  before_for IsEnd Ends ends bytes start now before = (front_for IsEnd Ends ends bytes start now before.0, before.1)

  -- all lines are answered, and all is passed on, or the writer failed
  pub flushes_all : {A : Type 0} (r : Result A DialogueFault) (bytes : List ℕ) (start now new : Option (List ℕ))
      → AnswersLines IsAnswer AreLines bytes start now → Keeps now new → IfErr r IsOfWriter → Finishes IsAnswer bytes start new r
  flushes_all (Ok done) bytes start now new all keeps writes = lines_still AreLines bytes start now new keeps all
  flushes_all (Err (stops.Write fault)) bytes start now new all keeps writes = inl (record {
    lines = all.lines;
    taken = inr (tt, all.taken);
    text = all.text;
    are_answers = all.are_answers;
    appended = Appends-kept start now new all.text all.appended keeps;
  })
  flushes_all (Err (stops.Lost loss)) bytes start now new all keeps writes = absurd writes
  flushes_all (Err (stops.Questions fault)) bytes start now new all keeps writes = absurd writes
  flushes_all (Err stops.OutOfMemory) bytes start now new all keeps writes = absurd writes

  -- the lines up to one that ends the dialogue are some that were taken
  pub quit_taken : (IsEnd : Type 0) (bytes : List ℕ) (start now : Option (List ℕ)) → AnswersLines IsAnswer AreLinesToQuit bytes start now
      → AnswersLines IsAnswer (AreTaken IsEnd) bytes start now
  quit_taken IsEnd bytes start now all = record {
    lines = all.lines;
    taken = inl (all.taken.rest, all.taken.first);
    text = all.text;
    are_answers = all.are_answers;
    appended = all.appended;
  }
