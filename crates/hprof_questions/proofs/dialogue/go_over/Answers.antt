use Rattle.std.proofs.Common.{◌≡◌, ℕ, ◌+◌, ◌<◌, ◌++◌, ◌∷◌, [], List, length, take, drop, get_or, refl, sym, ap, subst, ◌∙◌}
use Rattle.std.proofs.Common.{append_assoc, add-one, arith, Ok}
use Rattle.std.proofs.lemmas.Result.{err_from_is_err_and}
use Rattle.std.proofs.lemmas.List.{take_more, take-append-drop}
use Rattle.std.proofs.Math.Seq.{drop-cons}
use Rattle.hprof_questions.specs.declared.dialogue.Course.{Course}
use Rattle.hprof_questions.specs.declared.dialogue.Course.TheVariants.{Ended, Open}
use Rattle.hprof_questions.specs.Asked.{Asks}
use Rattle.hprof_questions.specs.Lines.{IsBeforeFeed}
use Rattle.hprof_questions.specs.Answering.{EndsAtQuit, TakesQuestion}
use Rattle.hprof_questions.specs.Dialogue.{AnswersLines, AnswersStopped, AreLinesToQuit, Heard, TakesLines}
use Rattle.hprof_questions.proofs.Hearing.{heard_byte, heard_line, heard_quit, heard_stop}
use Rattle.hprof_questions.proofs.Taking.{some_quit, taken_byte, taken_line}
use Rattle.hprof_questions.proofs.dialogue.go_over.Goals as goal
use Rattle.hprof_questions.proofs.dialogue.go_over.Goals.{then-byte-eq10+in_ok-take_question+in_default, else-byte-eq10}

drop_at : (piece : List ℕ) (place : ℕ) → place < length piece → drop place piece ≡ get_or piece place 0 ∷ drop (place + 1) piece
drop_at piece place within = rw (add-one, drop-cons piece place 0) refl

-- the bytes so far, that at the place, and those behind it
split_at : (bytes piece : List ℕ) (place byte : ℕ) → place < length piece → get_or piece place 0 ≡ byte
    → (bytes ++ take place piece) ++ byte ∷ drop (place + 1) piece ≡ bytes ++ piece
split_at bytes piece place byte within is =
    append_assoc bytes (take place piece) (byte ∷ drop (place + 1) piece)
    ∙ ap (λ (l : List ℕ). bytes ++ (take place piece ++ l))
    (ap (λ (b : ℕ). b ∷ drop (place + 1) piece) (sym is) ∙ sym (drop_at piece place within))
    ∙ ap (λ (l : List ℕ). bytes ++ l) (take-append-drop place piece)

more_at : (bytes piece : List ℕ) (place byte : ℕ) → place < length piece → get_or piece place 0 ≡ byte
    → (bytes ++ take place piece) ++ byte ∷ [] ≡ bytes ++ take (place + 1) piece
more_at bytes piece place byte within is =
    append_assoc bytes (take place piece) (byte ∷ [])
    ∙ ap (λ (l : List ℕ). bytes ++ l) (ap (λ (b : ℕ). take place piece ++ b ∷ []) (sym is) ∙ sym (take_more piece place 0 within))

pub returns-in_err-take_question-clause-bytes : goal.returns-in_err-take_question-clause-bytes
returns-in_err-take_question-clause-bytes g c = λ heap about bytes start heard.
    let IA = g.A.Answers.is_answer c.args.answers.now heap in
    let piece = c.args.piece.now in
    let place = c.loop-byte.byte-index in
    let p = err_from_is_err_and c.from_residual.result c.from_residual.ensures.1 in
    let new = g.W.Target.written c.take_question.new.target in
    let stops = heard_stop IA (bytes ++ take place piece) start (g.W.Target.written c.loop-byte.target) c.loop-byte.line.items
    (c.loop-byte.invariant.heard heap about bytes start heard) c.ended_question-question.result
    (λ before line is is_line. c.ended_question-question.ensures before line (c.deref.ensures.value ∙ is) is_line)
    (drop (place + 1) piece) new c.in_err-take_question.field-0.0 (c.in_err-take_question.ensures.takes heap about) in
    rw (p.1, p.2) (subst (λ (l : List ℕ). AnswersStopped IA ⊥ l start new c.in_err-take_question.field-0.0)
    (split_at bytes piece place 10 c.loop-byte-test.true c.if-byte-eq10.true) stops)

-- a line ended the dialogue
pub returns-in-Ended-clause-bytes : goal.returns-in-Ended-clause-bytes
returns-in-Ended-clause-bytes g c = λ heap about bytes start heard.
    let IA = g.A.Answers.is_answer c.args.answers.now heap in
    let piece = c.args.piece.now in
    let place = c.loop-byte.byte-index in
    let new = g.W.Target.written c.take_question.new.target in
    let old = g.W.Target.written c.loop-byte.target in
    let ended : TakesQuestion IA c.ended_question-question.result old new (Ok Ended) =
    rw c.in-Ended.is at (c.in_ok-take_question.ensures.takes heap about) in
    subst (λ (l : List ℕ). AnswersLines IA AreLinesToQuit l start new)
    (split_at bytes piece place 10 c.loop-byte-test.true c.if-byte-eq10.true)
    (heard_quit IA (bytes ++ take place piece) start old c.loop-byte.line.items (c.loop-byte.invariant.heard heap about bytes start heard)
    c.ended_question-question.result
    (λ before line is is_line. c.ended_question-question.ensures before line (c.deref.ensures.value ∙ is) is_line)
    (drop (place + 1) piece) new ended)

pub returns-in-Ended-clause-takes : goal.returns-in-Ended-clause-takes
returns-in-Ended-clause-takes g c = λ bytes taken.
    let piece = c.args.piece.now in
    let place = c.loop-byte.byte-index in
    let ends : EndsAtQuit c.ended_question-question.result (Ok Ended) = rw c.in-Ended.is at c.in_ok-take_question.ensures.ends in
    subst (λ (l : List ℕ). (lines : List (List ℕ)) × AreLinesToQuit l lines)
    (split_at bytes piece place 10 c.loop-byte-test.true c.if-byte-eq10.true)
    (some_quit (bytes ++ take place piece) c.loop-byte.line.items (c.loop-byte.invariant.takes bytes taken)
    c.ended_question-question.result
    (λ before line is is_line. c.ended_question-question.ensures before line (c.deref.ensures.value ∙ is) is_line)
    (drop (place + 1) piece) ends)

-- a line was taken, and did not
is_open : (course : Course) → (course ≡ Ended → ⊥) → course ≡ Open
is_open Open other = refl
is_open Ended other = absurd (other refl)

pub loop-byte-preserved : goal.loop-byte-preserved
loop-byte-preserved g c =
    let piece = c.args.piece.now in
    let place = c.loop-byte.byte-index in
    let old = g.W.Target.written c.loop-byte.target in
    elim c.if-byte-eq10.branch [
      | then-byte-eq10+in_ok-take_question+in_default w ↦
          let is_on = is_open w.in_ok-take_question.field-0 w.in_default.not-Ended in
          let question = w.ended_question-question.result in
          let asks : (before line : List ℕ) → c.loop-byte.line.items ≡ take 4098 before → IsBeforeFeed before line → Asks line question =
          λ before line same is_line. w.ended_question-question.ensures before line (w.deref.ensures.value ∙ same) is_line in
          record {
            heard = λ heap about bytes start is.
                let IA = g.A.Answers.is_answer c.args.answers.now heap in
                let taken : TakesQuestion IA question old (g.W.Target.written w.take_question.new.target) (Ok Open) =
                subst (λ (course : Course). TakesQuestion IA question old (g.W.Target.written w.take_question.new.target) (Ok course))
                is_on (w.in_ok-take_question.ensures.takes heap about) in
                subst (λ (l : List ℕ). Heard IA l start (g.W.Target.written c.if-byte-eq10.target) c.if-byte-eq10.line.items)
                (more_at bytes piece place 10 c.loop-byte-test.true w.if-byte-eq10.true)
                (rw (w.target-is, w.line-is) (heard_line IA (bytes ++ take place piece) start old c.loop-byte.line.items
                (c.loop-byte.invariant.heard heap about bytes start is) question asks
                (g.W.Target.written w.take_question.new.target) taken w.clear.new.self.items w.clear.ensures.items));
            takes = λ bytes is.
                let ends : EndsAtQuit question (Ok Open) =
                subst (λ (course : Course). EndsAtQuit question (Ok course)) is_on w.in_ok-take_question.ensures.ends in
                subst (λ (l : List ℕ). TakesLines l c.if-byte-eq10.line.items)
                (more_at bytes piece place 10 c.loop-byte-test.true w.if-byte-eq10.true)
                (rw w.line-is (taken_line (bytes ++ take place piece) c.loop-byte.line.items (c.loop-byte.invariant.takes bytes is)
                question asks ends w.clear.new.self.items w.clear.ensures.items));
            well = rw w.target-is w.in_ok-take_question.ensures.health;
            keeps = rw w.cache-is w.take_question.ensures.kept;
            room = rw w.line-is (omega (arith, w.clear.ensures.capacity, c.loop-byte.invariant.room));
          }
      | else-byte-eq10 w ↦ record {
        heard = λ heap about bytes start is.
            let IA = g.A.Answers.is_answer c.args.answers.now heap in
            subst (λ (l : List ℕ). Heard IA l start (g.W.Target.written c.if-byte-eq10.target) c.if-byte-eq10.line.items)
            (more_at bytes piece place (get_or piece place 0) c.loop-byte-test.true refl)
            (rw (w.target-is, w.line-is) (heard_byte IA (bytes ++ take place piece) start old c.loop-byte.line.items
            (c.loop-byte.invariant.heard heap about bytes start is) (get_or piece place 0) w.keep.new.line.items w.if-byte-eq10.false
            w.keep.ensures.kept));
        takes = λ bytes is.
            subst (λ (l : List ℕ). TakesLines l c.if-byte-eq10.line.items)
            (more_at bytes piece place (get_or piece place 0) c.loop-byte-test.true refl)
            (rw w.line-is (taken_byte (bytes ++ take place piece) c.loop-byte.line.items (c.loop-byte.invariant.takes bytes is)
            (get_or piece place 0) w.keep.new.line.items w.if-byte-eq10.false w.keep.ensures.kept));
        well = rw w.target-is c.loop-byte.invariant.well;
        keeps = rw w.cache-is c.loop-byte.invariant.keeps;
        room = rw w.line-is w.keep.ensures.room;
      }
    ]
