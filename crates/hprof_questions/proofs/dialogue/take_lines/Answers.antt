use Rattle.std.proofs.Common.{◌<◌, ◌++◌, ℕ, [], length, take, sym, subst, arith, Err, Ok, inl, inr, append-nil}
use Rattle.std.specs.Io.KnownBytes.{Consumes}
use Rattle.std.proofs.KnownBytes.{Consumes-kept}
use Rattle.hprof_rows.specs.HeapValue.{HeapValue}
use Rattle.hprof_questions.specs.declared.dialogue.Course.{Course}
use Rattle.hprof_questions.specs.declared.dialogue.Course.TheVariants.{Ended}
use Rattle.hprof_questions.specs.Dialogue.{AnswersLines, AreLinesToQuit, GoesOver, Heard, TakesLines, TakesOn}
use Rattle.hprof_questions.proofs.Hearing.{stopped_passed}
use Rattle.hprof_questions.proofs.Dialogues.{came_more, ends_over, ends_stopped, finished, hindered, lost_none, lost_passed, may_read_on}
use Rattle.hprof_questions.proofs.Dialogues.{quit, so_far_flushed, so_far_more, so_far_none, stopped_within, unread}
use Rattle.hprof_questions.proofs.Taking.{taken_open}
use Rattle.hprof_questions.proofs.dialogue.take_lines.Goals as goal

-- the answers could not be flushed
pub returns-in-Err-clause-dialogue : goal.returns-in-Err-clause-dialogue
returns-in-Err-clause-dialogue g c = λ heap about.
    let so_far = c.turns.invariant.so_far in
    hindered (g.A.Answers.is_answer c.args.answers.now heap) g.Q.Asker.left g.Q.Asker.health g.Q.Asker.pulls g.W.Target.written
    g.W.Target.health c.args.questions.now c.args.target.now c.turns.questions so_far.bytes so_far.consumed c.turns.target
    c.flush_all.new.target c.turns.line.items (so_far.heard heap about) c.flush_all.ensures.bytes c.in-Err.stop
    (inr c.in-Err.ensures.writer) c.in-Err.ensures.health

pub returns-in-Err-clause-ends : goal.returns-in-Err-clause-ends
returns-in-Err-clause-ends g c =
    let so_far = c.turns.invariant.so_far in (
      so_far.bytes,
      so_far.consumed,
      ends_stopped g.Q.Asker.left g.Q.Asker.health g.Q.Asker.pulls g.W.Target.health c.args.questions.now c.turns.questions
          c.flush_all.new.target so_far.bytes c.in-Err.stop c.turns.invariant.asking c.in-Err.ensures.health,
    )

pub returns-in-Err-clause-lost : goal.returns-in-Err-clause-lost
returns-in-Err-clause-lost g c = lost_none (g.A.Answers.loses c.args.answers.now) (Err c.in-Err.stop) c.in-Err.ensures.writer

-- nor after as many pulls as can be counted
pub returns-in-Err-flush_all-clause-dialogue : goal.returns-in-Err-flush_all-clause-dialogue
returns-in-Err-flush_all-clause-dialogue g c = λ heap about.
    let so_far = c.turns.invariant.so_far in
    hindered (g.A.Answers.is_answer c.args.answers.now heap) g.Q.Asker.left g.Q.Asker.health g.Q.Asker.pulls g.W.Target.written
    g.W.Target.health c.args.questions.now c.args.target.now c.turns.questions so_far.bytes so_far.consumed c.turns.target
    c.flush_all-2.new.target c.turns.line.items (so_far.heard heap about) c.flush_all-2.ensures.bytes c.in-Err-flush_all.stop
    (inr c.in-Err-flush_all.ensures.writer) c.in-Err-flush_all.ensures.health

pub returns-in-Err-flush_all-clause-ends : goal.returns-in-Err-flush_all-clause-ends
returns-in-Err-flush_all-clause-ends g c =
    let so_far = c.turns.invariant.so_far in (
      so_far.bytes,
      so_far.consumed,
      ends_stopped g.Q.Asker.left g.Q.Asker.health g.Q.Asker.pulls g.W.Target.health c.args.questions.now c.turns.questions
          c.flush_all-2.new.target so_far.bytes c.in-Err-flush_all.stop c.turns.invariant.asking c.in-Err-flush_all.ensures.health,
    )

pub returns-in-Err-flush_all-clause-lost : goal.returns-in-Err-flush_all-clause-lost
returns-in-Err-flush_all-clause-lost g c =
    lost_none (g.A.Answers.loses c.args.answers.now) (Err c.in-Err-flush_all.stop) c.in-Err-flush_all.ensures.writer

-- all lines that ended are answered, and the answers were flushed
pub read_on-requires-clause-leave : goal.read_on-requires-clause-leave
read_on-requires-clause-leave g c =
    let About = g.A.Answers.about c.args.answers.now in
    let IA = g.A.Answers.is_answer c.args.answers.now in
    let left = g.Q.Asker.left in
    let written = g.W.Target.written in
    let was = c.args.questions.now in
    let before = c.args.target.now in
    let flushed = so_far_flushed About IA left written was before c.turns.questions c.turns.target c.turns.line.items
    c.turns.invariant.so_far c.flush_all.new.target c.flush_all.ensures.bytes in
    may_read_on About IA left written was before c.turns.questions c.flush_all.new.target c.turns.line.items flushed
    g.W.Flush.flushed g.Q.Asker.may_read c.requires.leave c.in_default.ensures.flushed

-- before the first turn
pub turns-init : goal.turns-init
turns-init g c = record {
  so_far = so_far_none (g.A.Answers.about c.args.answers.now) (g.A.Answers.is_answer c.args.answers.now) g.Q.Asker.left
      g.W.Target.written c.args.questions.now c.args.target.now c.args.line.now.items c.requires.empty;
  asking = c.requires.asking;
  well = c.requires.well;
  keeps = c.requires.kept;
  room = c.requires.room;
  pulls = omega arith;
}

-- the questions could not be read on
pub returns-in-Err-read_on-clause-dialogue : goal.returns-in-Err-read_on-clause-dialogue
returns-in-Err-read_on-clause-dialogue g c = λ heap about.
    let so_far = c.turns.invariant.so_far in
    unread (g.A.Answers.is_answer c.args.answers.now heap) g.Q.Asker.left g.Q.Asker.health g.Q.Asker.pulls g.W.Target.written
    g.W.Target.health c.args.questions.now c.args.target.now c.read_on.new.self so_far.bytes
    (Consumes-kept (g.Q.Asker.left c.args.questions.now) (g.Q.Asker.left c.turns.questions) (g.Q.Asker.left c.read_on.new.self)
    so_far.bytes so_far.consumed c.in-Err-read_on.ensures.bytes) c.turns.target c.flush_all.new.target c.turns.line.items
    (so_far.heard heap about) c.flush_all.ensures.bytes c.in-Err-read_on.fault

pub returns-in-Err-read_on-clause-ends : goal.returns-in-Err-read_on-clause-ends
returns-in-Err-read_on-clause-ends g c =
    let so_far = c.turns.invariant.so_far in (
      so_far.bytes,
      Consumes-kept (g.Q.Asker.left c.args.questions.now) (g.Q.Asker.left c.turns.questions) (g.Q.Asker.left c.read_on.new.self)
          so_far.bytes so_far.consumed c.in-Err-read_on.ensures.bytes,
      (
        (so_far.taken.lines, taken_open so_far.bytes c.turns.line.items so_far.taken),
        inl c.in-Err-read_on.ensures.health,
        c.in_default.ensures.health,
      ),
    )

-- nothing more came
pub returns-then-count-eq0-clause-dialogue : goal.returns-then-count-eq0-clause-dialogue
returns-then-count-eq0-clause-dialogue g c = λ heap about.
    let IA = g.A.Answers.is_answer c.args.answers.now heap in
    let About = g.A.Answers.about c.args.answers.now in
    let left = g.Q.Asker.left in
    let written = g.W.Target.written in
    let was = c.args.questions.now in
    let before = c.args.target.now in
    let so_far = so_far_flushed About (g.A.Answers.is_answer c.args.answers.now) left written was before c.turns.questions c.turns.target
    c.turns.line.items c.turns.invariant.so_far c.flush_all.new.target c.flush_all.ensures.bytes in
    let none = subst (λ (n : ℕ). Consumes (left c.turns.questions) (left c.read_on.new.self) (take n c.read_on.new.piece))
    c.if-count-eq0.true c.in-Ok.ensures.bytes in
    let came = subst (Consumes (left was) (left c.read_on.new.self)) (append-nil so_far.bytes) (came_more About
    (g.A.Answers.is_answer c.args.answers.now) left written was before c.turns.questions c.flush_all.new.target c.turns.line.items
    so_far c.read_on.new.self [] none) in
    let some : 0 < length c.read_on.new.piece = omega arith in
    finished IA left g.Q.Asker.health g.Q.Asker.pulls written g.W.Target.health was before c.read_on.new.self so_far.bytes came
    c.finish.new.target c.finish.result (c.in-Ok.ensures.end c.if-count-eq0.true some)
    (c.finish.ensures.bytes heap about so_far.bytes (written before)
    (subst (Heard IA so_far.bytes (written before) (written c.flush_all.new.target)) (sym c.deref.ensures.value)
    (so_far.heard heap about))) c.finish.ensures.health

pub returns-then-count-eq0-clause-ends : goal.returns-then-count-eq0-clause-ends
returns-then-count-eq0-clause-ends g c =
    let About = g.A.Answers.about c.args.answers.now in
    let left = g.Q.Asker.left in
    let written = g.W.Target.written in
    let was = c.args.questions.now in
    let before = c.args.target.now in
    let so_far = so_far_flushed About (g.A.Answers.is_answer c.args.answers.now) left written was before c.turns.questions c.turns.target
    c.turns.line.items c.turns.invariant.so_far c.flush_all.new.target c.flush_all.ensures.bytes in
    let none = subst (λ (n : ℕ). Consumes (left c.turns.questions) (left c.read_on.new.self) (take n c.read_on.new.piece))
    c.if-count-eq0.true c.in-Ok.ensures.bytes in
    let some : 0 < length c.read_on.new.piece = omega arith in (
      so_far.bytes ++ [],
      came_more About (g.A.Answers.is_answer c.args.answers.now) left written was before c.turns.questions c.flush_all.new.target
          c.turns.line.items so_far c.read_on.new.self [] none,
      ends_over left g.Q.Asker.health g.Q.Asker.pulls g.W.Target.health was c.read_on.new.self c.finish.new.target (so_far.bytes ++ [])
          c.finish.result (inl (c.in-Ok.ensures.end c.if-count-eq0.true some)) c.in-Ok.ensures.health c.finish.ensures.health,
    )

-- a line ended the dialogue
pub returns-in-Ok-Ended-clause-dialogue : goal.returns-in-Ok-Ended-clause-dialogue
returns-in-Ok-Ended-clause-dialogue g c = λ heap about.
    let IA = g.A.Answers.is_answer c.args.answers.now heap in
    let About = g.A.Answers.about c.args.answers.now in
    let left = g.Q.Asker.left in
    let written = g.W.Target.written in
    let was = c.args.questions.now in
    let before = c.args.target.now in
    let so_far = so_far_flushed About (g.A.Answers.is_answer c.args.answers.now) left written was before c.turns.questions c.turns.target
    c.turns.line.items c.turns.invariant.so_far c.flush_all.new.target c.flush_all.ensures.bytes in
    let piece = take c.in-Ok.count c.read_on.new.piece in
    let came = came_more About (g.A.Answers.is_answer c.args.answers.now) left written was before c.turns.questions
    c.flush_all.new.target c.turns.line.items so_far c.read_on.new.self piece c.in-Ok.ensures.bytes in
    let flush = c.flush_all-in-Ok-Ended in
    let ended : AnswersLines IA AreLinesToQuit (so_far.bytes ++ piece) (written before) (written c.go_over.new.target) =
    subst (λ (course : Course). GoesOver IA (so_far.bytes ++ piece) (written before) (written c.go_over.new.target)
    c.go_over.new.line.items (Ok course))
    c.in-Ok-Ended.field-0-is (c.in-Ok-Ended.ensures.bytes heap about so_far.bytes (written before) (so_far.heard heap about)) in
    quit IA left g.Q.Asker.health g.Q.Asker.pulls written g.W.Target.health was before c.read_on.new.self (so_far.bytes ++ piece) came
    c.go_over.new.target flush.new.target flush.result ended flush.ensures.bytes flush.ensures.writer

pub returns-in-Ok-Ended-clause-ends : goal.returns-in-Ok-Ended-clause-ends
returns-in-Ok-Ended-clause-ends g c =
    let About = g.A.Answers.about c.args.answers.now in
    let left = g.Q.Asker.left in
    let written = g.W.Target.written in
    let was = c.args.questions.now in
    let before = c.args.target.now in
    let so_far = so_far_flushed About (g.A.Answers.is_answer c.args.answers.now) left written was before c.turns.questions c.turns.target
    c.turns.line.items c.turns.invariant.so_far c.flush_all.new.target c.flush_all.ensures.bytes in
    let piece = take c.in-Ok.count c.read_on.new.piece in
    let came = came_more About (g.A.Answers.is_answer c.args.answers.now) left written was before c.turns.questions
    c.flush_all.new.target c.turns.line.items so_far c.read_on.new.self piece c.in-Ok.ensures.bytes in
    let flush = c.flush_all-in-Ok-Ended in
    let ended : TakesOn (so_far.bytes ++ piece) c.go_over.new.line.items (Ok Ended) =
    subst (λ (course : Course). TakesOn (so_far.bytes ++ piece) c.go_over.new.line.items (Ok course)) c.in-Ok-Ended.field-0-is
    (c.in-Ok-Ended.ensures.takes so_far.bytes so_far.taken) in (
      so_far.bytes ++ piece,
      came,
      ends_over left g.Q.Asker.health g.Q.Asker.pulls g.W.Target.health was c.read_on.new.self flush.new.target (so_far.bytes ++ piece)
          flush.result (inr ended) c.in-Ok.ensures.health flush.ensures.health,
    )

pub returns-in-Ok-Ended-clause-lost : goal.returns-in-Ok-Ended-clause-lost
returns-in-Ok-Ended-clause-lost g c =
    let flush = c.flush_all-in-Ok-Ended in
    lost_none (g.A.Answers.loses c.args.answers.now) flush.result flush.ensures.writer

-- an answer stopped
pub returns-in-Err-go_over-clause-dialogue : goal.returns-in-Err-go_over-clause-dialogue
returns-in-Err-go_over-clause-dialogue g c = λ heap about.
    let IA = g.A.Answers.is_answer c.args.answers.now heap in
    let About = g.A.Answers.about c.args.answers.now in
    let left = g.Q.Asker.left in
    let written = g.W.Target.written in
    let was = c.args.questions.now in
    let before = c.args.target.now in
    let so_far = so_far_flushed About (g.A.Answers.is_answer c.args.answers.now) left written was before c.turns.questions c.turns.target
    c.turns.line.items c.turns.invariant.so_far c.flush_all.new.target c.flush_all.ensures.bytes in
    let piece = take c.in-Ok.count c.read_on.new.piece in
    let came = came_more About (g.A.Answers.is_answer c.args.answers.now) left written was before c.turns.questions
    c.flush_all.new.target c.turns.line.items so_far c.read_on.new.self piece c.in-Ok.ensures.bytes in
    stopped_within IA left g.Q.Asker.health g.Q.Asker.pulls written g.W.Target.health was before c.read_on.new.self
    (so_far.bytes ++ piece) came c.pass_on.new.target c.pass_on.result
    (stopped_passed IA ⊥ (so_far.bytes ++ piece) (written before) (written c.go_over.new.target) (written c.pass_on.new.target)
    c.in-Err-go_over.stop c.pass_on.result c.pass_on.ensures.bytes c.pass_on.ensures.stop
    (c.in-Err-go_over.ensures.bytes heap about so_far.bytes (written before) (so_far.heard heap about)))
    c.pass_on.ensures.health

pub returns-in-Err-go_over-clause-ends : goal.returns-in-Err-go_over-clause-ends
returns-in-Err-go_over-clause-ends g c =
    let About = g.A.Answers.about c.args.answers.now in
    let left = g.Q.Asker.left in
    let written = g.W.Target.written in
    let was = c.args.questions.now in
    let before = c.args.target.now in
    let so_far = so_far_flushed About (g.A.Answers.is_answer c.args.answers.now) left written was before c.turns.questions c.turns.target
    c.turns.line.items c.turns.invariant.so_far c.flush_all.new.target c.flush_all.ensures.bytes in
    let piece = take c.in-Ok.count c.read_on.new.piece in
    let came = came_more About (g.A.Answers.is_answer c.args.answers.now) left written was before c.turns.questions
    c.flush_all.new.target c.turns.line.items so_far c.read_on.new.self piece c.in-Ok.ensures.bytes in (
      so_far.bytes ++ piece,
      came,
      ends_stopped left g.Q.Asker.health g.Q.Asker.pulls g.W.Target.health was c.read_on.new.self c.pass_on.new.target
          (so_far.bytes ++ piece) c.pass_on.result c.in-Ok.ensures.health c.pass_on.ensures.health,
    )

pub returns-in-Err-go_over-clause-lost : goal.returns-in-Err-go_over-clause-lost
returns-in-Err-go_over-clause-lost g c =
    lost_passed (g.A.Answers.loses c.args.answers.now) c.in-Err-go_over.stop c.pass_on.result c.in-Err-go_over.ensures.lost
    c.pass_on.ensures.stop

pub turns-preserved : goal.turns-preserved
turns-preserved g c =
    let About = g.A.Answers.about c.args.answers.now in
    let left = g.Q.Asker.left in
    let written = g.W.Target.written in
    let was = c.args.questions.now in
    let before = c.args.target.now in
    let so_far = so_far_flushed About (g.A.Answers.is_answer c.args.answers.now) left written was before c.turns.questions c.turns.target
    c.turns.line.items c.turns.invariant.so_far c.flush_all.new.target c.flush_all.ensures.bytes in
    let piece = take c.in-Ok.count c.read_on.new.piece in
    let bytes = so_far.bytes ++ piece in
    let line = c.go_over.new.line.items in
    let taken : TakesLines bytes line =
    subst (λ (course : Course). TakesOn bytes line (Ok course)) c.in-Ok-Open.field-0-is
    (c.in-Ok-Open.ensures.takes so_far.bytes so_far.taken) in
    let heard : (heap : HeapValue) → About heap
    → Heard (g.A.Answers.is_answer c.args.answers.now heap) bytes (written before) (written c.go_over.new.target) line =
    λ heap about. subst (λ (course : Course). GoesOver (g.A.Answers.is_answer c.args.answers.now heap) bytes (written before)
    (written c.go_over.new.target) line (Ok course)) c.in-Ok-Open.field-0-is
    (c.in-Ok-Open.ensures.bytes heap about so_far.bytes (written before) (so_far.heard heap about)) in
    record {
      so_far = so_far_more About (g.A.Answers.is_answer c.args.answers.now) left written was before c.turns.questions
          c.flush_all.new.target c.turns.line.items so_far c.read_on.new.self piece c.in-Ok.ensures.bytes c.go_over.new.target line
          taken heard;
      asking = c.in-Ok.ensures.health;
      well = c.in-Ok-Open.ensures.health;
      keeps = c.go_over.ensures.kept;
      room = c.go_over.ensures.room;
      pulls = omega (arith, c.read_on.ensures.pulls, c.turns.invariant.pulls);
    }
