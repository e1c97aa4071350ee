use Rattle.std.proofs.Common.{◌≡◌, ◌∙◌, ℕ, List, [], Option, Some, None, sym, subst, ap}
use Rattle.std.specs.Prelude.{⊤}
use Rattle.std.specs.Io.KnownBytes.{append_known}
use Rattle.std.specs.Io.Buffered.{writer_buffer, writer_contents, writer_inner}
use Rattle.hprof_devices.specs.Buffered.{buffered_health, buffered_of}
use Rattle.hprof_devices.specs.declared.buffered.BufferedDevice.{BufferedDevice}
use Rattle.hprof_ask.specs.Asks.{PassesAnswersOn}
use Rattle.hprof_tool.specs.declared.program.refused.Refused.{Refused}
use Rattle.hprof_tool.specs.Conversing.{LeavesAnswers, LetsAskReaders, OverReaders, SaysOfReaders, is_flushed}
use Rattle.hprof_tool.proofs.Conversing.{answered_all, cannot_read_on, stopped}
use Rattle.hprof_tool.proofs.Making.{none_added}
use Rattle.hprof_tool.proofs.program.conversing.ask_through_buffer.Goals as goal

pub ask_readers-outcome-requires-clause-leave : goal.ask_readers-outcome-requires-clause-leave
ask_readers-outcome-requires-clause-leave g c =
    let contents = g.W.Write.contents in
    let empty : writer_contents contents c.in-Ok.buffered ≡ contents c.args.writer =
    rw (c.in-Ok.ensures.inner, c.in-Ok.ensures.empty, none_added (contents c.args.writer)) in
    let at_first : writer_contents contents (buffered_of c.new-target.result) ≡ contents c.args.writer =
    ap (writer_contents contents) c.new-target.ensures.buffered ∙ empty in
    subst (λ (start : Option (List ℕ)). LetsAskReaders g.R.Source.left g.Q.Asker.left
    (λ device. writer_contents contents (buffered_of device)) is_flushed g.Q.Asker.may_read c.args.readers.now c.args.questions.now
    start) (sym at_first) c.requires.leave

pub returns-in-Ok-outcome-clause-ok : goal.returns-in-Ok-outcome-clause-ok
returns-in-Ok-outcome-clause-ok g c =
    let contents = g.W.Write.contents in
    let asked = c.ask_readers-outcome in
    let after = asked.new.target in
    let last = c.into_parts-writer.result.0 in
    let inner = writer_inner (buffered_of after) in
    let last_is : last ≡ inner = c.into_parts-writer.ensures.inner ∙ ap (λ (b : _). writer_inner b) c.into_buffered.ensures in
    let empty : writer_contents contents c.in-Ok.buffered ≡ contents c.args.writer =
    rw (c.in-Ok.ensures.inner, c.in-Ok.ensures.empty, none_added (contents c.args.writer)) in
    let at_first : writer_contents contents (buffered_of c.new-target.result) ≡ contents c.args.writer =
    ap (writer_contents contents) c.new-target.ensures.buffered ∙ empty in
    let at_last : writer_contents contents (buffered_of after) ≡ contents last =
    ap (append_known (contents inner)) c.in-Ok-outcome.ensures.flushed ∙ none_added (contents inner) ∙ ap contents (sym last_is) in
    answered_all g.R.Source.left g.R.Source.health g.R.Source.pulls g.Q.Asker.left g.Q.Asker.health g.Q.Asker.pulls
    (λ device. writer_contents contents (buffered_of device)) buffered_health contents c.args.readers.now asked.new.readers
    c.args.questions.now asked.new.questions c.new-target.result after c.args.writer last at_first at_last c.in-Ok-outcome.ensures.asks

abbrev is_there : {X : Type 0} → Option X → Type 0
is_there (Some x) = ⊤
is_there None = ⊥

pub returns-in-Err : goal.returns-in-Err
returns-in-Err g c =
    let contents = g.W.Write.contents in
    let asked = c.ask_readers-outcome in
    let after = asked.new.target in
    let last = c.into_parts-writer.result.0 in
    let unwritten = c.into_parts-writer.result.1.items in
    let held = writer_buffer (buffered_of after) in
    let inner = writer_inner (buffered_of after) in
    let last_is : last ≡ inner = c.into_parts-writer.ensures.inner ∙ ap (λ (b : _). writer_inner b) c.into_buffered.ensures in
    let unwritten_is : unwritten ≡ held = c.into_parts-writer.ensures.buffer ∙ ap (λ (b : _). writer_buffer b) c.into_buffered.ensures in
    let empty : writer_contents contents c.in-Ok.buffered ≡ contents c.args.writer =
    rw (c.in-Ok.ensures.inner, c.in-Ok.ensures.empty, none_added (contents c.args.writer)) in
    let at_first : writer_contents contents (buffered_of c.new-target.result) ≡ contents c.args.writer =
    ap (writer_contents contents) c.new-target.ensures.buffered ∙ empty in
    let at_last : writer_contents contents (buffered_of after) ≡ append_known (contents last) unwritten =
    ap (λ (w : _). append_known (contents w) held) (sym last_is) ∙ ap (append_known (contents last)) (sym unwritten_is) in
    let passes : PassesAnswersOn (Some c.in-Err.fault) (unwritten ≡ []) =
    subst (λ (l : List ℕ). PassesAnswersOn (Some c.in-Err.fault) (l ≡ [])) (sym unwritten_is) c.in-Err.ensures.flushed in
    let is_first : after ≡ c.new-target.result → last ≡ c.args.writer = λ same.
    last_is ∙ ap (λ (d : BufferedDevice _). writer_inner (buffered_of d)) same
    ∙ ap (λ (b : _). writer_inner b) c.new-target.ensures.buffered ∙ c.in-Ok.ensures.inner in
    record {
      ok = tt;
      gone = λ none. absurd (subst is_there none tt);
      cause = λ same. cannot_read_on g.Q.Asker.health g.Q.Asker.pulls asked.new.questions c.in-Err.fault
          (λ why is. c.in-Err.ensures.asks.cause why (ap Some is)) (sym c.from.ensures ∙ same);
      stops = subst (λ (r : Refused). LeavesAnswers contents c.args.writer (OverReaders g.R.Source.left g.Q.Asker.left c.args.readers.now
          c.args.questions.now) (SaysOfReaders g.R.Source.left g.R.Source.health g.R.Source.pulls c.args.readers.now asked.new.readers) r
          (Some last)) (sym c.from.ensures)
          (stopped g.R.Source.left g.R.Source.health g.R.Source.pulls g.Q.Asker.left g.Q.Asker.health g.Q.Asker.pulls
          (λ device. writer_contents contents (buffered_of device)) buffered_health contents c.args.readers.now asked.new.readers
          c.args.questions.now asked.new.questions c.new-target.result after c.args.writer last at_first unwritten at_last is_first
          c.in-Err.fault passes c.in-Err.ensures.asks);
    }
