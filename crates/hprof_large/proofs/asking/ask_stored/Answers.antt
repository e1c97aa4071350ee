use Rattle.std.proofs.Common.{◌≡◌, ℕ, List, Some, None, Result, Ok, Err, sym, subst}
use Rattle.std.specs.Prelude.{⊤, Vec}
use Rattle.std.specs.declared.alloc.Global.{Global}
use Rattle.hprof_heap.specs.Heap.{heap_of}
use Rattle.hprof_heap.specs.HeapFacts.{facts_of, size_of}
use Rattle.hprof_stream.specs.declared.summary.PartSummary.{PartSummary}
use Rattle.hprof_engine.specs.declared.tool_fault.ToolFault.{ToolFault}
use Rattle.hprof_engine.specs.Joining.{AreReadOut, Tell}
use Rattle.hprof_engine.specs.Summaries.{AreSummaries, HoldsFirst}
use Rattle.hprof_engine.proofs.Answers.{summaries_held}
use Rattle.hprof_retained.proofs.KeptFound.{nothing_kept}
use Rattle.hprof_stored.specs.declared.in_parts.InParts.{InParts}
use Rattle.hprof_stored.specs.AgreedUnder.{agreed_under}
use Rattle.hprof_stored.specs.InParts.{HaveUnion, MakeUp, TellsPass}
use Rattle.hprof_stored.specs.Storing.{HaveObject}
use Rattle.hprof_stored.proofs.StoredReads.{some_readers}
use Rattle.hprof_making.proofs.Made.{AreOfParts, of_loss}
use Rattle.hprof_diff.specs.Comparing.{Counts}
use Rattle.hprof_diff.proofs.Counting.{all_counts, pass_counts, reading_counts}
use Rattle.hprof_questions.specs.declared.dialogue_fault.DialogueFault.{DialogueFault}
use Rattle.hprof_questions.specs.Dialogue.{AnswersDialogue}
use Rattle.hprof_large.proofs.AskingStored.{are_stored_of, asks, lines_over, no_loss, over_told, refuses}
use Rattle.hprof_large.proofs.asking.ask_stored.Given.{Over}
use Rattle.hprof_large.proofs.asking.ask_stored.Goals as goal
use Rattle.hprof_large.proofs.asking.ask_stored.Goals.{After-new-objects}

-- the parts were refused
pub returns-in-Err-clause-asks : goal.returns-in-Err-clause-asks
returns-in-Err-clause-asks g c =
    let e = c.in-Err.ensures in
    refuses g.R.Source.left g.R.Source.health g.R.Source.pulls g.Q.Asker.left g.Q.Asker.health g.Q.Asker.pulls g.W.Target.written
    g.W.Target.health c.args.limits c.args.readers.now c.read_stored.new.readers c.args.questions.now c.args.target.now
    c.from.result
    (subst (λ (fault : ToolFault). Counts g.R.Source.left g.R.Source.health g.R.Source.pulls HaveObject ⊤ c.args.limits c.args.readers.now
    c.read_stored.new.readers (Some fault))
    (sym c.from.ensures)
    (reading_counts g.R.Source.left g.R.Source.health g.R.Source.pulls c.args.limits c.args.readers.now c.read_stored.new.readers
    (some_readers c.args.readers.now c.if-is_empty.ensures) c.in-Err.fault e.reads e.first.count e.first.so_many e.first.read_out
    e.no_other))

-- what the objects say of parts that are told
parts_of : (g : Over) (c : After-new-objects g)
    → let stored = c.in-Ok-read_stored.stored in
    let it = c.new-objects.result in
    (told : List (List ℕ)) → Tell g.R.Source.left c.args.readers.now told
    → AreOfParts (heap_of stored.heap)
    (MakeUp g.S.Target.written g.S.Target.health g.P.Parts.bytes it (size_of stored.heap) (facts_of stored.heap))
    (HaveUnion g.S.Target.written g.S.Target.health g.P.Parts.bytes it)
    (TellsPass g.S.Target.written g.S.Target.health g.P.Parts.bytes g.S.Scratch.unreadable it (size_of stored.heap) (facts_of stored.heap))
    told
unfolding facts_of size_of
parts_of g c = λ told tell.
    let readers = c.args.readers.now in
    let scratch = g.S.Target.written c.args.scratch in
    let stored = c.in-Ok-read_stored.stored in
    let it = c.new-objects.result in
    let bytes = c.requires.again (some_readers readers c.if-is_empty.ensures) told tell in
    let law = c.stored_objects_are_those_of_the_parts.ensures in
    let are = are_stored_of g.R.Source.left g.S.Target.written g.S.Target.health g.P.Parts.bytes readers scratch stored it c.args.limits
    c.finish-objects.result c.args.parts.now c.new-objects.ensures.limits c.new-objects.ensures.objects c.new-objects.ensures.parts
    c.in-Ok-read_stored.ensures.ok c.finish-objects.ensures.holds told tell bytes.0 bytes.1 in
    record {
      agree = λ have. law.agree readers scratch stored it told are have;
      made_up = λ ids millis all agreement. law.heap readers scratch stored it told ids millis all are agreement;
      contents = λ id tells. law.disagree readers scratch stored it told id are tells;
      same = λ fault tells. law.faults readers scratch stored it told fault are tells;
    }

-- and what those say that agree
agreed_of : (g : Over) (c : After-new-objects g) (it : InParts g.row.S.Denot g.row.P.Denot) → it ≡ c.new-objects.result
    → let stored = c.in-Ok-read_stored.stored in
    (told : List (List ℕ)) → Tell g.R.Source.left c.args.readers.now told
    → AreOfParts (heap_of stored.heap)
    (MakeUp g.S.Target.written g.S.Target.health g.P.Parts.bytes it (size_of stored.heap) (facts_of stored.heap))
    (HaveUnion g.S.Target.written g.S.Target.health g.P.Parts.bytes it)
    (TellsPass g.S.Target.written g.S.Target.health g.P.Parts.bytes g.S.Scratch.unreadable it (size_of stored.heap) (facts_of stored.heap))
    told
agreed_of g c it same = λ told tell.
    let heap = c.in-Ok-read_stored.stored.heap in
    subst (λ (i : InParts g.row.S.Denot g.row.P.Denot). AreOfParts (heap_of heap)
    (MakeUp g.S.Target.written g.S.Target.health g.P.Parts.bytes i (size_of heap) (facts_of heap))
    (HaveUnion g.S.Target.written g.S.Target.health g.P.Parts.bytes i)
    (TellsPass g.S.Target.written g.S.Target.health g.P.Parts.bytes g.S.Scratch.unreadable i (size_of heap) (facts_of heap)) told)
    (sym same) (parts_of g c told tell)

union_of : (g : Over) (c : After-new-objects g) (it : InParts g.row.S.Denot g.row.P.Denot) → it ≡ c.new-objects.result
    → HaveUnion g.S.Target.written g.S.Target.health g.P.Parts.bytes c.new-objects.result
    → HaveUnion g.S.Target.written g.S.Target.health g.P.Parts.bytes it
union_of g c it same have = subst (HaveUnion g.S.Target.written g.S.Target.health g.P.Parts.bytes) (sym same) have

-- the summaries are those of the parts
summaries_of : (g : Over) (c : After-new-objects g) → (told : List (List ℕ)) → Tell g.R.Source.left c.args.readers.now told
    → AreSummaries told c.read_stored.new.kept.items
summaries_of g c = λ told tell.
    let readers = c.args.readers.now in
    let holds = λ (kept : Vec PartSummary Global) (summaries : List PartSummary). kept.items ≡ summaries in
    let kept = c.read_stored.new.kept in
    let e = c.in-Ok-read_stored.ensures.first in
    let held = subst (λ (count : ℕ). HoldsFirst g.R.Source.left holds readers count kept) e.so_many e.summaries in
    subst (AreSummaries told) (sym held.held) (summaries_held g.R.Source.left holds readers kept held told tell)

-- all were read, and gone over
counts_of : (g : Over) (c : After-new-objects g)
    → Counts g.R.Source.left g.R.Source.health g.R.Source.pulls HaveObject ⊤ c.args.limits c.args.readers.now c.read_stored.new.readers None
counts_of g c =
    let readers = c.args.readers.now in
    let then = c.read_stored.new.readers in
    let e = c.in-Ok-read_stored.ensures in
    all_counts g.R.Source.left g.R.Source.health g.R.Source.pulls c.args.limits readers then (some_readers readers c.if-is_empty.ensures)
    e.reads
    (subst (AreReadOut g.R.Source.left g.R.Source.health g.R.Source.pulls c.args.limits readers then) e.first.so_many e.first.read_out)

-- the objects cannot be gone through
pub returns-in-Err-new-clause-asks : goal.returns-in-Err-new-clause-asks
returns-in-Err-new-clause-asks g c =
    let readers = c.args.readers.now in
    let then = c.read_stored.new.readers in
    let e = c.in-Ok-read_stored.ensures in
    let stored = c.in-Ok-read_stored.stored in
    let it = c.new-objects.result in
    let fault = c.in-Err-new.fault in
    let from = c.from-in-Err-new in
    refuses g.R.Source.left g.R.Source.health g.R.Source.pulls g.Q.Asker.left g.Q.Asker.health g.Q.Asker.pulls g.W.Target.written
    g.W.Target.health c.args.limits readers then c.args.questions.now c.args.target.now from.result
    (subst (λ (f : ToolFault). Counts g.R.Source.left g.R.Source.health g.R.Source.pulls HaveObject ⊤ c.args.limits readers then (Some f))
    (sym from.ensures)
    (pass_counts g.R.Source.left g.R.Source.health g.R.Source.pulls c.args.limits readers then (some_readers readers c.if-is_empty.ensures)
    e.reads
    (subst (AreReadOut g.R.Source.left g.R.Source.health g.R.Source.pulls c.args.limits readers then) e.first.so_many e.first.read_out)
    fault (λ told tell.
    of_loss (heap_of stored.heap)
    (MakeUp g.S.Target.written g.S.Target.health g.P.Parts.bytes it (size_of stored.heap) (facts_of stored.heap))
    (HaveUnion g.S.Target.written g.S.Target.health g.P.Parts.bytes it)
    (TellsPass g.S.Target.written g.S.Target.health g.P.Parts.bytes g.S.Scratch.unreadable it (size_of stored.heap) (facts_of stored.heap))
    told (parts_of g (goal.at.returns-in-Err-new-clause-asks g c).After-new-objects told tell) fault
    (c.in-Err-new.ensures.tells (size_of stored.heap) (facts_of stored.heap)))))

-- no more is read before all answers are flushed
pub converse-requires-clause-leave : goal.converse-requires-clause-leave
converse-requires-clause-leave g c = λ bytes is after consumes lines opened all flushes.
    let stored = c.in-Ok-read_stored.stored in
    let it = agreed_under c.in-Ok-new.agreed in
    let then = (goal.at.converse-requires-clause-leave g c).After-new-objects in
    c.requires.leave bytes is after consumes lines opened (λ told tell whole agree summaries are.
    lines_over stored.heap (MakeUp g.S.Target.written g.S.Target.health g.P.Parts.bytes it)
    (HaveUnion g.S.Target.written g.S.Target.health g.P.Parts.bytes it)
    (TellsPass g.S.Target.written g.S.Target.health g.P.Parts.bytes g.S.Scratch.unreadable it (size_of stored.heap) (facts_of stored.heap))
    told (agreed_of g then it c.in-Ok-new.ensures.objects told tell) c.read_stored.new.kept.items (summaries_of g then told tell) bytes
    (g.W.Target.written c.args.target.now) (g.W.Target.written after) all whole agree summaries are) flushes

-- nothing is kept yet
pub converse-requires-clause-kept : goal.converse-requires-clause-kept
converse-requires-clause-kept g c =
    let heap = c.in-Ok-read_stored.stored.heap in
    let it = agreed_under c.in-Ok-new.agreed in (
      λ whole is. c.new-kept.ensures.texts c.read_stored.new.kept.items whole.ids whole.facts,
      nothing_kept (MakeUp g.S.Target.written g.S.Target.health g.P.Parts.bytes it (size_of heap) (facts_of heap))
          (HaveUnion g.S.Target.written g.S.Target.health g.P.Parts.bytes it) (size_of heap) c.new-kept.result.references
          c.new-kept.ensures.references,
    )

-- the dialogue came to its end
pub returns-in-Ok-converse-clause-asks : goal.returns-in-Ok-converse-clause-asks
returns-in-Ok-converse-clause-asks g c =
    let stored = c.in-Ok-read_stored.stored in
    let it = agreed_under c.in-Ok-new.agreed in
    let then = (goal.at.returns-in-Ok-converse-clause-asks g c).After-new-objects in
    let heap = stored.heap in
    let Made = MakeUp g.S.Target.written g.S.Target.health g.P.Parts.bytes it in
    let agreed = HaveUnion g.S.Target.written g.S.Target.health g.P.Parts.bytes it in
    let Tells = TellsPass g.S.Target.written g.S.Target.health g.P.Parts.bytes g.S.Scratch.unreadable it (size_of heap) (facts_of heap) in
    let summaries = c.read_stored.new.kept.items in
    let ended : Result (Unit {0}) DialogueFault = Ok c.in-Ok-converse.field-0 in
    let said = c.in-Ok-converse.ensures in
    asks g.R.Source.left g.R.Source.health g.R.Source.pulls g.Q.Asker.left g.Q.Asker.health g.Q.Asker.pulls g.W.Target.written
    g.W.Target.health c.args.limits c.args.readers.now c.read_stored.new.readers c.args.questions.now c.args.target.now
    (counts_of g then) c.converse.new.questions c.converse.new.target ended
    (λ told tell. over_told heap Made agreed Tells told (agreed_of g then it c.in-Ok-new.ensures.objects told tell) summaries
    (summaries_of g then told tell)
    (union_of g then it c.in-Ok-new.ensures.objects c.in-Ok-new.ensures.agree)
    (λ IsAnswer. AnswersDialogue IsAnswer g.Q.Asker.left g.Q.Asker.health g.Q.Asker.pulls g.W.Target.written g.W.Target.health
    c.args.questions.now c.converse.new.questions c.args.target.now c.converse.new.target ended)
    said.dialogue)
    said.ends
    (λ told tell. no_loss heap Made agreed Tells told (agreed_of g then it c.in-Ok-new.ensures.objects told tell)
    (union_of g then it c.in-Ok-new.ensures.objects c.in-Ok-new.ensures.agree) ended said.lost)

-- it stopped
pub returns-clause-asks : goal.returns-clause-asks
returns-clause-asks g c =
    let stored = c.in-Ok-read_stored.stored in
    let it = agreed_under c.in-Ok-new.agreed in
    let then = (goal.at.returns-clause-asks g c).After-new-objects in
    let heap = stored.heap in
    let Made = MakeUp g.S.Target.written g.S.Target.health g.P.Parts.bytes it in
    let agreed = HaveUnion g.S.Target.written g.S.Target.health g.P.Parts.bytes it in
    let Tells = TellsPass g.S.Target.written g.S.Target.health g.P.Parts.bytes g.S.Scratch.unreadable it (size_of heap) (facts_of heap) in
    let summaries = c.read_stored.new.kept.items in
    let ended : Result (Unit {0}) DialogueFault = Err c.in-Err-converse.stop in
    let said = c.in-Err-converse.ensures in
    asks g.R.Source.left g.R.Source.health g.R.Source.pulls g.Q.Asker.left g.Q.Asker.health g.Q.Asker.pulls g.W.Target.written
    g.W.Target.health c.args.limits c.args.readers.now c.read_stored.new.readers c.args.questions.now c.args.target.now
    (counts_of g then) c.converse.new.questions c.converse.new.target ended
    (λ told tell. over_told heap Made agreed Tells told (agreed_of g then it c.in-Ok-new.ensures.objects told tell) summaries
    (summaries_of g then told tell)
    (union_of g then it c.in-Ok-new.ensures.objects c.in-Ok-new.ensures.agree)
    (λ IsAnswer. AnswersDialogue IsAnswer g.Q.Asker.left g.Q.Asker.health g.Q.Asker.pulls g.W.Target.written g.W.Target.health
    c.args.questions.now c.converse.new.questions c.args.target.now c.converse.new.target ended)
    said.dialogue)
    said.ends
    (λ told tell. no_loss heap Made agreed Tells told (agreed_of g then it c.in-Ok-new.ensures.objects told tell)
    (union_of g then it c.in-Ok-new.ensures.objects c.in-Ok-new.ensures.agree) ended said.lost)
