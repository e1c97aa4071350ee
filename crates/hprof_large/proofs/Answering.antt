-- What is written of an answer whose objects are gone through.
use Rattle.std.proofs.Common.{◌≡◌, inl, inr, ℕ, List, [], ◌++◌, Option, Result, Ok, Err, refl, sym, subst, ap, arith}
use Rattle.std.specs.Io.KnownBytes.{Appends}
use Rattle.std.proofs.KnownBytes.{Appends-nil}
use Rattle.hprof_devices.specs.declared.health.Health.{Health}
use Rattle.hprof_devices.specs.declared.health.Health.TheVariants as healths
use Rattle.hprof_devices.proofs.Writes.{WritesFront-more}
use Rattle.hprof_values.specs.declared.ids.IdSize.{IdSize}
use Rattle.hprof_items.specs.FactValue.{FactValue}
use Rattle.hprof_stream.specs.declared.summary.PartSummary.{PartSummary}
use Rattle.hprof_rows.specs.HeapValue.{HeapValue}
use Rattle.hprof_heap.specs.declared.heap.Heap.{Heap}
use Rattle.hprof_heap.specs.HeapFacts.{facts_of, size_of}
use Rattle.hprof_passes.specs.declared.pass_fault.PassFault.{PassFault}
use Rattle.hprof_passes.specs.declared.pass_fault.PassFault.TheVariants.{Sink, Lost}
use Rattle.hprof_passes.specs.Passing.{IsWhole}
use Rattle.hprof_runs.specs.declared.run_fault.RunFault.TheVariants as runs
use Rattle.hprof_objects.specs.declared.stretch_fault.StretchFault.TheVariants as stretches
use Rattle.hprof_engine.specs.declared.loss.Loss.{Loss}
use Rattle.hprof_engine.specs.declared.product.ProductFault.{ProductFault}
use Rattle.hprof_engine.specs.declared.product.ProductFault.TheVariants as writes
use Rattle.hprof_engine.specs.declared.heap_fault.HeapFault.{HeapFault}
use Rattle.hprof_engine.specs.declared.heap_fault.HeapFault.TheVariants as refusals
use Rattle.hprof_stored.specs.declared.in_parts_fault.InPartsFault.{InPartsFault}
use Rattle.hprof_stored.specs.declared.in_parts_fault.InPartsFault.TheVariants as passes
use Rattle.hprof_lines.specs.Stopping.{LeavesTarget, WritesText}
use Rattle.hprof_making.specs.Over.{EndsOver}
use Rattle.hprof_questions.specs.declared.question.Question.{Question}
use Rattle.hprof_questions.specs.declared.question.Question.TheVariants as questions
use Rattle.hprof_questions.specs.declared.report.HeapReport.{HeapReport}
use Rattle.hprof_questions.specs.declared.report.Report.{Report}
use Rattle.hprof_questions.specs.declared.dialogue_fault.DialogueFault.{DialogueFault}
use Rattle.hprof_questions.specs.declared.dialogue_fault.DialogueFault.TheVariants as stops
use Rattle.hprof_questions.specs.Answering.{LeavesWriter, TellsLoss, WritesAnswer}
use Rattle.hprof_ask.specs.HeapAnswers.{IsReply, IsReportReply, reply_without_report}
use Rattle.hprof_ask.specs.Report.{IsHeapReport, IsReport, LacksClass, RefusesReport}
use Rattle.hprof_ask.specs.SomeReport.{some_heap_report}
use Rattle.hprof_large.specs.SomeAnswer.{some_answer_of_whole, whole_agrees}
use Rattle.hprof_large.specs.Stops.{IsLostBy, answer_of, stop_of_pass_fault, stop_of_writing}
use Rattle.hprof_large.specs.Whole.{IsWholeHeap}

-- ---- lines

-- what was written of a text
pub answered : (old new : Option (List ℕ)) (health : Health) (r : Result (Unit {0}) ProductFault) (text : List ℕ) → LeavesTarget r health
    → WritesText old new r text → WritesAnswer old new (answer_of r) text
answered old new health (Ok done) text leaves wrote = wrote
answered old new health (Err (writes.Write fault)) text leaves wrote = wrote
answered old new health (Err writes.OutOfMemory) text leaves wrote = wrote
answered old new health (Err (writes.Refused refusal)) text leaves wrote = absurd leaves

pub leaves_writer : (r : Result (Unit {0}) ProductFault) (health : Health) → LeavesTarget r health → LeavesWriter (answer_of r) health
leaves_writer (Ok done) health leaves = leaves
leaves_writer (Err (writes.Write fault)) health leaves = leaves
leaves_writer (Err writes.OutOfMemory) health leaves = leaves
leaves_writer (Err (writes.Refused refusal)) health leaves = absurd leaves

pub loses_nothing : (Loses : Loss → Type 0) (r : Result (Unit {0}) ProductFault) → TellsLoss Loses (answer_of r)
loses_nothing Loses (Ok done) = tt
loses_nothing Loses (Err (writes.Write fault)) = tt
loses_nothing Loses (Err writes.OutOfMemory) = tt
loses_nothing Loses (Err (writes.Refused refusal)) = tt

-- a reply that is no report
pub line_reply : (summaries : List PartSummary) (ids : IdSize) (facts : List FactValue) (question : Question)
    → ((report : Report) → question ≡ questions.Report report → ⊥) → IsReply summaries ids facts question (reply_without_report question)
line_reply summaries ids facts questions.Nothing other = refl
line_reply summaries ids facts questions.Help other = refl
line_reply summaries ids facts questions.Quit other = refl
line_reply summaries ids facts (questions.Report report) other = absurd (other report refl)
line_reply summaries ids facts (questions.Misnamed fault) other = refl
line_reply summaries ids facts questions.NotUnderstood other = refl

-- a front of a reply is one of the answer
pub answer_stops : (old new : Option (List ℕ)) (stop : DialogueFault) (reply behind : List ℕ)
    → WritesAnswer {A = Unit {0}} old new (Err stop) reply → WritesAnswer {A = Unit {0}} old new (Err stop) (reply ++ behind)
answer_stops old new (stops.Questions fault) reply behind front = WritesFront-more old new reply behind front
answer_stops old new (stops.Write fault) reply behind front = WritesFront-more old new reply behind front
answer_stops old new (stops.Lost loss) reply behind same = same
answer_stops old new stops.OutOfMemory reply behind front = WritesFront-more old new reply behind front

-- nothing was written
unwritten : (old new : Option (List ℕ)) (stop : DialogueFault) (text : List ℕ) → new ≡ old
    → WritesAnswer {A = Unit {0}} old new (Err stop) text
unwritten old new (stops.Questions fault) text same = (
  0,
  omega arith,
  subst (λ (w : Option (List ℕ)). Appends old w []) (sym same)
      (Appends-nil old),
)
unwritten old new (stops.Write fault) text same = (
  0,
  omega arith,
  subst (λ (w : Option (List ℕ)). Appends old w []) (sym same)
      (Appends-nil old),
)
unwritten old new (stops.Lost loss) text same = same
unwritten old new stops.OutOfMemory text same = (
  0,
  omega arith,
  subst (λ (w : Option (List ℕ)). Appends old w []) (sym same)
      (Appends-nil old),
)

-- ---- objects that cannot be gone through

leaves_well : (fault : InPartsFault) (health : Health) → health ≡ healths.Well
    → LeavesWriter {A = Unit {0}} (Err (stop_of_pass_fault fault)) health
leaves_well passes.OutOfMemory health well = well
leaves_well (passes.TwoContents id) health well = well
leaves_well (passes.Scratch runs.OutOfMemory) health well = well
leaves_well (passes.Scratch runs.Read) health well = well
leaves_well (passes.Scratch runs.Damaged) health well = well
leaves_well (passes.Part part stretches.OutOfMemory) health well = well
leaves_well (passes.Part part stretches.Read) health well = well
leaves_well (passes.Part part stretches.Changed) health well = well
leaves_well passes.NoObject health well = well
leaves_well passes.TooMany health well = well

-- the writer is as it was
leaves_lost : (fault : InPartsFault) (stop : DialogueFault) → stop ≡ stop_of_pass_fault fault → (health : Health) → health ≡ healths.Well
    → LeavesWriter {A = Unit {0}} (Err stop) health
leaves_lost fault stop is health well =
    subst (λ (s : DialogueFault). LeavesWriter {A = Unit {0}} (Err s) health) (sym is) (leaves_well fault health well)

-- the reason is told
tells_lost : (Tells : InPartsFault → Type 0) (fault : InPartsFault) (stop : DialogueFault) → stop ≡ stop_of_pass_fault fault → Tells fault
    → TellsLoss {A = Unit {0}} (IsLostBy Tells) (Err stop)
tells_lost Tells fault (stops.Questions other) is tells = tt
tells_lost Tells fault (stops.Write other) is tells = tt
tells_lost Tells fault (stops.Lost loss) is tells = (fault, tells, sym is)
tells_lost Tells fault stops.OutOfMemory is tells = tt

-- ---- answers

module _ (heap : Heap) (MakeUp : IdSize → List FactValue → List FactValue → Type 0)
    (are_whole : (ids : IdSize) (facts all : List FactValue) → MakeUp ids facts all → IsWhole ids facts all)
    (summaries : List PartSummary) where
  -- nothing was written of the reply to a question
  pub no_reply : (question : Question) (old new : Option (List ℕ)) (stop : DialogueFault) → new ≡ old → (whole : HeapValue)
      → IsWholeHeap heap MakeUp whole → (text : List ℕ) × IsReply summaries whole.ids whole.facts question text
      × WritesAnswer {A = Unit {0}} old new (Err stop) text
  no_reply question old new stop same whole is =
      let some = some_answer_of_whole summaries heap MakeUp are_whole whole is question in
      (some.1.reply, some.1.is_reply, unwritten old new stop some.1.reply same)

  -- nothing was written of a report on the whole heap
  pub no_heap_report : (report : HeapReport) (old new : Option (List ℕ)) (stop : DialogueFault) → new ≡ old → (whole : HeapValue)
      → IsWholeHeap heap MakeUp whole → (text : List ℕ) × IsHeapReport summaries whole.ids whole.facts report text
      × WritesAnswer {A = Unit {0}} old new (Err stop) text
  no_heap_report report old new stop same whole is =
      let some = some_heap_report whole.ids whole.facts (whole_agrees heap MakeUp are_whole whole is) summaries report in
      (some.0, some.1, unwritten old new stop some.0 same)

  module _ {W : Type 0} (written : W → Option (List ℕ)) (well : W → Health) (before after : W) (agreed : Type 0)
      (Tells : InPartsFault → Type 0) (report : Report) (was_well : well before ≡ healths.Well) where
    abbrev pub EndsReport : Result (Unit {0}) (PassFault ProductFault InPartsFault) → Type 0
    EndsReport r = EndsOver (MakeUp (size_of heap) (facts_of heap)) agreed Tells (λ all. IsReport summaries (size_of heap) all report)
        (λ refusal all. RefusesReport all report refusal) written well before after r

    abbrev pub Replies : Result (Unit {0}) DialogueFault → Type 0
    Replies r = (whole : HeapValue) → IsWholeHeap heap MakeUp whole
        → (text : List ℕ) × IsReportReply summaries whole.ids whole.facts report text
        × WritesAnswer (written before) (written after) r text

    -- the report of all facts is that on the heap
    of_whole : (whole : HeapValue) → IsWholeHeap heap MakeUp whole → (text : List ℕ)
        → IsReport summaries (size_of heap) whole.facts report text → IsReportReply summaries whole.ids whole.facts report text
    of_whole whole is text of =
        inl (subst (λ (ids : IdSize). IsReport summaries ids whole.facts report text) (sym is.ids) of)

    pub replied : (done : Unit {0}) → EndsReport (Ok done) → Replies (Ok done)
    replied done ends = λ whole is.
        let it = ends.1 whole.facts is.made_up in (it.0, of_whole whole is it.0 it.1, it.2)

    -- it stopped
    some_of : (stop : ProductFault) → ((refusal : HeapFault) → stop ≡ writes.Refused refusal → ⊥) → EndsReport (Err (Sink stop))
        → Replies (Err (stop_of_writing stop)) × LeavesWriter {A = Unit {0}} (Err (stop_of_writing stop)) (well after)
    some_of (writes.Write fault) unrefused ends = (
      λ whole is. let it = ends.1 whole.facts is.made_up in (it.0, of_whole whole is it.0 it.3, (it.1, it.2, it.4)),
      ends.2,
    )
    some_of writes.OutOfMemory unrefused (inl same) = (
      no_reply (questions.Report report) (written before) (written after) stops.OutOfMemory (ap written same),
      subst (λ (w : W). well w ≡ healths.Well) (sym same) was_well,
    )
    some_of writes.OutOfMemory unrefused (inr ends) = (
      λ whole is. let it = ends.1 whole.facts is.made_up in (it.0, of_whole whole is it.0 it.3, (it.1, it.2, it.4)),
      ends.2,
    )
    some_of (writes.Refused refusal) unrefused ends = absurd (unrefused refusal refl)

    pub stopped : (stop : PassFault ProductFault InPartsFault) (why : ProductFault) → stop ≡ Sink why
        → ((refusal : HeapFault) → why ≡ writes.Refused refusal → ⊥) → EndsReport (Err stop)
        → Replies (Err (stop_of_writing why)) × LeavesWriter {A = Unit {0}} (Err (stop_of_writing why)) (well after)
    stopped stop why is unrefused ends =
        some_of why unrefused (subst (λ (s : PassFault ProductFault InPartsFault). EndsReport (Err s)) is ends)

    -- the objects cannot be gone through: nothing was written
    pub lost : (stop : PassFault ProductFault InPartsFault) (fault : InPartsFault) (told : DialogueFault) → stop ≡ Lost fault
        → told ≡ stop_of_pass_fault fault → EndsReport (Err stop)
        → Replies (Err told) × LeavesWriter {A = Unit {0}} (Err told) (well after) × TellsLoss {A = Unit {0}} (IsLostBy Tells) (Err told)
    lost stop fault told is told_is ends =
        let it : EndsReport (Err (Lost fault)) = subst (λ (s : PassFault ProductFault InPartsFault). EndsReport (Err s)) is ends in (
          no_reply (questions.Report report) (written before) (written after) told (ap written it.1),
          leaves_lost fault told told_is (well after) (subst (λ (w : W). well w ≡ healths.Well) (sym it.1) was_well),
          tells_lost Tells fault told told_is it.0,
        )

    -- no class has the name
    pub lacks_class : (stop : PassFault ProductFault InPartsFault) (refusal : HeapFault) → stop ≡ Sink (writes.Refused refusal)
        → EndsReport (Err stop) → (after ≡ before) × ((whole : HeapValue) → IsWholeHeap heap MakeUp whole → LacksClass whole.facts report)
    lacks_class stop refusal is ends =
        let it : EndsReport (Err (Sink (writes.Refused refusal))) =
        subst (λ (s : PassFault ProductFault InPartsFault). EndsReport (Err s)) is ends in
        (it.2, λ whole is_whole. lacks whole.facts refusal (it.1 whole.facts is_whole.made_up))
      where
        lacks : (facts : List FactValue) (why : HeapFault) → RefusesReport facts report why → LacksClass facts report
        lacks facts refusals.DumpTooLong refuses = absurd refuses
        lacks facts refusals.NoClass refuses = refuses
