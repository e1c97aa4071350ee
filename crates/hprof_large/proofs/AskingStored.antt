-- What a call answers that reads parts, and answers questions about their heap, whose objects are read again for each answer.
use Rattle.std.proofs.Common.{◌≡◌, ℕ, List, map, Option, Some, None, Result, Ok, Err, refl, sym, subst, ap, ◌∙◌}
use Rattle.std.specs.Prelude.{⊤, IsSome}
use Rattle.hprof_devices.specs.declared.health.Health.{Health}
use Rattle.hprof_values.specs.declared.ids.IdSize.{IdSize}
use Rattle.hprof_items.specs.FactValue.{FactValue}
use Rattle.hprof_stream.specs.declared.limits.Limits.{Limits}
use Rattle.hprof_stream.specs.declared.summary.PartSummary.{PartSummary}
use Rattle.hprof_rows.specs.declared.key.Key.TheVariants as keys
use Rattle.hprof_rows.specs.HeapValue.{HeapValue}
use Rattle.hprof_heap.specs.declared.heap.Heap.{Heap}
use Rattle.hprof_heap.specs.Heap.{heap_of}
use Rattle.hprof_heap.specs.HeapFacts.{facts_of, size_of}
use Rattle.hprof_runs.specs.declared.run_fault.RunFault.TheVariants as runs
use Rattle.hprof_objects.specs.declared.stored_objects.StoredObjects.{StoredObjects}
use Rattle.hprof_objects.specs.declared.stretch_fault.StretchFault.TheVariants as stretches
use Rattle.hprof_objects.specs.Log.{HoldsParts}
use Rattle.hprof_objects.specs.PartsRead.{PartRead}
use Rattle.hprof_objects.specs.StoredObjects.{HoldsObjects}
use Rattle.hprof_engine.specs.declared.loss.Loss.{Loss}
use Rattle.hprof_engine.specs.declared.loss.Loss.TheVariants as losses
use Rattle.hprof_engine.specs.declared.tool_fault.ToolFault.{ToolFault}
use Rattle.hprof_engine.specs.Joining.{Agree, Tell}
use Rattle.hprof_engine.specs.Makes.{IsChange}
use Rattle.hprof_engine.specs.Outcome.{Conflict, OneHeap}
use Rattle.hprof_engine.specs.Summaries.{AreSummaries}
use Rattle.hprof_engine.proofs.OneSummary.{one_summary_each}
use Rattle.hprof_engine.proofs.Outcomes.{one_outcome}
use Rattle.hprof_stored.specs.declared.in_parts.InParts.{InParts}
use Rattle.hprof_stored.specs.declared.in_parts_fault.InPartsFault.{InPartsFault}
use Rattle.hprof_stored.specs.declared.in_parts_fault.InPartsFault.TheVariants as passes
use Rattle.hprof_stored.specs.declared.stored_heap.StoredHeap.{StoredHeap}
use Rattle.hprof_stored.specs.InParts.{AreStoredOf, limits_under, objects_under, parts_under}
use Rattle.hprof_stored.specs.Reading.{HoldsHeap}
use Rattle.hprof_stored.specs.Storing.{HaveObject}
use Rattle.hprof_making.specs.Over.{heap_with}
use Rattle.hprof_making.proofs.Made.{AreOfParts}
use Rattle.hprof_diff.specs.Comparing.{Counts}
use Rattle.hprof_questions.specs.declared.question.Question.{Question}
use Rattle.hprof_questions.specs.declared.dialogue_fault.DialogueFault.{DialogueFault}
use Rattle.hprof_questions.specs.declared.dialogue_fault.DialogueFault.TheVariants as stops
use Rattle.hprof_questions.specs.Answering.{TellsLoss}
use Rattle.hprof_questions.specs.Dialogue.{AnswersDialogue, AnswersLines, AreOpenLines, EndsDialogue}
use Rattle.hprof_ask.specs.declared.ask_fault.AskFault.{AskFault}
use Rattle.hprof_ask.specs.declared.ask_fault.AskFault.TheVariants as faults
use Rattle.hprof_ask.specs.HeapAnswers.{IsHeapAnswer}
use Rattle.hprof_large.specs.AskingStored.{AsksStored, OverTold}
use Rattle.hprof_large.specs.Stops.{IsLostBy, stop_of_pass_fault}
use Rattle.hprof_large.specs.Whole.{IsWholeHeap}

-- ---- the objects that were stored

module _ {R S P : Type 0} (left : R → Option (List ℕ)) (written : S → Option (List ℕ)) (health : S → Health)
    (bytes : P → List (Option (List ℕ))) (readers : List R) (scratch : Option (List ℕ)) (stored : StoredHeap S) (it : InParts S P)
    (limits : Limits) (objects : StoredObjects S) (parts : P) where
  -- those of parts that are told
  pub are_stored_of : limits_under it ≡ limits → objects_under it ≡ objects → parts_under it ≡ parts
      → HoldsHeap written health limits (map left readers) scratch stored
      → ((limits : Limits) (reads : List PartRead) → HoldsParts written health limits reads stored.objects
      → HoldsObjects written health limits reads objects)
      → (told : List (List ℕ)) → Tell left readers told → bytes parts ≡ map Some told → IsSome scratch
      → AreStoredOf left written health bytes readers scratch stored it told
  are_stored_of limited are_objects are_parts holds finished told tell same some = record {
    tell = tell;
    holds = subst (λ (l : Limits). HoldsHeap written health l (map left readers) scratch stored) (sym limited) holds;
    finished = λ reads kept. subst (λ (o : StoredObjects S). HoldsObjects written health (limits_under it) reads o) (sym are_objects)
        (finished (limits_under it) reads kept);
    same = ap bytes are_parts ∙ same;
    scratch_tells = some;
  }

-- ---- what the parts say that are told

module _ (heap : Heap) (MakeUp : IdSize → List FactValue → List FactValue → Type 0) (agreed : Type 0) (Tells : InPartsFault → Type 0)
    (told : List (List ℕ))
    (are : AreOfParts (heap_of heap) (MakeUp (size_of heap) (facts_of heap)) agreed Tells told) where
  -- the heap on which they agree is the whole heap
  pub whole_of : (whole : HeapValue) → Agree told whole.ids whole.millis whole.facts → IsWholeHeap heap MakeUp whole
  unfolding facts_of size_of
  whole_of whole agree =
      let it = are.made_up whole.ids whole.millis whole.facts agree in
      record { ids = it.0; millis = it.1; made_up = it.2 }

  -- there is one
  pub agreed_whole : agreed → (whole : HeapValue) × Agree told whole.ids whole.millis whole.facts
  agreed_whole agrees = let all = are.agree agrees in (heap_with (heap_of heap) all.0, all.1)

  -- a loss is no change
  pub no_change : agreed → (fault : InPartsFault) → Tells fault → (loss : Loss) → stop_of_pass_fault fault ≡ stops.Lost loss → IsChange loss
      → ⊥
  no_change agrees passes.OutOfMemory tells loss is change = absurd cc
  no_change agrees (passes.TwoContents id) tells loss is change =
      let all = are.agree agrees in
      let value = heap_of heap in
      let same = one_outcome told (OneHeap value.ids value.millis all.0) (Conflict (keys.Object id)) all.1 (are.contents id tells) in
      absurd cc
  no_change agrees (passes.Scratch runs.OutOfMemory) tells loss is change = absurd cc
  no_change agrees (passes.Scratch runs.Read) tells loss is change =
      let same : losses.Scratch ≡ loss = cc in subst IsChange (sym same) change
  no_change agrees (passes.Scratch runs.Damaged) tells loss is change = are.same (passes.Scratch runs.Damaged) tells
  no_change agrees (passes.Part part stretches.OutOfMemory) tells loss is change = absurd cc
  no_change agrees (passes.Part part stretches.Read) tells loss is change =
      let same : losses.Read part ≡ loss = cc in subst IsChange (sym same) change
  no_change agrees (passes.Part part stretches.Changed) tells loss is change = are.same (passes.Part part stretches.Changed) tells
  no_change agrees passes.NoObject tells loss is change = are.same passes.NoObject tells
  no_change agrees passes.TooMany tells loss is change = absurd cc

  pub no_loss : agreed → {A : Type 0} → (r : Result A DialogueFault) → TellsLoss (IsLostBy Tells) r → (loss : Loss)
      → r ≡ Err (stops.Lost loss) → IsChange loss → ⊥
  no_loss agrees (Ok done) tells loss is change = absurd cc
  no_loss agrees (Err (stops.Lost known)) tells loss is change =
      let same : known ≡ loss = cc in no_change agrees tells.0 tells.1 known tells.2 (subst IsChange (sym same) change)
  no_loss agrees (Err (stops.Questions fault)) tells loss is change = absurd cc
  no_loss agrees (Err (stops.Write fault)) tells loss is change = absurd cc
  no_loss agrees (Err stops.OutOfMemory) tells loss is change = absurd cc

  -- that holds of the answers over the whole heap
  module _ (summaries : List PartSummary) (of_parts : AreSummaries told summaries) where
    pub over_told : agreed → (P : (Question → List ℕ → Type 0) → Type 0)
        → ((whole : HeapValue) → IsWholeHeap heap MakeUp whole → P (IsHeapAnswer summaries whole.ids whole.facts)) → OverTold told P
    over_told agrees P holds =
        let one = agreed_whole agrees in
        record {
          heap = one.0;
          agree = one.1;
          summaries = summaries;
          of_parts = of_parts;
          holds = holds one.0 (whole_of one.0 one.1);
        }

    -- so all lines were answered
    pub lines_over : (bytes : List ℕ) (start now : Option (List ℕ)) → ((whole : HeapValue) → IsWholeHeap heap MakeUp whole
        → AnswersLines (IsHeapAnswer summaries whole.ids whole.facts) AreOpenLines bytes start now) → (whole : HeapValue)
        → Agree told whole.ids whole.millis whole.facts → (others : List PartSummary) → AreSummaries told others
        → AnswersLines (IsHeapAnswer others whole.ids whole.facts) AreOpenLines bytes start now
    lines_over bytes start now all whole agree others are_too =
        subst (λ (ss : List PartSummary). AnswersLines (IsHeapAnswer ss whole.ids whole.facts) AreOpenLines bytes start now)
        (one_summary_each told summaries others of_parts are_too) (all whole (whole_of whole agree))

-- ---- the answer of the call

module _ {R Q W : Type 0} (left : R → Option (List ℕ)) (health : R → Health) (pulls : R → ℕ) (asked : Q → Option (List ℕ))
    (asking : Q → Health) (turns : Q → ℕ) (written : W → Option (List ℕ)) (well : W → Health) (limits : Limits) (old new : List R)
    (was : Q) (before : W) where
  -- the parts were refused
  pub refuses : (fault : ToolFault) → Counts left health pulls HaveObject ⊤ limits old new (Some fault)
      → AsksStored left health pulls asked asking turns written well limits old new was was before before (Some (faults.Parts fault))
  refuses fault counts = record {
    counts = counts;
    refused = λ other e. (refl, refl);
    answers = tt;
    ends = tt;
    lost = λ loss e. absurd cc;
  }

  -- the fault that a dialogue ended with, if any
  abbrev pub fault_of_dialogue : Result (Unit {0}) DialogueFault → Option AskFault
  fault_of_dialogue (Ok done) = None
  fault_of_dialogue (Err stop) = Some (faults.Dialogue stop)

  abbrev stopped_by : DialogueFault → Result (Unit {0}) DialogueFault
  stopped_by stop = Err stop

  -- the dialogue took place
  module _ (counts : Counts left health pulls HaveObject ⊤ limits old new None) (is : Q) (after : W) where
    pub asks : (r : Result (Unit {0}) DialogueFault)
        → ((parts : List (List ℕ)) → Tell left old parts
        → OverTold parts (λ IsAnswer. AnswersDialogue IsAnswer asked asking turns written well was is before after r))
        → EndsDialogue asked asking turns well was is after r
        → ((parts : List (List ℕ)) → Tell left old parts → (loss : Loss) → r ≡ Err (stops.Lost loss) → IsChange loss → ⊥)
        → AsksStored left health pulls asked asking turns written well limits old new was is before after (fault_of_dialogue r)
    asks (Ok done) answers ends lost = record {
      counts = counts;
      refused = λ other e. absurd cc;
      answers = answers;
      ends = ends;
      lost = λ loss e. absurd cc;
    }
    asks (Err stop) answers ends lost = record {
      counts = counts;
      refused = λ other e. absurd cc;
      answers = answers;
      ends = ends;
      lost = λ loss e parts tell.
          let same : stop ≡ stops.Lost loss = cc in
          lost parts tell loss (ap stopped_by same);
    }
