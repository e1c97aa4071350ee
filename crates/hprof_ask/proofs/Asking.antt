-- What a call answers that reads parts and answers questions.
use Rattle.std.proofs.Common.{◌≡◌, ℕ, List, Option, Some, None, Result, Ok, Err, refl, sym, subst, ◌∙◌, inl, inr}
use Rattle.std.specs.Prelude.{All}
use Rattle.hprof_devices.specs.declared.health.Health.{Health}
use Rattle.hprof_devices.specs.declared.health.Health.TheVariants as healths
use Rattle.hprof_devices.specs.declared.health.WriteFault.{WriteFault}
use Rattle.hprof_devices.specs.declared.health.WriteFault.TheVariants as writes
use Rattle.hprof_devices.specs.Device.{health_after}
use Rattle.hprof_values.specs.declared.ids.IdSize.{IdSize}
use Rattle.hprof_items.specs.FactValue.{FactValue}
use Rattle.hprof_stream.specs.declared.limits.Limits.{Limits}
use Rattle.hprof_stream.specs.declared.summary.PartSummary.{PartSummary}
use Rattle.hprof_rows.specs.HeapValue.{HeapValue}
use Rattle.hprof_heap.specs.State.{IsState}
use Rattle.hprof_engine.specs.declared.loss.Loss.{Loss}
use Rattle.hprof_engine.specs.declared.tool_fault.ToolFault.{ToolFault}
use Rattle.hprof_engine.specs.Joining.{Tell, Agree, IsHindered, IsOfReading, IsOkOrConflict, none_known}
use Rattle.hprof_engine.specs.Makes.{Reads}
use Rattle.hprof_engine.specs.Summaries.{AreSummaries}
use Rattle.hprof_ask.specs.declared.ask_fault.AskFault.{AskFault}
use Rattle.hprof_ask.specs.declared.ask_fault.AskFault.TheVariants as faults
use Rattle.hprof_questions.specs.declared.dialogue_fault.DialogueFault.{DialogueFault}
use Rattle.hprof_questions.specs.declared.dialogue_fault.DialogueFault.TheVariants as stops
use Rattle.hprof_ask.specs.Asks.{Asks}
use Rattle.hprof_questions.specs.Answering.{TellsLoss}
use Rattle.hprof_questions.specs.Dialogue.{AnswersDialogue, EndsDialogue}
use Rattle.hprof_ask.specs.HeapAnswers.{IsHeapAnswer}

-- the summaries that are held are those of the parts
pub held_are : (parts : List (List ℕ)) (summaries items list : List PartSummary) → items ≡ summaries → list ≡ items
    → AreSummaries parts summaries → AreSummaries parts list
held_are parts summaries items list held listed are = subst (AreSummaries parts) (sym held ∙ sym listed) are

-- after a fault of the writer it is not well
ill : (health : Health) (fault : WriteFault) → health ≡ health_after fault → health ≡ healths.Well → ⊥
ill health writes.Failed is was = cc
ill health writes.Stuck is was = cc

failed : (health : Health) → health ≡ healths.Failed → health ≡ healths.Well → ⊥
failed health is was = cc

module _ {R Q W : Type 0} (left : R → Option (List ℕ)) (health : R → Health) (pulls : R → ℕ) (asked : Q → Option (List ℕ))
    (asking : Q → Health) (turns : Q → ℕ) (written : W → Option (List ℕ)) (well : W → Health) (limits : Limits) (old new : List R)
    (was : Q) (before : W) where
  -- the parts were refused
  pub refuses : (fault : ToolFault) → IsOfReading (Some fault) → Reads left health pulls none_known limits old new (Some fault)
      → ((parts : List (List ℕ)) (ids : IdSize) (millis : ℕ) (facts : List FactValue) → Tell left old parts
      → IsState parts ids millis facts → All (λ reader. health reader ≡ healths.Well) new → (IsHindered (Some fault) → ⊥)
      → IsOkOrConflict (Some fault))
      → Asks left health pulls asked asking turns written well limits old new was was before before (Some (faults.Parts fault))
  refuses fault kind reads no_other = record {
    reads = reads;
    refused = λ other e. (refl, refl);
    kind = λ other e. let one : fault ≡ other = cc in inl (subst (λ (f : ToolFault). IsOfReading (Some f)) one kind);
    ok = λ e. absurd cc;
    questions = λ other e. absurd cc;
    write = λ other e. absurd cc;
    memory = λ e. absurd cc;
    lost = λ loss e. absurd cc;
    no_other = λ parts ids millis facts told state are_well asks is_well few unhindered unwanted.
        no_other parts ids millis facts told state are_well unhindered;
  }

  -- the fault that a dialogue ended with, if any
  abbrev pub fault_of_dialogue : Result (Unit {0}) DialogueFault → Option AskFault
  fault_of_dialogue (Ok done) = None
  fault_of_dialogue (Err stop) = Some (faults.Dialogue stop)

  -- the parts were read, and the dialogue ended
  module _ (heap : HeapValue) (agree : (parts : List (List ℕ)) → Tell left old parts → Agree parts heap.ids heap.millis heap.facts)
      (summaries : List PartSummary) (of_parts : (parts : List (List ℕ)) → Tell left old parts → AreSummaries parts summaries)
      (reads : Reads left health pulls none_known limits old new None) (is : Q) (after : W) where
    -- none of it was lost
    pub asks : (r : Result (Unit {0}) DialogueFault)
        → AnswersDialogue (IsHeapAnswer summaries heap.ids heap.facts) asked asking turns written well was is before after r
        → EndsDialogue asked asking turns well was is after r → TellsLoss (λ loss. ⊥) r
        → Asks left health pulls asked asking turns written well limits old new was is before after (fault_of_dialogue r)
    asks (Ok done) answers (bytes, consumed, ends) tells = record {
      reads = reads;
      refused = λ other e. absurd cc;
      kind = λ other e. absurd cc;
      ok = λ e. (
        record { heap = heap; agree = agree; summaries = summaries; of_parts = of_parts; holds = answers },
        ends.1,
        ends.2,
      );
      questions = λ other e. absurd cc;
      write = λ other e. absurd cc;
      memory = λ e. absurd cc;
      lost = λ loss e. absurd cc;
      no_other = λ parts ids millis facts told state are_well asks is_well few unhindered unwanted. tt;
    }
    asks (Err (stops.Questions fault)) answers (bytes, consumed, ends) tells = record {
      reads = reads;
      refused = λ other e. absurd cc;
      kind = λ other e. absurd cc;
      ok = λ e. absurd cc;
      questions = λ other e. (
        record { heap = heap; agree = agree; summaries = summaries; of_parts = of_parts; holds = answers },
        ends.1,
        ends.2,
      );
      write = λ other e. absurd cc;
      memory = λ e. absurd cc;
      lost = λ loss e. absurd cc;
      no_other = λ parts ids millis facts told state are_well asks is_well few unhindered unwanted. elim ends.1 [
        | inl ill_now ↦ absurd (failed (asking is) ill_now asks)
        | inr many ↦ absurd (few many)
      ];
    }
    asks (Err (stops.Write fault)) answers (bytes, consumed, ends) tells = record {
      reads = reads;
      refused = λ other e. absurd cc;
      kind = λ other e. absurd cc;
      ok = λ e. absurd cc;
      questions = λ other e. absurd cc;
      write = λ other e.
          let one : fault ≡ other = cc in (
            record { heap = heap; agree = agree; summaries = summaries; of_parts = of_parts; holds = answers },
            ends.0,
            subst (λ (f : WriteFault). well after ≡ health_after f) one ends.1,
          );
      memory = λ e. absurd cc;
      lost = λ loss e. absurd cc;
      no_other = λ parts ids millis facts told state are_well asks is_well few unhindered unwanted.
          absurd (ill (well after) fault ends.1 is_well);
    }
    asks (Err stops.OutOfMemory) answers (bytes, consumed, ends) tells = record {
      reads = reads;
      refused = λ other e. absurd cc;
      kind = λ other e. absurd cc;
      ok = λ e. absurd cc;
      questions = λ other e. absurd cc;
      write = λ other e. absurd cc;
      memory = λ e. (
        record { heap = heap; agree = agree; summaries = summaries; of_parts = of_parts; holds = answers },
        ends.0,
        ends.1,
      );
      lost = λ loss e. absurd cc;
      no_other = λ parts ids millis facts told state are_well asks is_well few unhindered unwanted. absurd (unwanted tt);
    }
    asks (Err (stops.Lost loss)) answers ends tells = absurd tells
