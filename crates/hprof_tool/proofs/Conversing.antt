-- What answering questions about parts tells.
use Rattle.std.proofs.Common.{◌≡◌, inl, inr, ℕ, List, [], ◌++◌, append-nil, Option, Some, None, Result, refl, sym, ap, subst, ◌∙◌}
use Rattle.std.specs.Borrow.{Bor}
use Rattle.std.specs.Io.KnownBytes.{Consumes, IsAtEnd, append_known}
use Rattle.hprof_devices.specs.declared.health.Health.{Health}
use Rattle.hprof_engine.specs.declared.tool_fault.ToolFault.{ToolFault}
use Rattle.hprof_engine.specs.declared.tool_fault.ToolFault.TheVariants as tool
use Rattle.hprof_engine.specs.declared.loss.Loss.{Loss}
use Rattle.hprof_engine.specs.Joining.{IsOfReading, Tell, none_known}
use Rattle.hprof_engine.specs.Makes.{IsChange}
use Rattle.hprof_stored.specs.StoredMaking.{stored_dump_making}
use Rattle.hprof_stored.specs.Storing.{HaveObject}
use Rattle.hprof_diff.specs.Comparing.{IsOfCounting}
use Rattle.hprof_questions.specs.declared.question.Question.{Question}
use Rattle.hprof_questions.specs.declared.dialogue_fault.DialogueFault.{DialogueFault}
use Rattle.hprof_questions.specs.declared.dialogue_fault.DialogueFault.TheVariants as stops
use Rattle.hprof_questions.specs.Dialogue.{AnswersBefore, AnswersDialogue, AnswersLines, AnswersSome, AreOpenLines, Came, EndsDialogue}
use Rattle.hprof_questions.specs.Dialogue.{IsOver}
use Rattle.hprof_questions.specs.Lines.{AreLines}
use Rattle.hprof_ask.specs.declared.ask_fault.AskFault.{AskFault}
use Rattle.hprof_ask.specs.declared.ask_fault.AskFault.TheVariants as faults
use Rattle.hprof_ask.specs.HeapAnswers.{IsHeapAnswer}
use Rattle.hprof_ask.specs.Asks.{Asks, PassesAnswersOn, fault_of_parts}
use Rattle.hprof_ask.specs.Asks as asking
use Rattle.hprof_large.specs.AskingStored.{AsksStored, OfDialogue, OverTold}
use Rattle.hprof_questions.proofs.Hearing.{before_for, some_for}
use Rattle.hprof_questions.proofs.QuitLines.{quit_answers}
use Rattle.hprof_tool.specs.declared.program.refused.Refused.{Refused}
use Rattle.hprof_tool.specs.declared.program.refused.Refused.TheVariants as refusals
use Rattle.hprof_tool.specs.Folder.{Answered, AreOpened}
use Rattle.hprof_tool.specs.Program.{IsOfOpening, IsReportRefusal, usual_limits}
use Rattle.hprof_devices.specs.declared.health.ReadFault.{ReadFault}
use Rattle.hprof_tool.specs.Conversing.{AsksReaders, CannotReadOn, AnswersAll, LeavesAnswers, LosesObjects, OfFront, OverFiles, OverReaders}
use Rattle.hprof_tool.specs.Conversing.{SaysOfReaders, refused_asking}
use Rattle.hprof_tool.proofs.Files.{of_reporting}
use Rattle.hprof_tool.proofs.Making.{no_parts_told, none_added}
use Rattle.hprof_tool.proofs.Weaker.{other_reads}

-- what came of known questions is a front of them, and the rest is what is left
front_of : (old new : Option (List ℕ)) (questions bytes : List ℕ) → old ≡ Some questions → Consumes old new bytes
    → (rest : List ℕ) × (questions ≡ bytes ++ rest) × (IsAtEnd new → rest ≡ [])
front_of None new questions bytes known came = absurd cc
front_of (Some all) None questions bytes known came = absurd came
front_of (Some all) (Some rest) questions bytes known came =
    (rest, let same : questions ≡ all = cc in same ∙ came, λ none. none)

-- and all of them where none is left
all_of : (old new : Option (List ℕ)) (questions bytes : List ℕ) → old ≡ Some questions → Consumes old new bytes → IsAtEnd new
    → bytes ≡ questions
all_of None new questions bytes known came none = absurd cc
all_of (Some all) None questions bytes known came none = absurd came
all_of (Some all) (Some rest) questions bytes known came none =
    let same : questions ≡ all = cc in sym (same ∙ came ∙ ap (λ (r : List ℕ). bytes ++ r) none ∙ append-nil bytes)

-- ---- what either way of asking says

module _ {R Q W : Type 0} (left : R → Option (List ℕ)) (health : R → Health) (pulls : R → ℕ) (asked : Q → Option (List ℕ))
    (how : Q → Health) (turns : Q → ℕ) (written : W → Option (List ℕ)) (well : W → Health) (readers new : List R) (was is : Q)
    (before after : W) where
  abbrev Kept : Option AskFault → Type 0
  Kept ended = Asks left health pulls asked how turns written well usual_limits readers new was is before after ended

  abbrev Stored : Option AskFault → Type 0
  Stored ended = AsksStored left health pulls asked how turns written well usual_limits readers new was is before after ended

  abbrev IsAnswered : Result (Unit {0}) DialogueFault → Type 0
  IsAnswered result = (parts : List (List ℕ)) → Tell left readers parts
      → OverTold parts (λ IsAnswer. AnswersDialogue IsAnswer asked how turns written well was is before after result)

  -- what holds over the heap of the parts, if they are told, holds over that of told parts
  over_told : (Holds : (Question → List ℕ → Type 0) → Type 0) → asking.OverParts left readers Holds
      → (parts : List (List ℕ)) → Tell left readers parts → OverTold parts Holds
  over_told Holds over parts told = record {
    heap = over.heap;
    agree = over.agree parts told;
    summaries = over.summaries;
    of_parts = over.of_parts parts told;
    holds = over.holds;
  }

  kept_answers : (ended : Option AskFault) → Kept ended → OfDialogue ended IsAnswered
  kept_answers None a = over_told _ (a.ok refl).0
  kept_answers (Some (faults.Parts fault)) a = tt
  kept_answers (Some (faults.Dialogue (stops.Questions fault))) a = over_told _ (a.questions fault refl).0
  kept_answers (Some (faults.Dialogue (stops.Write fault))) a = over_told _ (a.write fault refl).0
  kept_answers (Some (faults.Dialogue stops.OutOfMemory)) a = over_told _ (a.memory refl).0
  kept_answers (Some (faults.Dialogue (stops.Lost loss))) a = absurd (a.lost loss refl)

  -- a fault of reading is one of counting, and so is want of memory
  counting : (fault : ToolFault) → IsOfReading (Some fault) → IsOfCounting (Some fault)
  counting (tool.Part index fault) kind = tt
  counting tool.NoParts kind = tt
  counting tool.IdSizes kind = tt
  counting (tool.Conflict key) kind = tt
  counting (tool.Write fault) kind = absurd kind
  counting (tool.Refused refusal) kind = absurd kind
  counting (tool.Lost loss) kind = absurd kind
  counting tool.OutOfMemory kind = absurd kind

  kept_kind : (ended : Option AskFault) → Kept ended → IsOfCounting (fault_of_parts ended)
  kept_kind None a = tt
  kept_kind (Some (faults.Parts fault)) a = elim (a.kind fault refl) [
    | inl kind ↦ counting fault kind
    | inr none ↦ subst (λ (f : ToolFault). IsOfCounting (Some f)) (sym none.0) tt
  ]
  kept_kind (Some (faults.Dialogue stop)) a = tt

  -- objects in memory are never lost
  kept_lost : (ended : Option AskFault) → Kept ended → (loss : Loss) → LosesObjects ended loss → ⊥
  kept_lost ended a loss (inl parts) = elim (a.kind (tool.Lost loss) parts) [
    | inl kind ↦ kind
    | inr none ↦ let never : tool.Lost loss ≡ tool.OutOfMemory = none.0 in cc
  ]
  kept_lost ended a loss (inr dialogue) = a.lost loss dialogue

  pub of_kept : (ended : Option AskFault) → Kept ended
      → AsksReaders left health pulls asked how turns written well readers new was is before after ended
  of_kept ended a = record {
    reads = other_reads left health pulls none_known HaveObject (λ facts known. absurd known) usual_limits readers new
        (fault_of_parts ended) a.reads;
    refused = a.refused;
    kind = kept_kind ended a;
    changed = λ loss lost parts told change. kept_lost ended a loss lost;
    answers = kept_answers ended a;
    cause = λ fault e. (a.questions fault e).1;
  }

  stored_changed : (ended : Option AskFault) → Stored ended → (loss : Loss) → LosesObjects ended loss → (parts : List (List ℕ))
      → Tell left readers parts → IsChange loss → ⊥
  stored_changed ended a loss (inl refused) parts told change = (a.counts.lost loss (ap fault_of_parts refused)).1 parts told change
  stored_changed ended a loss (inr dialogue) parts told change = a.lost loss dialogue parts told change

  stored_cause : (ended : Option AskFault) → OfDialogue ended (λ result. EndsDialogue asked how turns well was is after result)
      → (fault : ReadFault) → ended ≡ Some (faults.Dialogue (stops.Questions fault)) → CannotReadOn how turns is
  stored_cause (Some (faults.Dialogue (stops.Questions why))) ends fault same = ends.2.1
  stored_cause (Some (faults.Dialogue (stops.Write why))) ends fault same = absurd cc
  stored_cause (Some (faults.Dialogue (stops.Lost loss))) ends fault same = absurd cc
  stored_cause (Some (faults.Dialogue stops.OutOfMemory)) ends fault same = absurd cc
  stored_cause (Some (faults.Parts why)) ends fault same = absurd cc
  stored_cause None ends fault same = absurd cc

  pub of_stored : (ended : Option AskFault) → Stored ended
      → AsksReaders left health pulls asked how turns written well readers new was is before after ended
  of_stored ended a = record {
    reads = a.counts.reads;
    refused = a.refused;
    kind = a.counts.kind;
    changed = stored_changed ended a;
    answers = a.answers;
    cause = stored_cause ended a.ends;
  }

-- ---- what asking leaves

module _ {R Q W O : Type 0} (left : R → Option (List ℕ)) (health : R → Health) (pulls : R → ℕ) (asked : Q → Option (List ℕ))
    (how : Q → Health) (turns : Q → ℕ) (written : W → Option (List ℕ)) (well : W → Health) (contents : O → Option (List ℕ))
    (readers new : List R) (was is : Q) (before after : W) (first last : O) where
  abbrev Asked : Option AskFault → Type 0
  Asked ended = AsksReaders left health pulls asked how turns written well readers new was is before after ended

  abbrev Over : ((Question → List ℕ → Type 0) → List ℕ → Type 0) → Type 0
  Over = OverReaders left asked readers was

  -- what holds of a front of the questions and of the rest, of what the writer held and holds
  abbrev Fronts : (Holds : (Question → List ℕ → Type 0) → (front rest : List ℕ) → Option (List ℕ) → Option (List ℕ) → Type 0)
      → (start now : Option (List ℕ)) → Type 0
  Fronts Holds start now = Over (λ IsAnswer questions. OfFront questions (λ front rest. Holds IsAnswer front rest start now))

  -- that came of the questions of told parts
  abbrev Comings : ((Question → List ℕ → Type 0) → List ℕ → Option (List ℕ) → Option (List ℕ) → Type 0) → Type 0
  Comings Comes = (parts : List (List ℕ)) → Tell left readers parts
      → OverTold parts (λ IsAnswer. Came IsAnswer asked how turns written well was is before after (Comes IsAnswer))

  -- what came is a front of the questions
  fronts : (Comes : (Question → List ℕ → Type 0) → List ℕ → Option (List ℕ) → Option (List ℕ) → Type 0)
      (Holds : (Question → List ℕ → Type 0) → (front rest : List ℕ) → Option (List ℕ) → Option (List ℕ) → Type 0)
      → ((IsAnswer : Question → List ℕ → Type 0) (front rest : List ℕ) (start now : Option (List ℕ)) → (IsAtEnd (asked is) → rest ≡ [])
      → Comes IsAnswer front start now → Holds IsAnswer front rest start now)
      → Comings Comes → Fronts Holds (written before) (written after)
  fronts Comes Holds holds answers = λ parts told questions known.
      let over = answers parts told in
      let came = over.holds in
      let front = front_of (asked was) (asked is) questions came.bytes known came.consumed in
      record {
        heap = over.heap;
        agree = over.agree;
        summaries = over.summaries;
        of_parts = over.of_parts;
        holds = record {
          front = came.bytes;
          rest = front.0;
          is = front.1;
          holds = holds (IsHeapAnswer over.summaries over.heap.ids over.heap.facts) came.bytes front.0 (written before) (written after)
              front.2 came.holds;
        };
      }

  -- lines that ended are answered, and some answers were written, and all but the last
  abbrev Ended : (Question → List ℕ → Type 0) → (front rest : List ℕ) → Option (List ℕ) → Option (List ℕ) → Type 0
  Ended IsAnswer front rest start now = AnswersLines IsAnswer AreOpenLines front start now

  abbrev First : (Question → List ℕ → Type 0) → (front rest : List ℕ) → Option (List ℕ) → Option (List ℕ) → Type 0
  First IsAnswer front rest start now = AnswersSome IsAnswer (rest ≡ []) front start now

  abbrev ButLast : (Question → List ℕ → Type 0) → (front rest : List ℕ) → Option (List ℕ) → Option (List ℕ) → Type 0
  ButLast IsAnswer front rest start now = AnswersBefore IsAnswer (rest ≡ []) front start now

  ended_fronts : Comings (λ IsAnswer. AnswersLines IsAnswer AreOpenLines) → Fronts Ended (written before) (written after)
  ended_fronts = fronts (λ IsAnswer. AnswersLines IsAnswer AreOpenLines) Ended (λ IsAnswer front rest start now end holds. holds)

  first_fronts : Comings (λ IsAnswer. AnswersSome IsAnswer (IsAtEnd (asked is))) → Fronts First (written before) (written after)
  first_fronts = fronts (λ IsAnswer. AnswersSome IsAnswer (IsAtEnd (asked is))) First
      (λ IsAnswer front rest start now end holds. some_for IsAnswer (IsAtEnd (asked is)) (rest ≡ []) end front start now holds)

  but_last_fronts : Comings (λ IsAnswer. AnswersBefore IsAnswer (IsAtEnd (asked is))) → Fronts ButLast (written before) (written after)
  but_last_fronts = fronts (λ IsAnswer. AnswersBefore IsAnswer (IsAtEnd (asked is))) ButLast
      (λ IsAnswer front rest start now end holds. before_for IsAnswer (IsAtEnd (asked is)) (rest ≡ []) end front start now holds)

  -- the same of the stream that was there at first, and is at last
  of_streams : (Holds : (Question → List ℕ → Type 0) → (front rest : List ℕ) → Option (List ℕ) → Option (List ℕ) → Type 0)
      → (start now start' now' : Option (List ℕ)) → start ≡ start' → now ≡ now' → Fronts Holds start now → Fronts Holds start' now'
  of_streams Holds start now start' now' same_start same_now holds =
      subst (Fronts Holds start') same_now (subst (λ (s : Option (List ℕ)). Fronts Holds s now) same_start holds)

  -- all known questions are answered, whether they came to an end or a line ended the dialogue
  over_all : (IsAnswer : Question → List ℕ → Type 0) → IsOver IsAnswer asked how turns written well was is before after
      → (questions : List ℕ) → asked was ≡ Some questions → AnswersLines IsAnswer AreLines questions (written before) (written after)
  over_all IsAnswer (inl (came, end)) questions known =
      subst (λ (bytes : List ℕ). AnswersLines IsAnswer AreLines bytes (written before) (written after))
      (all_of (asked was) (asked is) questions came.bytes known came.consumed end) came.holds
  over_all IsAnswer (inr came) questions known =
      let front = front_of (asked was) (asked is) questions came.bytes known came.consumed in
      subst (λ (bytes : List ℕ). AnswersLines IsAnswer AreLines bytes (written before) (written after)) (sym front.1)
      (quit_answers IsAnswer came.bytes front.0 (written before) (written after) came.holds)

  module _ (at_first : written before ≡ contents first) where
    -- all is answered
    pub answered_all : (written after ≡ contents last) → Asked None → AnswersAll contents first Over last
    answered_all at_last a = λ parts told questions known.
        let over = a.answers parts told in
        let answers = IsHeapAnswer over.summaries over.heap.ids over.heap.facts in
        let at_start : AnswersLines answers AreLines questions (contents first) (written after) =
        subst (λ (start : Option (List ℕ)). AnswersLines answers AreLines questions start (written after)) at_first
        (over_all answers over.holds questions known) in
        record {
          heap = over.heap;
          agree = over.agree;
          summaries = over.summaries;
          of_parts = over.of_parts;
          holds = subst (λ (now : Option (List ℕ)). AnswersLines answers AreLines questions (contents first) now) at_last at_start;
        }

    module _ (unwritten : List ℕ) (at_last : written after ≡ append_known (contents last) unwritten) (same : after ≡ before
        → last ≡ first) where
      refused_parts : (fault : ToolFault) → Asked (Some (faults.Parts fault)) → Some last ≡ Some first
      refused_parts fault a = ap Some (same (a.refused fault refl).1)

      -- a loss says that objects are read again, and that no part has changed
      says_lost : (loss : Loss) → ((parts : List (List ℕ)) → Tell left readers parts → IsChange loss → ⊥)
          → SaysOfReaders left health pulls readers new (refusals.Engine (tool.Lost loss))
      says_lost loss same_parts = (tt, λ parts told. (tt, same_parts parts told))

      -- it is none of writing, and no heap is refused
      of_parts_refused : (fault : ToolFault) → Asked (Some (faults.Parts fault)) → IsOfCounting (Some fault)
          → LeavesAnswers contents first Over (SaysOfReaders left health pulls readers new) (refused_asking (faults.Parts fault))
          (Some last)
      of_parts_refused (tool.Part index fault) a kind = (
        (tt, λ parts told. a.reads.part index fault refl parts told),
        refused_parts (tool.Part index fault) a,
      )
      of_parts_refused tool.NoParts a kind =
          ((tt, λ parts told. no_parts_told left readers parts (a.reads.no_parts.0 refl) told), refused_parts tool.NoParts a)
      of_parts_refused tool.IdSizes a kind = ((tt, λ parts told. a.reads.id_sizes refl parts told), refused_parts tool.IdSizes a)
      of_parts_refused (tool.Conflict key) a kind =
          ((tt, λ parts told. a.reads.conflict key refl parts told), refused_parts (tool.Conflict key) a)
      of_parts_refused (tool.Write fault) a kind = absurd kind
      of_parts_refused (tool.Refused refusal) a kind = absurd kind
      of_parts_refused (tool.Lost loss) a kind =
          (says_lost loss (a.changed loss (inl refl)), inl (same (a.refused (tool.Lost loss) refl).1))
      of_parts_refused tool.OutOfMemory a kind = inl (same (a.refused tool.OutOfMemory refl).1)

      -- nothing is left behind
      none_left : unwritten ≡ [] → written after ≡ contents last
      none_left none = at_last ∙ ap (append_known (contents last)) none ∙ none_added (contents last)

      -- what stopped says, and leaves
      pub stopped : (fault : AskFault) → PassesAnswersOn (Some fault) (unwritten ≡ []) → Asked (Some fault)
          → LeavesAnswers contents first Over (SaysOfReaders left health pulls readers new) (refused_asking fault) (Some last)
      stopped (faults.Parts fault) passes a = of_parts_refused fault a a.kind
      stopped (faults.Dialogue (stops.Questions fault)) none a =
          of_streams Ended _ _ _ _ at_first (none_left none) (ended_fronts a.answers)
      stopped (faults.Dialogue (stops.Write fault)) passes a =
          (unwritten, of_streams First _ _ _ _ at_first at_last (first_fronts a.answers))
      stopped (faults.Dialogue (stops.Lost loss)) none a = (
        says_lost loss (a.changed loss (inr refl)),
        inr (of_streams ButLast _ _ _ _ at_first (none_left none) (but_last_fronts a.answers)),
      )
      stopped (faults.Dialogue stops.OutOfMemory) none a =
          inr (of_streams First _ _ _ _ at_first (none_left none) (first_fronts a.answers))

-- ---- why questions are not read on

-- the questions are refused only where their source cannot be read on
pub cannot_read_on : {Q : Type 0} (state : Q → Health) (turns : Q → ℕ) (is : Q) (fault : AskFault)
    → ((why : ReadFault) → fault ≡ faults.Dialogue (stops.Questions why) → CannotReadOn state turns is)
    → refused_asking fault ≡ refusals.Questions → CannotReadOn state turns is
cannot_read_on state turns is (faults.Dialogue (stops.Questions why)) cannot same = cannot why refl
cannot_read_on state turns is (faults.Dialogue (stops.Write why)) cannot same = absurd cc
cannot_read_on state turns is (faults.Dialogue (stops.Lost loss)) cannot same = absurd cc
cannot_read_on state turns is (faults.Dialogue stops.OutOfMemory) cannot same = absurd cc
cannot_read_on state turns is (faults.Parts (tool.Part index why)) cannot same = absurd cc
cannot_read_on state turns is (faults.Parts tool.NoParts) cannot same = absurd cc
cannot_read_on state turns is (faults.Parts tool.IdSizes) cannot same = absurd cc
cannot_read_on state turns is (faults.Parts (tool.Conflict key)) cannot same = absurd cc
cannot_read_on state turns is (faults.Parts (tool.Refused refusal)) cannot same = absurd cc
cannot_read_on state turns is (faults.Parts (tool.Write why)) cannot same = absurd cc
cannot_read_on state turns is (faults.Parts (tool.Lost loss)) cannot same = absurd cc
cannot_read_on state turns is (faults.Parts tool.OutOfMemory) cannot same = absurd cc

-- ---- of files

module _ {P W I Q O : Type 0} (answered : Answered P W) (tells : P → Option (List ℕ)) (left : I → Option (List ℕ))
    (contents : O → Option (List ℕ)) (names : List (Bor (List ℕ))) (input : I) (old : O) (parts : List P)
    (opened : AreOpened answered names parts) (asked : Q → Option (List ℕ)) (source : Q) (same : asked source ≡ left input) where
  abbrev OfReaders : ((Question → List ℕ → Type 0) → List ℕ → Type 0) → Type 0
  OfReaders = OverReaders tells asked parts source

  abbrev OfFiles : ((Question → List ℕ → Type 0) → List ℕ → Type 0) → Type 0
  OfFiles = OverFiles answered tells left contents names input old

  -- what holds of the readers of these files holds of the files
  pub over_files : (Holds : (Question → List ℕ → Type 0) → List ℕ → Type 0) → OfReaders Holds → OfFiles Holds
  over_files Holds over =
      record { parts = parts; opened = opened; holds = λ told tell questions known. over told tell questions (same ∙ known) }

-- what a refusal says of the readers of these files it says of the files
pub says_files : {P W : Type 0} (answered : Answered P W) (tells : P → Option (List ℕ)) (health : P → Health) (pulls : P → ℕ)
    (names : List (Bor (List ℕ))) (parts read : List P) → AreOpened answered names parts → (refused : Refused)
    → SaysOfReaders tells health pulls parts read refused → IsReportRefusal stored_dump_making answered tells health pulls names refused
says_files answered tells health pulls names parts read opened refused says =
    of_reporting stored_dump_making answered tells health pulls names parts read opened refused says.0 says.1

-- what a refusal leaves, where what holds of the answers holds over something else, too
module _ {O : Type 0} (contents : O → Option (List ℕ)) (old : O) (From To : ((Question → List ℕ → Type 0) → List ℕ → Type 0) → Type 0)
    (over : (Holds : (Question → List ℕ → Type 0) → List ℕ → Type 0) → From Holds → To Holds) (Says Tells : Refused → Type 0)
    (says : (refused : Refused) → Says refused → Tells refused) where
  pub leaves_over : (refused : Refused) (new : Option O) → LeavesAnswers contents old From Says refused new
      → LeavesAnswers contents old To Tells refused new
  leaves_over refusals.Questions (Some new) leaves = over _ leaves
  leaves_over refusals.Questions None leaves = leaves
  leaves_over (refusals.Engine (tool.Write fault)) (Some new) leaves = (leaves.0, over _ leaves.1)
  leaves_over (refusals.Engine (tool.Write fault)) None leaves = leaves
  leaves_over refusals.OutOfMemory (Some new) leaves = elim leaves [
    | inl none ↦ inl none
    | inr some ↦ inr (over _ some)
  ]
  leaves_over refusals.OutOfMemory None leaves = tt
  leaves_over (refusals.Engine (tool.Part index fault)) new leaves = (says (refusals.Engine (tool.Part index fault)) leaves.0, leaves.1)
  leaves_over (refusals.Engine tool.NoParts) new leaves = (says (refusals.Engine tool.NoParts) leaves.0, leaves.1)
  leaves_over (refusals.Engine tool.IdSizes) new leaves = (says (refusals.Engine tool.IdSizes) leaves.0, leaves.1)
  leaves_over (refusals.Engine (tool.Conflict key)) new leaves = (says (refusals.Engine (tool.Conflict key)) leaves.0, leaves.1)
  leaves_over (refusals.Engine (tool.Refused refusal)) new leaves = leaves
  leaves_over (refusals.Engine (tool.Lost loss)) (Some new) leaves = (
    says (refusals.Engine (tool.Lost loss)) leaves.0,
    elim leaves.1 [
      | inl none ↦ inl none
      | inr some ↦ inr (over _ some)
    ],
  )
  leaves_over (refusals.Engine (tool.Lost loss)) None leaves = leaves
  leaves_over (refusals.Engine tool.OutOfMemory) new leaves = leaves
  leaves_over (refusals.Dump place fault) new leaves = leaves
  leaves_over (refusals.Open index) new leaves = (says (refusals.Open index) leaves.0, leaves.1)
  leaves_over refusals.Create new leaves = leaves

-- the same questions, which another source gives
module _ {P W I Q O : Type 0} (answered : Answered P W) (tells : P → Option (List ℕ)) (left : I → Option (List ℕ))
    (asked : Q → Option (List ℕ))
    (contents : O → Option (List ℕ)) (names : List (Bor (List ℕ))) (input : I) (source : Q) (old : O)
    (same : asked source ≡ left input) where
  pub same_questions : (Holds : (Question → List ℕ → Type 0) → List ℕ → Type 0)
      → OverFiles answered tells asked contents names source old Holds → OverFiles answered tells left contents names input old Holds
  same_questions Holds over = record {
    parts = over.parts;
    opened = over.opened;
    holds = λ told tell questions known. over.holds told tell questions (same ∙ known);
  }

-- where a part cannot be opened, the stream is as it was
pub cannot_ask : {P W O : Type 0} (answered : Answered P W) (tells : P → Option (List ℕ)) (health : P → Health) (pulls : P → ℕ)
    (contents : O → Option (List ℕ))
    (names : List (Bor (List ℕ))) (old : O) (Holding : ((Question → List ℕ → Type 0) → List ℕ → Type 0) → Type 0) (refused : Refused)
    → IsOfOpening answered names refused
    → LeavesAnswers contents old Holding (IsReportRefusal stored_dump_making answered tells health pulls names) refused (Some old)
cannot_ask answered tells health pulls contents names old Holding (refusals.Engine fault) is = absurd is
cannot_ask answered tells health pulls contents names old Holding (refusals.Dump place fault) is = absurd is
cannot_ask answered tells health pulls contents names old Holding (refusals.Open index) is = (is, refl)
cannot_ask answered tells health pulls contents names old Holding refusals.Create is = absurd is
cannot_ask answered tells health pulls contents names old Holding refusals.Questions is = absurd is
cannot_ask answered tells health pulls contents names old Holding refusals.OutOfMemory is = inl refl
