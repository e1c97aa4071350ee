-- What was run over by a queue is what a list takes.
use Rattle.std.proofs.Common.{◌≡◌, ℕ, false, List, [], ◌∷◌, ◌++◌, take, Option, Some, None, Err, inl, inr, refl, sym, ap, ◌∙◌}
use Rattle.std.proofs.Common.{subst, append_assoc, append-nil}
use Rattle.hprof_items.specs.declared.header.Header.{Header}
use Rattle.hprof_items.specs.FactValue.{FactValue}
use Rattle.hprof_stream.specs.declared.limits.Limits.{Limits}
use Rattle.hprof_stream.specs.declared.part_fault.PartFault.{PartFault}
use Rattle.hprof_stream.specs.declared.part_fault.PartFault.TheVariants as faults
use Rattle.hprof_stream.specs.declared.part_reader.PartReader.{PartReader}
use Rattle.hprof_stream.specs.declared.sink.SinkFault.{SinkFault}
use Rattle.hprof_stream.specs.Reader.{BeginsWhole, Feeds, IsUnheld, RanOver, RanUnheld, RefusesLast, header_of}
use Rattle.hprof_stream.specs.Run.{Run, Steps, became}
use Rattle.hprof_facts.specs.declared.queue.Queue.{Queue}
use Rattle.hprof_facts.specs.Listing as listing
use Rattle.hprof_facts.specs.Queues.{Holds, given_of, has_refused, queue_begins, queue_refuses, queue_steps}

-- ---- a run of a list

steps_list : (old facts : List FactValue) → Steps {S = List FactValue} listing.begins listing.steps old facts (old ++ facts)
steps_list old [] = sym (append-nil old)
steps_list old (fact ∷ facts) = (
  old ++ fact ∷ [],
  refl,
  subst (λ (l : List FactValue). Steps {S = List FactValue} listing.begins listing.steps (old ++ fact ∷ []) facts l) (append_assoc old
      (fact ∷ []) facts)
      (steps_list (old ++ fact ∷ []) facts),
)

pub run_lists : (old : List FactValue) (header : Option Header) (facts : List FactValue)
    → Run {S = List FactValue} listing.begins listing.steps old header facts (old ++ facts)
run_lists old None facts = steps_list old facts
run_lists old (Some header) facts = (old, refl, steps_list old facts)

-- ---- a run of a queue

-- the queue holds these facts, and has given none
pub record IsFilled (facts : List FactValue) (queue : Queue) : Type 0 where
  pub sound : has_refused queue ≡ false
  pub holds : Holds queue facts
  pub none : given_of queue ≡ 0

steps_hold : (old : Queue) (before facts : List FactValue) (new : Queue) → IsFilled before old
    → Steps {S = Queue} queue_begins queue_steps old facts new → IsFilled (before ++ facts) new
steps_hold old before [] new filled same =
    subst (λ (l : List FactValue). IsFilled l new) (sym (append-nil before)) (subst (λ (q : Queue). IsFilled before q) same filled)
steps_hold old before (fact ∷ facts) new filled run =
    let one = run.1 in
    let mid : IsFilled (before ++ fact ∷ []) run.0 =
    record { sound = one.0; holds = one.1 before filled.holds; none = one.2 ∙ filled.none } in
    subst (λ (l : List FactValue). IsFilled l new) (append_assoc before (fact ∷ []) facts)
    (steps_hold run.0 (before ++ fact ∷ []) facts new mid run.2)

-- an empty queue holds what it was run over
pub run_holds : (old : Queue) (header : Option Header) (facts : List FactValue) (new : Queue) → IsFilled [] old
    → Run {S = Queue} queue_begins queue_steps old header facts new → IsFilled facts new
run_holds old None facts new filled run = steps_hold old [] facts new filled run
run_holds old (Some header) facts new filled run =
    steps_hold run.0 [] facts new (record { sound = run.1.0; holds = run.1.1; none = run.1.2 }) run.2

-- ---- where feeding is refused

-- what a list comes to, from some facts on, where a queue came to that
--   handed: the facts that the queue was handed on the way
pub record IsListed (Comes : List FactValue → Type 0) (before : List FactValue) (new : Queue) : Type 0 where
  pub handed : List FactValue
  pub holds : Holds new handed
  pub none : given_of new ≡ 0
  pub comes : Comes (before ++ handed)

module _ (limits : Limits) (before facts : List FactValue) (from to : Option Header) (old new : Queue) (filled : IsFilled [] old) where
  over_lists : (longest : ℕ) (bytes : List ℕ) → RanOver {S = Queue} queue_begins queue_steps longest bytes facts from to old new
      → IsListed (RanOver {S = List FactValue} listing.begins listing.steps longest bytes facts from to before) before new
  over_lists longest bytes over =
      let held = run_holds old (became from to) over.handed new filled over.ran in
      record {
        handed = over.handed;
        holds = held.holds;
        none = held.none;
        comes = record { handed = over.handed; states = over.states; ran = run_lists before (became from to) over.handed };
      }

  unheld_lists : (front piece : List ℕ) (unheld : IsUnheld limits front piece)
      → RanUnheld {S = Queue} queue_begins queue_steps limits front piece unheld facts from old to new
      → IsListed (RanUnheld {S = List FactValue} listing.begins listing.steps limits front piece unheld facts from before to) before new
  unheld_lists front piece (inl all) ran = over_lists limits.max_item (front ++ piece) ran
  unheld_lists front piece (inr held) ran = record {
    handed = [];
    holds = subst (λ (q : Queue). Holds q []) ran.1 filled.holds;
    none = ap given_of (sym ran.1) ∙ filled.none;
    comes = (ran.0, sym (append-nil before));
  }

  refuses_lists : {longest : ℕ} {bytes : List ℕ} (whole : BeginsWhole longest bytes to) (fault : SinkFault)
      → RefusesLast {S = Queue} queue_begins queue_steps queue_refuses has_refused whole facts from old fault new
      → IsListed (RefusesLast {S = List FactValue} listing.begins listing.steps listing.refuses listing.failed whole facts from before
      fault)
      before new
  refuses_lists whole fault refuses =
      let ran = refuses.ran in
      let held = run_holds old _ ran.handed refuses.mid filled ran.ran in
      record {
        handed = ran.handed;
        holds = refuses.refused.0.1 ran.handed held.holds;
        none = refuses.refused.0.2 ∙ held.none;
        comes = record {
          mid = before ++ ran.handed;
          ran = record { stays = ran.stays; handed = ran.handed; has_facts = ran.has_facts; ran = run_lists before _ ran.handed };
          refused = ((refuses.refused.0.0 held.sound, refl), refl);
        };
      }

-- feeding a list is refused as feeding a queue is
pub feeds_lists : (limits : Limits) (bytes : List ℕ) (before facts : List FactValue) (from : PartReader) (piece : List ℕ) (old : Queue)
    (fault : PartFault) (to : PartReader) (new : Queue) → IsFilled [] old
    → Feeds {S = Queue} queue_begins queue_steps queue_refuses has_refused limits bytes facts from piece old (Err fault) to new
    → IsListed (Feeds {S = List FactValue} listing.begins listing.steps listing.refuses listing.failed limits bytes facts from piece before
    (Err fault) to) before new
feeds_lists limits bytes before facts from piece old fault to new filled fed = by fault fed
  where
    by : (f : PartFault) → Feeds {S = Queue} queue_begins queue_steps queue_refuses has_refused limits bytes facts from piece old (Err f)
        to new
        → IsListed (Feeds {S = List FactValue} listing.begins listing.steps listing.refuses listing.failed limits bytes facts from piece
        before
        (Err f) to) before new
    by faults.OutOfMemory lacks =
        let it = unheld_lists limits before facts (header_of from) (header_of to) old new filled bytes piece lacks.1.0 lacks.1.1 in
        record { handed = it.handed; holds = it.holds; none = it.none; comes = (lacks.0, (lacks.1.0, it.comes)) }
    by (faults.Sink why) refused =
        let it = refuses_lists limits before facts (header_of from) (header_of to) old new filled refused.0 why refused.1 in
        record { handed = it.handed; holds = it.holds; none = it.none; comes = (refused.0, it.comes) }
    by f is_fault =
        let it = over_lists limits before facts (header_of from) (header_of to) old new filled limits.max_item
        (take limits.max_bytes (bytes ++ piece)) is_fault.1 in
        record { handed = it.handed; holds = it.holds; none = it.none; comes = (is_fault.0, it.comes) }
