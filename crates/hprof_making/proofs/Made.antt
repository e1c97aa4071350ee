-- What is made of the parts that were read, where the writing of a product over their objects ended so.
use Rattle.std.proofs.Common.{◌≡◌, ℕ, List, [], length, Option, Some, None, Result, Ok, Err, inl, inr, sym, subst}
use Rattle.hprof_devices.specs.declared.health.Health.{Health}
use Rattle.hprof_devices.specs.declared.health.Health.TheVariants as healths
use Rattle.hprof_values.specs.declared.ids.IdSize.{IdSize}
use Rattle.hprof_items.specs.FactValue.{FactValue}
use Rattle.hprof_stream.specs.declared.limits.Limits.{Limits}
use Rattle.hprof_stream.specs.declared.summary.PartSummary.{PartSummary}
use Rattle.hprof_rows.specs.declared.key.Key.TheVariants as keys
use Rattle.hprof_rows.specs.HeapValue.{HeapValue}
use Rattle.hprof_passes.specs.declared.pass_fault.PassFault.{PassFault}
use Rattle.hprof_passes.specs.declared.pass_fault.PassFault.TheVariants.{Sink, Lost}
use Rattle.hprof_engine.specs.declared.product.ProductFault.{ProductFault}
use Rattle.hprof_engine.specs.declared.product.ProductFault.TheVariants as stops
use Rattle.hprof_engine.specs.declared.heap_fault.HeapFault.{HeapFault}
use Rattle.hprof_engine.specs.declared.tool_fault.ToolFault.{ToolFault}
use Rattle.hprof_engine.specs.Joining.{Agree, AreReadOut, Disagree, Tell}
use Rattle.hprof_engine.specs.Makes.{IsMadeOf, WritesAll, WritesFront, fault_of_stop}
use Rattle.hprof_engine.specs.Summaries.{AreSummaries}
use Rattle.hprof_engine.proofs.Making.{stopped}
use Rattle.hprof_stored.specs.declared.in_parts_fault.InPartsFault.{InPartsFault}
use Rattle.hprof_stored.specs.declared.in_parts_fault.InPartsFault.TheVariants as faults
use Rattle.hprof_stored.specs.InParts.{IsOfSame}
use Rattle.hprof_stored.specs.Reading.{ReadsStored}
use Rattle.hprof_stored.specs.Storing.{HaveObject}
use Rattle.hprof_stored.specs.StoredMaking.{IsOfLoss, fault_of_pass}
use Rattle.hprof_stored.proofs.StoredMakes.{MakesStored, done, failed, heap_refused, pass_makes, wants_behind}
use Rattle.hprof_stored.proofs.StoredReads.{all_read_so}
use Rattle.hprof_lines.specs.Passed.{WritesSome, WritesWhole}
use Rattle.hprof_making.specs.Over.{EndsOver, heap_with}

-- what the objects make up with the facts of the heap, that they make up some facts, and what their faults tell of the parts
module _ (heap : HeapValue) (MakeUp : List FactValue → Type 0) (agreed : Type 0) (Tells : InPartsFault → Type 0)
    (told : List (List ℕ)) where
  pub record AreOfParts : Type 0 where
    pub agree : agreed → (all : List FactValue) × Agree told heap.ids heap.millis all
    pub made_up : (ids : IdSize) (millis : ℕ) (all : List FactValue) → Agree told ids millis all
        → (ids ≡ heap.ids) × (millis ≡ heap.millis) × MakeUp all
    pub contents : (id : ℕ) → Tells (faults.TwoContents id) → Disagree told (keys.Object id)
    pub same : (fault : InPartsFault) → Tells fault → IsOfSame fault

  -- what a fault says of the parts
  pub of_loss : AreOfParts → (fault : InPartsFault) → Tells fault → IsOfLoss told fault
  of_loss are (faults.TwoContents id) tells = are.contents id tells
  of_loss are faults.TooMany tells = are.same faults.TooMany tells
  of_loss are faults.OutOfMemory tells = tt
  of_loss are (faults.Scratch fault) tells = are.same (faults.Scratch fault) tells
  of_loss are (faults.Part part fault) tells = are.same (faults.Part part fault) tells
  of_loss are faults.NoObject tells = are.same faults.NoObject tells

  module _ (IsText : List PartSummary → HeapValue → List ℕ → Type 0) (summaries : List PartSummary) (are : AreOfParts)
      (of_parts : AreSummaries told summaries) where
    made : (all : List FactValue) → Agree told heap.ids heap.millis all → (text : List ℕ) → IsText summaries (heap_with heap all) text
        → IsMadeOf IsText told text
    made all agree text is = record {
      heap = heap_with heap all;
      agree = agree;
      summaries = summaries;
      of_parts = of_parts;
      is = is;
    }

    -- all of it was written
    made_whole : agreed → (old new : Option (List ℕ))
        → WritesWhole MakeUp (λ all. IsText summaries (heap_with heap all)) old new → WritesAll (IsMadeOf IsText) told old new
    made_whole agrees old new writes =
        let all = are.agree agrees in
        let it = writes all.0 (are.made_up heap.ids heap.millis all.0 all.1).2 in
        (it.0, made all.0 all.1 it.0 it.1, it.2)

    -- a front of it was
    made_front : agreed → (old new : Option (List ℕ))
        → WritesSome MakeUp (λ all. IsText summaries (heap_with heap all)) old new → WritesFront (IsMadeOf IsText) told old new
    made_front agrees old new writes =
        let all = are.agree agrees in
        let it = writes all.0 (are.made_up heap.ids heap.millis all.0 all.1).2 in
        (it.0, it.1, made all.0 all.1 it.0 it.3, it.4)

-- ---- the answer of the call

module _ {R W : Type 0} (left : R → Option (List ℕ)) (health : R → Health) (pulls : R → ℕ) (limits : Limits) (old new : List R)
    (written : W → Option (List ℕ)) (well : W → Health) (IsText : List PartSummary → HeapValue → List ℕ → Type 0)
    (Refuses : HeapFault → HeapValue → Type 0) (before after : W) (some : old ≡ [] → ⊥)
    (stored : ReadsStored left health pulls limits old new None) (out : AreReadOut left health pulls limits old new (length old))
    (was_well : well before ≡ healths.Well)
    (heap : HeapValue) (MakeUp : List FactValue → Type 0) (agreed : Type 0) (Tells : InPartsFault → Type 0) (summaries : List PartSummary)
    (are : (told : List (List ℕ)) → Tell left old told → AreOfParts heap MakeUp agreed Tells told)
    (of_parts : (told : List (List ℕ)) → Tell left old told → AreSummaries told summaries) where
  abbrev pub Ends : Result (Unit {0}) (PassFault ProductFault InPartsFault) → Type 0
  Ends result =
      EndsOver MakeUp agreed Tells (λ all. IsText summaries (heap_with heap all)) (λ refusal all. Refuses refusal (heap_with heap all))
      written well before after result

  abbrev pub MakesSo : Option ToolFault → Type 0
  MakesSo ended = MakesStored left health pulls limits old new written well IsText Refuses before after ended

  front : agreed → WritesSome MakeUp (λ all. IsText summaries (heap_with heap all)) (written before) (written after)
      → (told : List (List ℕ)) → Tell left old told → WritesFront (IsMadeOf IsText) told (written before) (written after)
  front agrees writes told tell =
      made_front heap MakeUp agreed Tells told IsText summaries (are told tell) (of_parts told tell) agrees (written before)
      (written after) writes

  pub makes_whole : (u : Unit {0}) → Ends (Ok u) → MakesSo None
  makes_whole u ends =
      done left health pulls limits old new written well IsText Refuses before after
      (all_read_so left health pulls limits old new some stored out) ends.2
      (λ told tell. made_whole heap MakeUp agreed Tells told IsText summaries (are told tell) (of_parts told tell) ends.0 (written before)
      (written after) ends.1)

  -- the objects are lost
  pub makes_lost : (stop : PassFault ProductFault InPartsFault) (fault : InPartsFault) → stop ≡ Lost fault → Ends (Err stop)
      → MakesSo (Some (fault_of_pass fault))
  makes_lost (Lost known) fault is ends =
      let same : known ≡ fault = cc in
      subst (λ (f : InPartsFault). MakesSo (Some (fault_of_pass f))) same
      (pass_makes left health pulls limits old new written well IsText Refuses before after some stored out was_well ends.1 known
      (λ told tell. of_loss heap MakeUp agreed Tells told (are told tell) known ends.0))
  makes_lost (Sink stop) fault is ends = absurd cc

  -- writing stopped
  stop_so : (stop : ProductFault) → Ends (Err (Sink stop)) → MakesSo (Some (fault_of_stop stop))
  stop_so stops.OutOfMemory ends = elim ends [
    | inl same ↦ wants_behind left health pulls limits old new written well IsText Refuses before after some stored out
        (subst (λ (w : W). well w ≡ healths.Well) (sym same) was_well) (inl same)
    | inr wrote ↦ wants_behind left health pulls limits old new written well IsText Refuses before after some stored out wrote.2
        (inr (front wrote.0 wrote.1))
  ]
  stop_so (stops.Write fault) ends =
      failed left health pulls limits old new written well IsText Refuses before after fault
      (stopped left health pulls limits old new HaveObject (stops.Write fault)
      (all_read_so left health pulls limits old new some stored out))
      ends.2 (front ends.0 ends.1)
  stop_so (stops.Refused refusal) ends =
      heap_refused left health pulls limits old new written well IsText Refuses before after refusal
      (stopped left health pulls limits old new HaveObject (stops.Refused refusal)
      (all_read_so left health pulls limits old new some stored out))
      ends.2 (λ told tell.
      let its = are told tell in
      let all = its.agree ends.0 in
      (heap_with heap all.0, ends.1 all.0 (its.made_up heap.ids heap.millis all.0 all.1).2, all.1))

  pub makes_stopped : (stop : PassFault ProductFault InPartsFault) (why : ProductFault) → stop ≡ Sink why → Ends (Err stop)
      → MakesSo (Some (fault_of_stop why))
  makes_stopped (Sink known) why is ends =
      let same : known ≡ why = cc in subst (λ (s : ProductFault). MakesSo (Some (fault_of_stop s))) same (stop_so known ends)
  makes_stopped (Lost fault) why is ends = absurd cc
