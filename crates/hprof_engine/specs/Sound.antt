-- What is saved of parts, beside their first faults, and where they have none.
use Rattle.std.specs.Prelude.{◌≡◌, ℕ, ◌<◌, List, [], length, All, Option, Some, None, Result, Ok, Err, IfOk}
use Rattle.std.specs.List.{AllByRecursion}
use Rattle.hprof_devices.specs.declared.health.Health.{Health}
use Rattle.hprof_devices.specs.declared.health.Health.TheVariants as healths
use Rattle.hprof_items.specs.declared.header.Header.{Header}
use Rattle.hprof_items.specs.FactValue.{FactValue}
use Rattle.hprof_stream.specs.declared.limits.Limits.{Limits}
use Rattle.hprof_stream.specs.declared.part_fault.PartFault.{PartFault}
use Rattle.hprof_stream.specs.Part.{IsPart, all_facts}
use Rattle.hprof_stream.specs.Item.{header_before}
use Rattle.hprof_stream.specs.Fault.{IsFirstFault}
use Rattle.hprof_rows.specs.HeapValue.{HeapValue}
use Rattle.hprof_heap.specs.declared.standing.Refusal.{Refusal}
use Rattle.hprof_heap.specs.declared.standing.Refusal.TheVariants as refusals
use Rattle.hprof_heap.specs.State.{HaveTwoSizes}
use Rattle.hprof_engine.specs.declared.tool_fault.ToolFault.{ToolFault}
use Rattle.hprof_engine.specs.Joining.{Tell, Agree, Disagree, AreJoined, IsAccepted, fault_of}
use Rattle.hprof_engine.specs.Makes.{IsDump, WritesAll, Makes, dump_making}
use Rattle.hprof_engine.specs.declared.salvaged.Salvaged.{Salvaged}

-- what the parts come to where they are joined
abbrev pub JoinsTo : List (List ℕ) → Result HeapValue Refusal → Type 0
JoinsTo parts (Ok heap) = Agree parts heap.ids heap.millis heap.facts
JoinsTo parts (Err refusals.NoParts) = parts ≡ []
JoinsTo parts (Err refusals.IdSizes) = HaveTwoSizes parts
JoinsTo parts (Err (refusals.Conflict key)) = Disagree parts key
JoinsTo parts (Err refusals.Failed) = ⊥

-- the whole and right items before the first fault have this header and state these facts
pub record StandsBefore (longest : ℕ) (bytes : List ℕ) (fault : PartFault) (header : Option Header) (facts : List FactValue) : Type 0 where
  pub first : IsFirstFault longest bytes fault
  pub has_header : header_before first.place ≡ header
  pub has_facts : all_facts first.items ≡ facts

-- the part has this header and states these facts
abbrev pub IsAllOf : List ℕ → Option Header → List FactValue → Type 0
IsAllOf bytes None facts = ⊥
IsAllOf bytes (Some header) facts = IsPart bytes header.ids header.millis facts

-- where no fault is listed, the parts that the readers tell are joined: their canonical dump was written, and they are counted
--   left, written: what a reader has left to tell, what a writer holds, where it tells;  old: the readers;  before, after: the writer
abbrev pub IsAsJoined : {R W : Type 0} → (left : R → Option (List ℕ)) → (written : W → Option (List ℕ)) → (old : List R)
    → (before after : W) → Salvaged → Type 0
IsAsJoined left written old before after salvaged = salvaged.faults.items ≡ [] → (parts : List (List ℕ)) → Tell left old parts
    → AreJoined parts salvaged.joined × WritesAll IsDump parts (written before) (written after)

-- no part has a fault: the readers tell these parts, each is accepted and has fewer bytes than reads may be made, and no reader failed
--   left, health: what a reader has left to tell, and how it is doing;  old, new: the readers, before and afterwards
pub record HaveNoFault {R : Type 0} (left : R → Option (List ℕ)) (health : R → Health) (limits : Limits) (old new : List R)
    (parts : List (List ℕ)) : Type 0 where
  pub told : Tell left old parts
  pub accepted : AllByRecursion (IsAccepted limits) parts
  pub few : AllByRecursion (λ bytes. length bytes < limits.max_reads) parts
  pub well : All (λ reader. health reader ≡ healths.Well) new

-- the answer is that of `join_to`: all that it says of the parts, of what was written and of the numbers; and no fault is listed
--   left, health, pulls: what a reader has left to tell, how it is doing, how often it was pulled
--   written, well: what a writer holds, where it tells, and how it is doing
--   old, new: the readers, before and afterwards;  before, after: the writer
pub record AnswersAsJoin {R W : Type 0} (left : R → Option (List ℕ)) (health : R → Health) (pulls : R → ℕ) (limits : Limits)
    (old new : List R)
    (written : W → Option (List ℕ)) (well : W → Health) (before after : W) (result : Result Salvaged ToolFault) : Type 0 where
  pub makes : Makes left health pulls written well limits dump_making old new before after (fault_of result)
  pub joined : IfOk result (λ salvaged. (parts : List (List ℕ)) → Tell left old parts → AreJoined parts salvaged.joined)
  pub unlisted : IfOk result (λ salvaged. salvaged.faults.items ≡ [])
