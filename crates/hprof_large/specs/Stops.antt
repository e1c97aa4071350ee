-- The stop with which an answer ends.
use Rattle.std.specs.Prelude.{◌≡◌, Result, Ok, Err}
use Rattle.hprof_engine.specs.declared.loss.Loss.{Loss}
use Rattle.hprof_engine.specs.declared.loss.Loss.TheVariants as losses
use Rattle.hprof_engine.specs.declared.product.ProductFault.{ProductFault}
use Rattle.hprof_engine.specs.declared.product.ProductFault.TheVariants as writes
use Rattle.hprof_engine.specs.declared.tool_fault.ToolFault.{ToolFault}
use Rattle.hprof_engine.specs.declared.tool_fault.ToolFault.TheVariants as tool
use Rattle.hprof_stored.specs.declared.in_parts_fault.InPartsFault.{InPartsFault}
use Rattle.hprof_stored.specs.StoredMaking.{fault_of_pass}
use Rattle.hprof_questions.specs.declared.dialogue_fault.DialogueFault.{DialogueFault}
use Rattle.hprof_questions.specs.declared.dialogue_fault.DialogueFault.TheVariants as stops

-- objects were gone through before, so that two contents of one identifier are a change
abbrev pub stop_of_tool : ToolFault → DialogueFault
stop_of_tool (tool.Lost loss) = stops.Lost loss
stop_of_tool (tool.Conflict key) = stops.Lost losses.Objects
stop_of_tool other = stops.OutOfMemory

-- the stop of an answer whose objects cannot be gone through
abbrev pub stop_of_pass_fault : InPartsFault → DialogueFault
stop_of_pass_fault fault = stop_of_tool (fault_of_pass fault)

-- the objects are lost for that reason, since a pass may end with such a fault
--   Tells: what a fault of a pass tells
abbrev pub IsLostBy : (Tells : InPartsFault → Type 0) → Loss → Type 0
IsLostBy Tells loss = (fault : InPartsFault) × Tells fault × (stop_of_pass_fault fault ≡ stops.Lost loss)

-- the stop of an answer where the writing of a line stopped, which is never refused
abbrev pub stop_of_writing : ProductFault → DialogueFault
stop_of_writing (writes.Write fault) = stops.Write fault
stop_of_writing other = stops.OutOfMemory

abbrev pub answer_of : Result (Unit {0}) ProductFault → Result (Unit {0}) DialogueFault
answer_of (Ok done) = Ok done
answer_of (Err stop) = Err (stop_of_writing stop)
