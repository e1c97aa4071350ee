use Rattle.std.proofs.Common.{inl, inr}
use Rattle.hprof_tool.proofs.program.salvaging.salvage_parts.Goals as goal

pub returns-in-Some : goal.returns-in-Some
returns-in-Some g c = inr c.salvage_again.ensures

pub returns-in-None : goal.returns-in-None
returns-in-None g c = inl c.salvage_of_heap.ensures
