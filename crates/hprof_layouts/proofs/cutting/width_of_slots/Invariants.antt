use Rattle.hprof_layouts.proofs.SlotValues.{Counted}
use Rattle.hprof_layouts.proofs.cutting.width_of_slots.Given as goal

abbrev pub invariant-loop-slot : goal.invariant-loop-slot
invariant-loop-slot l = Counted l.ids l.slots l.slot-index l.width
