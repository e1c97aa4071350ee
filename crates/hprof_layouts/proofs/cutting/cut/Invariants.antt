use Rattle.hprof_layouts.proofs.SlotValues.{Cut}
use Rattle.hprof_layouts.proofs.cutting.cut.Given as goal

abbrev pub invariant-loop-slot : goal.invariant-loop-slot
invariant-loop-slot l = Cut l.ids l.slots l.fn.bytes l.slot-index l.values.items l.rest
