use Rattle.std.proofs.Common.{◌≡◌, ◌+◌, ◌^◌, ◌<◌, ◌++◌, List, length, Some}
use Rattle.hprof_items.specs.FactValue.{FactValue}
use Rattle.hprof_layouts.specs.declared.slot.Slot.{Slot}
use Rattle.hprof_layouts.specs.Fields.{width_of_slots}
use Rattle.hprof_layouts.specs.Known.{Knows}
use Rattle.hprof_layouts.specs.OwnFields.{references_in}
use Rattle.hprof_layouts.specs.Plan.{IsJump}
use Rattle.hprof_layouts.specs.References.{wanted_of}
use Rattle.hprof_layouts.proofs.Laid.{Laying}
use Rattle.hprof_layouts.proofs.known.KnownLayouts.lay_above.Given as goal

abbrev pub invariant-loop-plan : goal.invariant-loop-plan
invariant-loop-plan l = (facts : List FactValue) (slots : List Slot) → Knows l.ids facts l.self → IsJump l.ids facts slots l.fn.first
    → width_of_slots l.ids slots ≡ length l.bytes → l.place + length slots < 2 ^ 64
    → Laying l.ids facts l.wanted (l.fn.references.items ++ wanted_of l.wanted (references_in l.ids l.place slots l.bytes))
    (Some l.jump) l.rest
    l.before l.references.items

abbrev pub decreases-loop-plan : goal.decreases-loop-plan
decreases-loop-plan l = length l.rest
