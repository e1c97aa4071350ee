use Rattle.std.proofs.Common.{◌≡◌, ◌+◌, ◌^◌, ◌≤◌, ◌<◌, ◌++◌, List, length, drop}
use Rattle.hprof_layouts.specs.declared.slot.Slot.{Slot}
use Rattle.hprof_layouts.specs.OwnFields.{IsOwn, references_in}
use Rattle.hprof_layouts.specs.References.{wanted_of}
use Rattle.hprof_layouts.proofs.Pushes.{wanted_left}
use Rattle.hprof_layouts.proofs.own_fields.OwnLayout.push_references.Given as goal

abbrev pub invariant-loop-own : goal.invariant-loop-own
invariant-loop-own l = (slots : List Slot) → IsOwn l.ids slots l.self → l.self.width ≤ length l.bytes → l.place + length slots < 2 ^ 64
    → l.references.items ++ wanted_left l.ids l.bytes l.place l.wanted (drop l.own-index l.self.references.items)
    ≡ l.fn.references.items ++ wanted_of l.wanted (references_in l.ids l.place slots l.bytes)
