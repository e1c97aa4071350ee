use Rattle.std.specs.Prelude.{map}
use Rattle.hprof_values.specs.Lists.{entries_left}
use Rattle.hprof_values.specs.Value.{field_of}
use Rattle.hprof_heap.specs.ClassDump.{class_value}
use Rattle.hprof_heap.specs.HeapFacts.{facts_of}
use Rattle.hprof_layouts.specs.Layout.{own_slots, slot_of}
use Rattle.hprof_weak.proofs.FlagLists.{FlagsSoFar}
use Rattle.hprof_weak.proofs.flags.referent_flags.Given as goal

abbrev pub invariant-loop-field : goal.invariant-loop-field
invariant-loop-field l =
    FlagsSoFar (facts_of l.heap) l.flags.items (own_slots (class_value l.dump))
    (map (slot_of l.dump.id) (map field_of (entries_left l.field-iterator)))
