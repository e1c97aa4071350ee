use Rattle.std.specs.Prelude.{map}
use Rattle.std.proofs.Common.{◌≡◌, ◌++◌}
use Rattle.hprof_values.specs.Lists.{entries_left}
use Rattle.hprof_values.specs.Value.{field_of}
use Rattle.hprof_heap.specs.ClassDump.{class_value}
use Rattle.hprof_layouts.specs.Layout.{own_slots, slot_of}
use Rattle.hprof_layouts.proofs.class_layout.push_own_slots.Given as goal

abbrev pub invariant-loop-field : goal.invariant-loop-field
invariant-loop-field l =
    l.slots.items ++ map (slot_of l.dump.id) (map field_of (entries_left l.field-iterator)) ≡ l.fn.slots.items
    ++ own_slots (class_value l.dump)
