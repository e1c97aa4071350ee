use Rattle.std.specs.Prelude.{map}
use Rattle.hprof_values.specs.Lists.{entries_left}
use Rattle.hprof_values.specs.Value.{field_of}
use Rattle.hprof_layouts.specs.Layout.{slot_of}
use Rattle.hprof_heap.specs.ClassDump.{class_value}
use Rattle.hprof_layouts.specs.Layout.{own_slots}
use Rattle.hprof_layouts.proofs.Gathered.{Gathered}
use Rattle.hprof_layouts.proofs.own_fields.own_fields.Given as goal

abbrev pub invariant-loop-field : goal.invariant-loop-field
invariant-loop-field l =
    Gathered l.ids (own_slots (class_value l.dump)) (map (slot_of l.dump.id) (map field_of (entries_left l.field-iterator))) l.width l.count
    l.references.items
