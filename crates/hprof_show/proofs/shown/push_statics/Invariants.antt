use Rattle.std.proofs.Common.{◌≡◌, ◌++◌}
use Rattle.hprof_values.specs.Lists.{entries_left, entries_of}
use Rattle.hprof_show.specs.Shown.{static_referents}
use Rattle.hprof_show.proofs.shown.push_statics.Given as goal

abbrev pub invariant-loop-field : goal.invariant-loop-field
invariant-loop-field l =
    l.ids.items ++ static_referents (entries_left l.field-iterator) ≡ l.fn.ids.items ++ static_referents (entries_of l.fn.statics)
