use Rattle.std.proofs.Common.{◌≡◌, ◌++◌, drop}
use Rattle.std.specs.List.{filter}
use Rattle.hprof_histogram.specs.CountedKinds.{has_objects, type_rows, element_types}
use Rattle.hprof_histogram.proofs.gathering.push_types.Given as goal

abbrev pub invariant-loop-elem : goal.invariant-loop-elem
invariant-loop-elem l = l.rows.items ++ filter has_objects (type_rows l.types (drop l.elem-index element_types))
    ≡ l.fn.rows.items ++ filter has_objects (type_rows l.types element_types)
