-- The size of what was found of an object.
use Rattle.std.proofs.Common.{◌≡◌, ℕ, List, Option, Some, None}
use Rattle.hprof_values.specs.declared.ids.IdSize.{IdSize}
use Rattle.hprof_items.specs.FactValue.{FactValue}
use Rattle.hprof_heap.specs.ObjectDump.{AnswersObject, fact_of_object}
use Rattle.hprof_heap.specs.declared.object_dump.ObjectDump.{ObjectDump}
use Rattle.hprof_histogram.specs.Histogram.{size_of_object}
use Rattle.hprof_retained.specs.Retained.{IsSizeOf}

abbrev pub size_of_dump : IdSize → Option ObjectDump → ℕ
size_of_dump ids (Some dump) = size_of_object ids (fact_of_object dump)
size_of_dump ids None = 0

pub size_found : (ids : IdSize) (facts : List FactValue) (node : ℕ) (answer : Option ObjectDump) (size : ℕ)
    → AnswersObject ids facts node answer → size ≡ size_of_dump ids answer → IsSizeOf ids facts node size
size_found ids facts node (Some dump) size found is = (Some (fact_of_object dump), (found.found, found.id), is)
size_found ids facts node None size found is = (None, found.none, is)
