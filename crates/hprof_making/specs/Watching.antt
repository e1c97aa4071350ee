-- Counts that take each object while a part is read for the first time.
use Rattle.std.specs.Prelude.{List}
use Rattle.hprof_values.specs.declared.ids.IdSize.{IdSize}
use Rattle.hprof_items.specs.FactValue.{FactValue}
use Rattle.hprof_passes.specs.Passing.{TakesObjects, objects_among}
use Rattle.hprof_histogram.specs.declared.counted_kinds.CountedKinds.{CountedKinds}
use Rattle.hprof_histogram.specs.CountedKinds.{CountsObject, IsTally}

-- if they take all objects of facts, one after another, they are the tally of those facts
abbrev pub StartsTally : CountedKinds → Type 0
StartsTally start = (ids : IdSize) (all : List FactValue) (counts : CountedKinds)
    → TakesObjects CountsObject ids start (objects_among all) counts → IsTally ids all counts
