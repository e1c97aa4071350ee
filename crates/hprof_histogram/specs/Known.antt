-- Objects whose counts may be known before they are gone through.
use Rattle.std.specs.Prelude.{List, Option, IfSome}
use Rattle.hprof_values.specs.declared.ids.IdSize.{IdSize}
use Rattle.hprof_items.specs.FactValue.{FactValue}
use Rattle.hprof_histogram.specs.declared.counted_kinds.CountedKinds.{CountedKinds}
use Rattle.hprof_histogram.specs.CountedKinds.{IsTally}

-- the objects make up these facts, and what is known, if anything, is the tally of them
abbrev pub MadeUpWith : (MakeUp : List FactValue → Type 0) → IdSize → Option CountedKinds → List FactValue → Type 0
MadeUpWith MakeUp ids known all = MakeUp all × IfSome known (λ counts. IsTally ids all counts)
