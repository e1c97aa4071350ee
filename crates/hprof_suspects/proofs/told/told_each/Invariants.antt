use Rattle.std.specs.Prelude.{All, map, take}
use Rattle.std.proofs.Common.{List}
use Rattle.hprof_values.specs.declared.ids.IdSize.{IdSize}
use Rattle.hprof_items.specs.FactValue.{FactValue}
use Rattle.hprof_rows.specs.Conflict.{IsConsistent}
use Rattle.hprof_numbers.specs.Numbers.{items_in}
use Rattle.hprof_retained.specs.Tree.{IsTreeOf}
use Rattle.hprof_by_label.specs.Labels.{AreNodeLabels}
use Rattle.hprof_suspects.specs.Heads.{AreHeads}
use Rattle.hprof_suspects.specs.PartPlaces.{AreParts}
use Rattle.hprof_suspects.specs.SuspectPlaces.{IsWithin, suspect_of}
use Rattle.hprof_suspects.specs.Told.{AreToldOf, Fits}
use Rattle.hprof_suspects.proofs.told.told_each.Given as goal

-- what is told of the suspects so far
abbrev pub invariant-loop-suspect : goal.invariant-loop-suspect
invariant-loop-suspect l = record {
  fit : All (Fits l.retained) l.told.items;
  told : (ids : IdSize) (facts : List FactValue) → IsConsistent facts → IsTreeOf ids facts l.retained
      → AreNodeLabels facts l.retained l.labels → AreHeads ids facts l.retained (items_in l.heads)
      → AreParts ids facts l.retained l.parts.items → All (IsWithin l.retained) l.suspects
      → AreToldOf ids facts l.retained l.labels (map (suspect_of l.retained) (take l.suspect-index l.suspects)) l.told.items;
}
