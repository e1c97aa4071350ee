use Rattle.std.proofs.Common.{List}
use Rattle.hprof_values.specs.declared.ids.IdSize.{IdSize}
use Rattle.hprof_items.specs.FactValue.{FactValue}
use Rattle.hprof_rows.specs.Conflict.{IsConsistent}
use Rattle.hprof_numbers.specs.Numbers.{items_in}
use Rattle.hprof_retained.specs.Tree.{IsTreeOf}
use Rattle.hprof_suspects.specs.Heads.{AreHeads}
use Rattle.hprof_suspects.specs.PartPlaces.{AreParts}
use Rattle.hprof_suspects.specs.Pieces.{SumsFit}
use Rattle.hprof_suspects.proofs.PiecesSoFar.{AreBelowTo}
use Rattle.hprof_suspects.proofs.pieces.part_sums.Given as goal

-- what the parts at the places so far retain
abbrev pub invariant-loop-place : goal.invariant-loop-place
invariant-loop-place l = record {
  fit : SumsFit l.retained l.sums.items;
  sums : (ids : IdSize) (facts : List FactValue) → IsConsistent facts → IsTreeOf ids facts l.retained
      → AreHeads ids facts l.retained (items_in l.heads) → AreParts ids facts l.retained l.parts.items
      → AreBelowTo ids facts l.retained (items_in l.heads) l.parts.items l.sums.items l.place;
}
