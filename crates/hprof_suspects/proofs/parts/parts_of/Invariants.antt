use Rattle.std.proofs.Common.{◌≡◌, List, length}
use Rattle.hprof_values.specs.declared.ids.IdSize.{IdSize}
use Rattle.hprof_items.specs.FactValue.{FactValue}
use Rattle.hprof_numbers.specs.Numbers.{items_in}
use Rattle.hprof_retained.specs.Tree.{count_of}
use Rattle.hprof_suspects.specs.Grounds.{AreGrounds}
use Rattle.hprof_suspects.specs.Heads.{AreHeads}
use Rattle.hprof_suspects.proofs.PartsSoFar.{AreMarkedTo}
use Rattle.hprof_suspects.proofs.parts.parts_of.Given as goal

-- the places so far are marked
abbrev pub invariant-loop-place : goal.invariant-loop-place
invariant-loop-place l = record {
  as_many : length l.parts.items ≡ count_of l.retained;
  marked : (ids : IdSize) (facts : List FactValue) → AreGrounds ids facts l.retained l.labels l.alone.items
      → AreHeads ids facts l.retained (items_in l.heads) → AreMarkedTo ids facts l.retained l.parts.items l.place;
}
