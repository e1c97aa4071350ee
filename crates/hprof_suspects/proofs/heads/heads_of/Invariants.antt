use Rattle.std.proofs.Common.{◌≤◌, List}
use Rattle.hprof_values.specs.declared.ids.IdSize.{IdSize}
use Rattle.hprof_items.specs.FactValue.{FactValue}
use Rattle.hprof_numbers.specs.Numbers.{bound_of, items_in}
use Rattle.hprof_retained.specs.Tree.{count_of}
use Rattle.hprof_suspects.specs.Grounds.{AreGrounds}
use Rattle.hprof_suspects.specs.Heads.{HeadsFit}
use Rattle.hprof_suspects.proofs.HeadsSoFar.{AreHeadsTo}
use Rattle.hprof_suspects.proofs.heads.heads_of.Given as goal

-- the places so far have their heads
abbrev pub invariant-loop-place : goal.invariant-loop-place
invariant-loop-place l = record {
  fits : count_of l.retained ≤ bound_of l.heads;
  fit : HeadsFit l.retained (items_in l.heads);
  heads : (ids : IdSize) (facts : List FactValue) → AreGrounds ids facts l.retained l.labels l.alone.items
      → AreHeadsTo ids facts l.retained (items_in l.heads) l.place;
}
