use Rattle.std.proofs.Common.{length}
use Rattle.hprof_objects.specs.DividedCuts.{AreDivided}
use Rattle.hprof_objects.proofs.Apart.{DividedSoFar}
use Rattle.hprof_objects.proofs.cut_lists.CutLists.searched.Given as goal

-- the rest are lists of as many cuts as is left
abbrev pub invariant-loop-count : goal.invariant-loop-count
invariant-loop-count g l = record {
  so_far : DividedSoFar l.self.cuts.items l.lists.items l.rest;
  left : AreDivided l.rest l.counts;
}

abbrev pub decreases-loop-count : goal.decreases-loop-count
decreases-loop-count g l = length l.counts
