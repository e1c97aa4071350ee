use Rattle.std.proofs.Common.{ℕ, List, length}
use Rattle.hprof_merge.specs.Rows.{ByteRow, IsAscending}
use Rattle.hprof_objects.specs.Cuts.{CutInto}
use Rattle.hprof_objects.specs.PartsRead.{PartRead}
use Rattle.hprof_objects.specs.ReadAgain.{IsSameAt}
use Rattle.hprof_objects.specs.Wanted.{Rises}
use Rattle.hprof_objects.proofs.PickedCuts.{AreLeft, CutsSoFar}
use Rattle.hprof_objects.proofs.picking.pick_cuts.Given as goal

-- the cuts before the rest are done
abbrev pub invariant-loop-cut : goal.invariant-loop-cut
invariant-loop-cut g l = record {
  well : g.T.RowSink.well l.sink;
  rises : Rises l.left;
  left_cuts : AreLeft l.limits l.cuts l.rest;
  picked : (reads : List PartRead) (rows : List ByteRow) → CutInto l.limits reads l.cuts rows → IsAscending rows
      → ((number : ℕ) → IsSameAt l.limits (g.P.Parts.bytes l.parts) reads number)
      → CutsSoFar g.T.RowSink.steps l.wanted l.limits reads rows l.rest l.left l.fn.sink l.sink;
}

abbrev pub decreases-loop-cut : goal.decreases-loop-cut
decreases-loop-cut g l = length l.rest
