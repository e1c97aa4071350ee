use Rattle.std.proofs.Common.{List, length}
use Rattle.hprof_merge.specs.Rows.{ByteRow}
use Rattle.hprof_runs.specs.Runs.{scratch_of}
use Rattle.hprof_objects.specs.Giving.{AreHeld}
use Rattle.hprof_objects.specs.SearchedLists.{cuts_in}
use Rattle.hprof_objects.specs.Wanted.{Rises}
use Rattle.hprof_objects.proofs.GivenAll.{AreReadyFor, GaveSoFar}
use Rattle.hprof_objects.proofs.giving.give_wanted.Given as goal

abbrev pub invariant-loop-id : goal.invariant-loop-id
invariant-loop-id g l = record {
  rises : Rises l.rest;
  ready : AreReadyFor g.S.Target.written g.R.Source.left g.R.Source.health g.R.Source.pulls (scratch_of l.reader.runs.now) l.reader.limits
      (g.P.Parts.bytes l.reader.parts.now) l.rest l.fn.lists l.lists;
  gave : (all : List ByteRow)
      → AreHeld g.S.Target.written (scratch_of l.reader.runs.now) l.reader.limits (g.P.Parts.bytes l.reader.parts.now) l.rows
      (cuts_in l.fn.lists) all
      → GaveSoFar g.T.RowSink.steps l.wanted all l.rest l.fn.sink l.sink;
  well : g.T.RowSink.well l.sink;
}

abbrev pub decreases-loop-id : goal.decreases-loop-id
decreases-loop-id g l = length l.rest
