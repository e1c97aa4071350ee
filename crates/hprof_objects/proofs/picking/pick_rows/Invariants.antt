use Rattle.std.proofs.Common.{List}
use Rattle.hprof_merge.specs.Rows.{ByteRow}
use Rattle.hprof_objects.specs.StretchCursor.{CanGoOn}
use Rattle.hprof_objects.specs.StretchKnown.{StretchComes}
use Rattle.hprof_objects.specs.Wanted.{Rises}
use Rattle.hprof_objects.proofs.PickedRows.{PickedSoFar}
use Rattle.hprof_objects.proofs.picking.pick_rows.Given as goal

-- a row was passed in each round
abbrev pub invariant-loop : goal.invariant-loop
invariant-loop g l = record {
  can : CanGoOn g.R.Source.health l.cursor;
  well : g.T.RowSink.well l.sink;
  rises : Rises l.rest;
  picked : (rows : List ByteRow) → StretchComes g.R.Source.left g.R.Source.health g.R.Source.pulls l.fn.cursor rows
      → PickedSoFar g.R.Source.left g.R.Source.health g.R.Source.pulls g.T.RowSink.steps l.wanted rows l.cursor l.rest l.counter l.fn.sink
      l.sink;
}
