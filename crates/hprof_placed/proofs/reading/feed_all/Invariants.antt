use Rattle.std.proofs.Common.{◌≡◌, ◌+◌, ◌<◌, ◌≤◌, [], length}
use Rattle.hprof_devices.specs.declared.health.Health.TheVariants.{Well}
use Rattle.hprof_stream.specs.declared.limits.Limits.{Limits}
use Rattle.hprof_stream.specs.Reader.{HasRead, IsReady}
use Rattle.hprof_placed.proofs.Parts.{HasPlaced}
use Rattle.hprof_placed.proofs.reading.feed_all.Given as goal

abbrev pub invariant-loop : goal.invariant-loop
invariant-loop g l = record {
  fed : (limits : Limits) → HasRead limits [] [] l.fn.reader → HasPlaced g.R.Source.left g.R.Source.health g.R.Source.pulls
      g.S.PlacedSink.holds g.S.Sink.refuses g.S.Sink.failed limits l.counter l.fn.source l.source l.reader l.fn.sink l.sink;
  well : g.R.Source.health l.source ≡ Well;
  few : g.R.Source.pulls l.source ≤ g.R.Source.pulls l.fn.source + l.counter;
  room : 0 < length l.piece;
  small : length l.piece ≤ 65536;
  ready : IsReady l.reader (g.S.Sink.begun l.sink);
}
