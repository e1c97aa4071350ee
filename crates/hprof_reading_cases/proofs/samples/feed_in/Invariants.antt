use Rattle.hprof_stream.specs.Reader.{IsReady}
use Rattle.hprof_reading_cases.proofs.samples.feed_in.Given as goal

abbrev pub invariant-loop-piece : goal.invariant-loop-piece
invariant-loop-piece l = IsReady l.reader l.sink.begun
