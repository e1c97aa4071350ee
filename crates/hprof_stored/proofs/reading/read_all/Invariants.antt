use Rattle.std.proofs.Common.{◌≡◌, ℕ, ◌-◌, ◌<◌, ◌≤◌, length, get_or}
use Rattle.hprof_engine.specs.Joining.{AreReadOut}
use Rattle.hprof_engine.specs.Summaries.{HoldsFirst}
use Rattle.hprof_stored.specs.Reading.{StoresFirst}
use Rattle.hprof_stored.proofs.reading.read_all.Given as goal

-- the readers so far were read to their ends and gave their parts to the sink, their summaries were told, there is room for those to come,
-- and the others stand as they stood
abbrev pub invariant-loop-index : goal.invariant-loop-index
invariant-loop-index g l = record {
  unread : (k : ℕ) (d : _) → l.index ≤ k → k < length l.fn.readers → get_or l.readers k d ≡ get_or l.fn.readers k d;
  first : StoresFirst g.R.Source.left g.R.Source.health g.R.Source.pulls g.S.Target.written g.S.Target.health g.T.ObjectSink.takes
      g.T.ObjectSink.refuses l.fn.limits (g.S.Target.written l.fn.scratch) l.fn.watch l.fn.readers l.index l.sink;
  out : AreReadOut g.R.Source.left g.R.Source.health g.R.Source.pulls l.fn.limits l.fn.readers l.readers l.index;
  kept : HoldsFirst g.R.Source.left (g.M.Summaries.holds l.summaries) l.fn.readers l.index l.kept;
  room : g.M.Summaries.has_room l.summaries l.kept (length l.fn.readers - l.index);
}
