use Rattle.std.proofs.Common.{◌≡◌, ℕ, ◌<◌, ◌≤◌, length, get_or}
use Rattle.hprof_heap.specs.Gathering.{gathered}
use Rattle.hprof_engine.specs.Through.{GathersSaved}
use Rattle.hprof_engine.proofs.salvage_reading.read_through.Given as goal

-- the readers so far were read, what is saved of their parts was given, and the others stand as they stood
abbrev pub invariant-loop-index : goal.invariant-loop-index
invariant-loop-index g l = record {
  unread : (k : ℕ) (d : _) → l.index ≤ k → k < length l.fn.readers → get_or l.readers k d ≡ get_or l.fn.readers k d;
  saved : GathersSaved g.R.Source.left g.R.Source.health g.R.Source.pulls l.fn.limits l.fn.readers l.readers l.index
      (gathered l.counter.gatherer) l.counter.parts l.faults.items;
}
