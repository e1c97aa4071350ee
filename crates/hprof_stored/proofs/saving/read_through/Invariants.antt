use Rattle.std.proofs.Common.{◌≡◌, ℕ, ◌<◌, ◌≤◌, List, Option, length, get_or}
use Rattle.hprof_stored.specs.Holding.{HoldsAll, nothing_before}
use Rattle.hprof_stored.specs.SavingThrough.{StoresSaved}
use Rattle.hprof_stored.specs.Storing.{storing}
use Rattle.hprof_stored.proofs.saving.read_through.Given as goal

-- the readers so far were read, the sink holds what is saved of their parts, and the others stand as they stood
abbrev pub invariant-loop-index : goal.invariant-loop-index
invariant-loop-index g l = record {
  unread : (k : ℕ) (d : _) → l.index ≤ k → k < length l.fn.readers → get_or l.readers k d ≡ get_or l.fn.readers k d;
  stores : (scratch : Option (List ℕ))
      → HoldsAll g.S.Target.written g.S.Target.health l.fn.limits (nothing_before scratch) (storing l.fn.sink)
      → StoresSaved g.R.Source.left g.R.Source.health g.R.Source.pulls l.fn.limits l.fn.readers l.readers g.S.Target.written
      g.S.Target.health scratch l.index l.headed l.faults.items (storing l.sink);
}
