use Rattle.std.proofs.Common.{◌≡◌, ℕ, false, ◌-◌, ◌<◌, ◌≤◌, length, get_or}
use Rattle.hprof_engine.specs.Joining.{GathersFirst, AreReadOut}
use Rattle.hprof_engine.specs.Summaries.{HoldsFirst}
use Rattle.hprof_engine.proofs.parts.read_parts.Given as goal

-- the readers so far were read to their ends and gave their parts to the gatherer, which is sound, their summaries were
-- told, there is room for those to come, what was watched is, and the others stand as they stood
abbrev pub invariant-loop-index : goal.invariant-loop-index
invariant-loop-index g l = record {
  unread : (k : ℕ) (d : _) → l.index ≤ k → k < length l.fn.readers → get_or l.readers k d ≡ get_or l.fn.readers k d;
  first : GathersFirst g.R.Source.left l.fn.limits l.fn.readers l.index (g.G.Gather.gathered l.fn.gatherer)
      (g.G.Gather.gathered l.gatherer);
  out : AreReadOut g.R.Source.left g.R.Source.health g.R.Source.pulls l.fn.limits l.fn.readers l.readers l.index;
  kept : HoldsFirst g.R.Source.left (g.S.Summaries.holds l.summaries) l.fn.readers l.index l.kept;
  room : g.S.Summaries.has_room l.summaries l.kept (length l.fn.readers - l.index);
  sound : (g.G.Gather.gathered l.gatherer).failed ≡ false;
  watches : (id : ℕ) → g.G.Gather.watches l.fn.gatherer id → g.G.Gather.watches l.gatherer id;
}
