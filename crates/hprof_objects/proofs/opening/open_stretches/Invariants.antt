use Rattle.std.proofs.Common.{All, take}
use Rattle.hprof_merge.specs.OneOf.{holds_either}
use Rattle.hprof_runs.specs.AnyRows.{any_well}
use Rattle.hprof_objects.specs.ObjectCursors.{AddsStretches}
use Rattle.hprof_objects.specs.StretchCursor.{CanGoOn}
use Rattle.hprof_objects.proofs.opening.open_stretches.Given as goal

abbrev pub invariant-loop-index : goal.invariant-loop-index
invariant-loop-index g l = record {
  adds : AddsStretches g.R.Source.left g.R.Source.health g.R.Source.pulls l.limits (g.P.Parts.bytes l.parts) (take l.index l.stretches)
      l.fn.cursors.items l.cursors.items;
  well : All (holds_either any_well (CanGoOn g.R.Source.health)) l.cursors.items;
}
