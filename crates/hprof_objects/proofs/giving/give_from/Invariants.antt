use Rattle.std.proofs.Common.{◌≡◌, ◌⊎◌, drop}
use Rattle.std.specs.Prelude.{All}
use Rattle.hprof_runs.specs.Runs.{scratch_of}
use Rattle.hprof_objects.specs.declared.any_cut.AnyCut.{AnyCut}
use Rattle.hprof_objects.specs.AnyCuts.{Among}
use Rattle.hprof_objects.specs.Searched.{IsReady, KeepsFrom, LackFor}
use Rattle.hprof_objects.specs.SearchedLists.{cuts_in}
use Rattle.hprof_objects.proofs.giving.give_from.Given as goal

-- the cuts of the lists that were passed lack the identifier
abbrev pub invariant-loop-index : goal.invariant-loop-index
invariant-loop-index g l = record {
  ready : All (IsReady g.S.Target.written g.R.Source.left g.R.Source.health g.R.Source.pulls (scratch_of l.reader.runs.now) l.reader.limits
      (g.P.Parts.bytes l.reader.parts.now) l.id) l.lists;
  keeps : KeepsFrom l.id (cuts_in l.fn.lists) (cuts_in l.lists);
  lacks : (cut : AnyCut) → Among (cuts_in l.fn.lists) cut → Among (cuts_in (drop l.index l.lists)) cut
      ⊎ LackFor g.S.Target.written (scratch_of l.reader.runs.now) l.reader.limits (g.P.Parts.bytes l.reader.parts.now) l.id cut;
  well : g.T.RowSink.well l.sink;
  same : l.fn.sink ≡ l.sink;
}
