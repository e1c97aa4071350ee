-- Lists of the cuts of stored objects.
use Rattle.std.specs.Prelude.{◌≡◌, ◌++◌, map}
use Rattle.hprof_runs.specs.Runs.{cuts_of}
use Rattle.hprof_objects.specs.declared.any_cut.AnyCut.TheVariants.{InPart, InRun}
use Rattle.hprof_objects.specs.declared.cut_lists.CutLists.{CutLists}
use Rattle.hprof_objects.specs.declared.stored_objects.StoredObjects.{StoredObjects}

-- the lists have the cuts of the stretches of these objects, and behind them those of the runs
abbrev pub AreListsOf : {S : Type 0} → StoredObjects S → CutLists → Type 0
AreListsOf objects lists = lists.cuts.items ≡ map InPart objects.cuts.items ++ map InRun (cuts_of objects.runs)
