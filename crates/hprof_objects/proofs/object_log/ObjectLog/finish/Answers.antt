use Rattle.std.proofs.Common.{List, ◌++◌, ◌∙◌, ap, append-nil, subst, sym}
use Rattle.hprof_objects.specs.declared.stretch.Stretch.{Stretch}
use Rattle.hprof_objects.specs.declared.cut.Cut.{Cut}
use Rattle.hprof_objects.specs.Cuts.{CutInto, all_rows, last_cut}
use Rattle.hprof_objects.specs.Growing.{staying}
use Rattle.hprof_objects.specs.Store.{rows_of_store}
use Rattle.hprof_objects.specs.Stretches.{AreStretches}
use Rattle.hprof_runs.specs.RowsIn.{sorted_in}
use Rattle.hprof_objects.proofs.Stored.{stored_enough}
use Rattle.hprof_objects.proofs.object_log.ObjectLog.finish.Goals as goal

-- no stretch grew
pub returns-clause-holds : goal.returns-clause-holds
returns-clause-holds g c = λ limits parts it.
    let log = c.args.self in
    record {
      runs = it.runs;
      are_runs = it.are_runs;
      lists = it.lists;
      are_stretches = subst (λ (l : List Stretch). AreStretches limits parts l it.lists)
          (sym (c.keep.ensures ∙ (ap (λ g. log.stretches.items ++ staying g) it.no_growing ∙ append-nil log.stretches.items)))
          it.are_stretches;
      enough = stored_enough (rows_of_store log.store) (sorted_in c.sort.result) it.runs it.lists c.sort.ensures parts it.enough;
      cut = subst (λ (l : List Cut). CutInto limits parts l (all_rows it.lists))
          (sym (c.keep_cut.ensures ∙ (ap (λ g. log.cuts.items ++ last_cut g log.cut) it.no_growing ∙ append-nil log.cuts.items))) it.cut;
    }
