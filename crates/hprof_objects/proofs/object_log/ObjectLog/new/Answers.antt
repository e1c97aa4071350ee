use Rattle.std.proofs.Common.{refl, sym, subst, List, []}
use Rattle.hprof_objects.specs.declared.stretch.Stretch.{Stretch}
use Rattle.hprof_objects.specs.declared.cut.Cut.{Cut}
use Rattle.hprof_objects.specs.Cuts.{AreCuts}
use Rattle.hprof_objects.specs.Stretches.{AreStretches}
use Rattle.hprof_objects.specs.Store.{rows_of_store}
use Rattle.hprof_objects.proofs.Parts.{nothing_enough}
use Rattle.hprof_objects.proofs.object_log.ObjectLog.new.Goals as goal

-- no part was read
pub returns-clause-holds : goal.returns-clause-holds
returns-clause-holds g c = λ told limits. record {
  no_growing = refl;
  runs = [];
  are_runs = c.in_ok-new.ensures.runs told;
  lists = [];
  are_stretches = subst (λ (l : List Stretch). AreStretches limits [] l []) (sym c.new-2.ensures.items) tt;
  enough = nothing_enough (rows_of_store c.in_ok-new.field-0) c.in_ok-new.ensures.rows;
  cut = record { lists = []; are = subst (λ (l : List Cut). AreCuts limits [] l []) (sym c.new-3.ensures.items) tt; whole = refl };
}
