use Rattle.std.proofs.Common.{refl}
use Rattle.hprof_graph.proofs.Deriving.{derives_nothing}
use Rattle.hprof_graph.proofs.derived.Derived.new.Goals as goal

pub returns-clause-derived : goal.returns-clause-derived
returns-clause-derived c = λ ids.
    derives_nothing ids (record {
      known = c.new.result;
      waiting = c.new-2.result;
      set = c.new-3.result;
      references = c.new-4.result;
      instances = 0;
      cuts = 0;
    }) (c.new.ensures ids) c.new-3.ensures.none c.new-2.ensures refl refl
