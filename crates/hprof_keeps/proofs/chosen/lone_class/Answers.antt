use Rattle.std.proofs.Common.{refl}
use Rattle.hprof_heap.specs.ClassDump.{class_value}
use Rattle.hprof_keeps.proofs.chosen.lone_class.Goals as goal

pub returns-in-None : goal.returns-in-None
returns-in-None c = record {
  dump = class_value c.in_ok-dump.dump;
  fact_is = c.in_ok-dump.ensures.found;
  id_is = refl;
  none = c.in-None.ensures.none;
}
