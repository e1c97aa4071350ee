use Rattle.std.proofs.Common.{◌≡◌, ◌%◌, ◌↔◌, ◌⊎◌, length, Contains, IsTrue}
use Rattle.hprof_values.specs.Ids.{width_of}
use Rattle.hprof_values.specs.Lists.{ids_in}
use Rattle.hprof_values.proofs.lists.among.is_among.Given as goal

abbrev pub invariant-loop-rest : goal.invariant-loop-rest
invariant-loop-rest l = record {
  whole : length l.rest % width_of l.ids ≡ 0;
  among : (IsTrue l.found ⊎ Contains (ids_in l.ids l.rest) l.id) ↔ Contains (ids_in l.ids l.bytes) l.id;
}

abbrev pub decreases-loop-rest : goal.decreases-loop-rest
decreases-loop-rest l = length l.rest
