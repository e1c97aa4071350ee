use Rattle.std.proofs.Common.{◌≡◌, ◌≤◌, ◌++◌}
use Rattle.hprof_values.specs.Lists.{identifiers_left, identifiers_of}
use Rattle.hprof_show.specs.Shown.{element_referents}
use Rattle.hprof_show.proofs.PushedIds.{told_ids}
use Rattle.hprof_show.proofs.shown.push_elements.Given as goal

abbrev pub invariant-loop-id : goal.invariant-loop-id
invariant-loop-id l = record {
  few : l.told ≤ 100;
  pushed : l.ids.items ++ told_ids l.told (identifiers_left l.id-iterator)
      ≡ l.fn.ids.items ++ element_referents (identifiers_of l.fn.elements);
}
