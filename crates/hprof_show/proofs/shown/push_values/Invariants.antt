use Rattle.std.proofs.Common.{◌≡◌, ◌++◌, drop}
use Rattle.hprof_show.specs.Shown.{field_referents}
use Rattle.hprof_show.proofs.shown.push_values.Given as goal

abbrev pub invariant-loop-value : goal.invariant-loop-value
invariant-loop-value l = l.ids.items ++ field_referents (drop l.value-index l.values) ≡ l.fn.ids.items ++ field_referents l.values
