use Rattle.std.proofs.Common.{◌≡◌, ◌++◌}
use Rattle.hprof_values.specs.Lists.{entries_left, entries_of}
use Rattle.hprof_show.specs.Shown.{constant_referents}
use Rattle.hprof_show.proofs.shown.push_constants.Given as goal

abbrev pub invariant-loop-constant : goal.invariant-loop-constant
invariant-loop-constant l =
    l.ids.items ++ constant_referents (entries_left l.constant-iterator) ≡ l.fn.ids.items ++ constant_referents (entries_of l.fn.constants)
