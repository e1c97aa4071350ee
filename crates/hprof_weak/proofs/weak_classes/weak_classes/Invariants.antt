use Rattle.std.specs.Prelude.{take}
use Rattle.std.specs.BTreeMap.{get}
use Rattle.std.specs.Ordering.{nat_cmp}
use Rattle.std.proofs.Common.{List}
use Rattle.hprof_items.specs.FactValue.{FactValue}
use Rattle.hprof_weak.specs.Links.{nexts_in}
use Rattle.hprof_weak.specs.Strengths.{AreStrengths}
use Rattle.hprof_weak.proofs.WeakFirsts.{FirstsSoFar}
use Rattle.hprof_weak.proofs.weak_classes.weak_classes.Given as goal

abbrev pub invariant-loop-strength : goal.invariant-loop-strength
invariant-loop-strength l = (facts : List FactValue) → AreStrengths facts l.fn.strengths
    → FirstsSoFar facts (nexts_in l.fn.strengths.links) (take l.strength-index l.strength-items) (get nat_cmp l.firsts)
