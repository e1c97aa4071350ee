use Rattle.std.proofs.Common.{◌≡◌, take}
use Rattle.hprof_numbers.proofs.numbers.widened.Given as goal

-- the numbers so far are there
abbrev pub invariant-loop-item : goal.invariant-loop-item
invariant-loop-item l = l.wide.items ≡ take l.item-index l.items
