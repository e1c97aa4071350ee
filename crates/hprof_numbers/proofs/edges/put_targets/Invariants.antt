use Rattle.std.proofs.Common.{◌≡◌}
use Rattle.hprof_numbers.specs.Appends.{Appends}
use Rattle.hprof_numbers.specs.Numbered.{nodes_in}
use Rattle.hprof_numbers.specs.Numbers.{bound_of, items_in}
use Rattle.hprof_numbers.proofs.Targets.{IsFirstNumber}
use Rattle.hprof_numbers.proofs.edges.put_targets.Given as goal

-- the numbers of the targets so far were put in
abbrev pub invariant-loop-target : goal.invariant-loop-target
invariant-loop-target l = record {
  items : Appends (IsFirstNumber (nodes_in l.nodes) l.other l.targets l.target-index) (items_in l.fn.items) (items_in l.items);
  bound : bound_of l.items ≡ bound_of l.fn.items;
}
