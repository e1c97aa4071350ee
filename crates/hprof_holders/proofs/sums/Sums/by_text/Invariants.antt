use Rattle.std.proofs.Common.{◌≡◌, ◌++◌, map}
use Rattle.hprof_holders.specs.SumCounts.{entry_value, sum_value}
use Rattle.hprof_holders.proofs.sums.Sums.by_text.Given as goal

abbrev pub invariant-loop-text : goal.invariant-loop-text
invariant-loop-text l =
    map sum_value l.sums.items ++ map entry_value l.text-iterator ≡ map entry_value l.fn.self.counts.entries
