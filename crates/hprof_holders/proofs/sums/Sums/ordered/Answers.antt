use Rattle.std.proofs.Common.{map}
use Rattle.hprof_holders.specs.SumCounts.{sum_value}
use Rattle.hprof_holders.proofs.SumEntries.{counted_sums}
use Rattle.hprof_holders.proofs.sums.Sums.ordered.Goals as goal

pub returns : goal.returns
returns c = λ texts counted.
    counted_sums texts c.args.self counted (map sum_value c.in_ok-sums.sums.items) (map sum_value c.sort_sums.new.sums.items)
    c.in_ok-sums.ensures.entries c.in_ok-sums.ensures.apart c.sort_sums.ensures.same c.sort_sums.ensures.ascend
