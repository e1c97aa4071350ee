use Rattle.std.proofs.Common.{◌≡◌, [], length}
use Rattle.hprof_tables.specs.SortedTable.{entries_left}
use Rattle.hprof_tables.proofs.entries.Entries.next_of_page.Given as goal

-- no row was taken
abbrev pub invariant-loop-number : goal.invariant-loop-number
invariant-loop-number g l =
    record {
      none : l.self.rows.now ≡ [];
      same : entries_left l.self ≡ entries_left l.fn.self;
    }

abbrev pub decreases-loop-number : goal.decreases-loop-number
decreases-loop-number g l = length l.self.numbers
