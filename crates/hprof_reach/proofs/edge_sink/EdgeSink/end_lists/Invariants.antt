use Rattle.std.proofs.Common.{◌≤◌, ◌-◌, List}
use Rattle.hprof_values.specs.declared.ids.IdSize.{IdSize}
use Rattle.hprof_items.specs.FactValue.{FactValue}
use Rattle.hprof_numbers.specs.Lists.{count_in}
use Rattle.hprof_reach.specs.EdgesMade.{HasSeen, StaysOver}
use Rattle.hprof_reach.proofs.edge_sink.EdgeSink.end_lists.Given as goal

-- no more lists than these have ended, and what was seen is
abbrev pub invariant-loop-self : goal.invariant-loop-self
invariant-loop-self l = record {
  stays : StaysOver l.fn.self l.self;
  up : count_in l.fn.self.lists ≤ l.count → count_in l.self.lists ≤ l.count;
  seen : (ids : IdSize) (facts objects : List FactValue) → HasSeen ids facts objects l.fn.self → HasSeen ids facts objects l.self;
}

abbrev pub decreases-loop-self : goal.decreases-loop-self
decreases-loop-self l = l.count - count_in l.self.lists
