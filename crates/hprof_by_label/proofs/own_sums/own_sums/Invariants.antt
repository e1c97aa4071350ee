use Rattle.std.proofs.Common.{List}
use Rattle.hprof_values.specs.declared.ids.IdSize.{IdSize}
use Rattle.hprof_items.specs.FactValue.{FactValue}
use Rattle.hprof_retained.specs.Tree.{IsTreeOf}
use Rattle.hprof_by_label.specs.Labels.{HaveSizes}
use Rattle.hprof_by_label.proofs.OwnSoFar.{AreCountedTo, AreOwnTo}
use Rattle.hprof_by_label.proofs.own_sums.own_sums.Given as goal

-- the sums over the nodes so far
abbrev pub invariant-loop-number : goal.invariant-loop-number
invariant-loop-number l = record {
  counted : AreCountedTo l.labels l.bytes.items l.counts.items l.number;
  own : (ids : IdSize) (facts : List FactValue) → IsTreeOf ids facts l.retained → HaveSizes ids facts l.retained l.labels
      → AreOwnTo ids facts l.retained l.labels l.bytes.items l.counts.items l.number;
}
