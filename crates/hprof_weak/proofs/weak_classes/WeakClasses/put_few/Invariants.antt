use Rattle.std.proofs.Common.{◌≤◌, ℕ, List, length}
use Rattle.hprof_items.specs.FactValue.{FactValue}
use Rattle.hprof_rows.specs.Conflict.{IsConsistent}
use Rattle.hprof_weak.specs.Rows.{ArePut}
use Rattle.hprof_weak.proofs.weak_classes.WeakClasses.put_few.Given as goal

-- what was put is right
abbrev pub invariant-loop : goal.invariant-loop
invariant-loop l = record {
  put : (facts : List FactValue) → IsConsistent facts → ArePut facts l.fn.self l.fn.fields.items → ArePut facts l.self l.fields.items;
  few : (count : ℕ) → length l.fn.fields.items ≤ count → l.most ≤ count → length l.fields.items ≤ count;
}
