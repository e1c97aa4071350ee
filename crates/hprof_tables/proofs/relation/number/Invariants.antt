use Rattle.std.proofs.Common.{◌≡◌, ◌+◌, ◌++◌, drop}
use Rattle.hprof_tables.specs.PlacedRows.{numbered}
use Rattle.hprof_tables.proofs.relation.number.Given as goal

-- the places that were given, and those that are to come, are the places of all
abbrev pub invariant-loop-row : goal.invariant-loop-row
invariant-loop-row g l = record {
  goal : l.places.items ++ numbered l.place (drop l.row-index l.lent) ≡ numbered l.fn.first l.lent;
  count : l.place ≡ l.fn.first + l.row-index;
}
