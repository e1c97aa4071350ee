use Rattle.std.proofs.Common.{ℕ, ◌∷◌, List}
use Rattle.hprof_facts.specs.FactReader.{CanAdvance}
use Rattle.hprof_merge.specs.Rows.{ByteRow}
use Rattle.hprof_objects.specs.ReadAgain.{HasObjects}
use Rattle.hprof_objects.proofs.ReadingAgain.{HasGone}
use Rattle.hprof_objects.proofs.next_object.next_object.Given as goal

-- no object was gone past, and a fact in each round
abbrev pub invariant-loop : goal.invariant-loop
invariant-loop g l = record {
  can : CanAdvance g.R.Source.health l.reader;
  gone : (reads : ℕ) (row : ByteRow) (rows : List ByteRow)
      → HasObjects g.R.Source.left g.R.Source.health g.R.Source.pulls reads l.fn.reader (row ∷ rows)
      → HasGone g.R.Source.left g.R.Source.health g.R.Source.pulls reads l.counter l.reader (row ∷ rows);
}
