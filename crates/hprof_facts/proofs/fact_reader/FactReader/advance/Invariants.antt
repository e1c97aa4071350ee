use Rattle.std.proofs.Common.{◌≡◌, List}
use Rattle.hprof_items.specs.FactValue.{FactValue}
use Rattle.hprof_facts.specs.FactReader.{CanAdvance, HasGivenFrom, IsOver, Origin, reads_to_come}
use Rattle.hprof_facts.proofs.fact_reader.FactReader.advance.Given as goal

-- it has given no more than before, and one that is over is the same
abbrev pub invariant-loop-self : goal.invariant-loop-self
invariant-loop-self g l = record {
  can : CanAdvance g.R.Source.health l.self;
  given : (origin : Origin) (was : g.row.R.Denot) (given : List FactValue)
      → HasGivenFrom g.R.Source.left g.R.Source.health g.R.Source.pulls origin was given l.fn.self
      → HasGivenFrom g.R.Source.left g.R.Source.health g.R.Source.pulls origin was given l.self;
  over : IsOver l.fn.self → l.self ≡ l.fn.self;
}

abbrev pub decreases-loop-self : goal.decreases-loop-self
decreases-loop-self g l = reads_to_come l.self
