use Rattle.std.proofs.Common.{◌≡◌, List, [], length}
use Rattle.hprof_items.specs.FactValue.{FactValue}
use Rattle.hprof_facts.specs.FactReader.{CanAdvance, HasGivenFrom, Origin}
use Rattle.hprof_facts.proofs.fact_reader.FactReader.pass.Given as goal

-- it has gone past a fact in each round
abbrev pub invariant-loop : goal.invariant-loop
invariant-loop g l = record {
  can : CanAdvance g.R.Source.health l.self;
  passed : (origin : Origin) (was : g.row.R.Denot)
      → HasGivenFrom g.R.Source.left g.R.Source.health g.R.Source.pulls origin was [] l.fn.self
      → (given : List FactValue) × HasGivenFrom g.R.Source.left g.R.Source.health g.R.Source.pulls origin was given l.self
      × (length given ≡ l.counter);
}
