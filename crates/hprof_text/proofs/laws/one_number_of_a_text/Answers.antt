use Rattle.hprof_text.specs.declared.java_floats.FloatFormat.TheVariants.{Float, Double}
use Rattle.hprof_text.proofs.FloatExact.{exact}
use Rattle.hprof_text.proofs.laws.one_number_of_a_text.Goals as goal

pub returns-clause-float : goal.returns-clause-float
returns-clause-float c = exact Float

pub returns-clause-double : goal.returns-clause-double
returns-clause-double c = exact Double
