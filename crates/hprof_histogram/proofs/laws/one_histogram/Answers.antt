use Rattle.hprof_histogram.proofs.OneHistogram.{at_most_one}
use Rattle.hprof_histogram.proofs.SomeHistogram.{at_least_one}
use Rattle.hprof_histogram.proofs.laws.one_histogram.Goals as goal

pub returns-clause-exists : goal.returns-clause-exists
returns-clause-exists c = at_least_one

pub returns-clause-once : goal.returns-clause-once
returns-clause-once c = at_most_one
