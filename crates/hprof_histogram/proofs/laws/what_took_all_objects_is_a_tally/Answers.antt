use Rattle.hprof_histogram.proofs.FactCounts.{tally_of_all}
use Rattle.hprof_histogram.proofs.laws.what_took_all_objects_is_a_tally.Goals as goal

pub returns : goal.returns
returns c = tally_of_all
