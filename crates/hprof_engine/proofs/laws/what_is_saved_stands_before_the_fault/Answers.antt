use Rattle.hprof_engine.proofs.WholeParts.{stands_before, all_of}
use Rattle.hprof_engine.proofs.laws.what_is_saved_stands_before_the_fault.Goals as goal

pub returns-clause-faulty : goal.returns-clause-faulty
returns-clause-faulty c = stands_before

pub returns-clause-sound : goal.returns-clause-sound
returns-clause-sound c = all_of
