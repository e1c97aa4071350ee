use Rattle.hprof_stream.proofs.Smaller.{smaller_sound, smaller_faulty}
use Rattle.hprof_stream.proofs.laws.a_smaller_limit.Goals as goal

pub returns-clause-sound : goal.returns-clause-sound
returns-clause-sound c = smaller_sound

pub returns-clause-faulty : goal.returns-clause-faulty
returns-clause-faulty c = smaller_faulty
