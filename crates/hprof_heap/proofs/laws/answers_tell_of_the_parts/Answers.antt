use Rattle.hprof_heap.proofs.Told.{told}
use Rattle.hprof_heap.proofs.laws.answers_tell_of_the_parts.Goals as goal

pub returns : goal.returns
returns c = λ parts gatherer. told gatherer parts
