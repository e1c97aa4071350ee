use Rattle.hprof_segments.proofs.Mapped.{facts_packed}
use Rattle.hprof_segments.proofs.FactSubs.{fact_is_sub}
use Rattle.hprof_segments.proofs.laws.segments_are_those_of_the_dump.Goals as goal

pub returns-clause-same : goal.returns-clause-same
returns-clause-same c = facts_packed

pub returns-clause-subs : goal.returns-clause-subs
returns-clause-subs c = fact_is_sub
