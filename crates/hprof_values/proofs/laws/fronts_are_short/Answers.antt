use Rattle.hprof_values.proofs.FieldGroups.{reached_within, reached_short, reached_more}
use Rattle.hprof_values.proofs.laws.fronts_are_short.Goals as goal

pub returns-clause-whole : goal.returns-clause-whole
returns-clause-whole c = reached_within

pub returns-clause-front : goal.returns-clause-front
returns-clause-front c = reached_short

pub returns-clause-more : goal.returns-clause-more
returns-clause-more c = reached_more
