use Rattle.std.proofs.Common.{rules}
use Rattle.hprof_stream.proofs.tally.form_of.Goals as goal

pub returns-in-Root-clause-form : goal.returns-in-Root-clause-form
returns-in-Root-clause-form c = search rules
