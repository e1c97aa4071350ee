use Rattle.std.proofs.Common.{rules}
use Rattle.hprof_items.proofs.walk.resume_sub_record.Goals as goal

pub returns-in-Entries-clause-stands : goal.returns-in-Entries-clause-stands
returns-in-Entries-clause-stands c = search rules
