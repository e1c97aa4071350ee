use Rattle.std.proofs.Common.{rules}
use Rattle.hprof_text.proofs.printing.is_plain.Goals as goal

pub returns-else-matches : goal.returns-else-matches
returns-else-matches c = search rules

pub returns-then-matches : goal.returns-then-matches
returns-then-matches c = search rules
