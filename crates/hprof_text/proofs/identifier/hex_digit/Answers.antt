use Rattle.std.proofs.Common.{rules}
use Rattle.hprof_text.proofs.identifier.hex_digit.Goals as goal

pub returns-else-value-lt10 : goal.returns-else-value-lt10
returns-else-value-lt10 c = search rules

pub returns-then-value-lt10 : goal.returns-then-value-lt10
returns-then-value-lt10 c = search rules
