use Rattle.std.proofs.Common.{rules}
use Rattle.hprof_items.proofs.walk.class_count.Goals as goal

pub returns-in_err-front : goal.returns-in_err-front
returns-in_err-front c = search rules
