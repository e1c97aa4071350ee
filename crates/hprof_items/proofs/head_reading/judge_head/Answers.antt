use Rattle.std.proofs.Common.{rules}
use Rattle.hprof_items.proofs.head_reading.judge_head.Goals as goal

pub returns-then-longest-head : goal.returns-then-longest-head
returns-then-longest-head c = search rules

pub returns-then-not-may_have_len : goal.returns-then-not-may_have_len
returns-then-not-may_have_len c = search rules
