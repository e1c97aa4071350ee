use Rattle.std.proofs.Common.{rules}
use Rattle.hprof_items.proofs.head_reading.may_have_len.Goals as goal

pub returns-else-tag-ne-HEAP_DUMP_END : goal.returns-else-tag-ne-HEAP_DUMP_END
returns-else-tag-ne-HEAP_DUMP_END c = search rules

pub returns-in-Some : goal.returns-in-Some
returns-in-Some c = search rules

pub returns-then-tag-ne-HEAP_DUMP_END : goal.returns-then-tag-ne-HEAP_DUMP_END
returns-then-tag-ne-HEAP_DUMP_END c = search rules
