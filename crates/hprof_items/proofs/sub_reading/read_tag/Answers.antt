use Rattle.std.proofs.Common.{rules}
use Rattle.hprof_items.proofs.sub_reading.read_tag.Goals as goal

pub returns-in-None : goal.returns-in-None
returns-in-None c = search rules
