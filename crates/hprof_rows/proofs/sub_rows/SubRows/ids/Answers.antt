use Rattle.std.proofs.Common.{rules}
use Rattle.hprof_rows.proofs.sub_rows.SubRows.ids.Goals as goal

pub returns : goal.returns
returns c = search rules
