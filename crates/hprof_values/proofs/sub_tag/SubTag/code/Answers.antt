use Rattle.std.proofs.Common.{rules}
use Rattle.hprof_values.proofs.sub_tag.SubTag.code.Goals as goal

pub returns-in-ClassDump : goal.returns-in-ClassDump
returns-in-ClassDump c = search rules
