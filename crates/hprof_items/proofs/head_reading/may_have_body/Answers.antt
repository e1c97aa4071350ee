use Rattle.std.proofs.Common.{rules}
use Rattle.hprof_items.proofs.head_reading.may_have_body.Goals as goal

pub returns-in-LoadClass : goal.returns-in-LoadClass
returns-in-LoadClass c = search rules

pub returns-in-Trace : goal.returns-in-Trace
returns-in-Trace c = search rules
