use Rattle.std.proofs.Common.{rules}
use Rattle.hprof_devices.proofs.device.end_of_write.Goals as goal

pub returns-in-Err : goal.returns-in-Err
returns-in-Err c = search rules

pub returns-in-Ok : goal.returns-in-Ok
returns-in-Ok c = search rules

pub returns-in-Ok-eq0 : goal.returns-in-Ok-eq0
returns-in-Ok-eq0 c = search rules
