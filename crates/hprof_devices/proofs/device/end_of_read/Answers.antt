use Rattle.std.proofs.Common.{rules}
use Rattle.hprof_devices.proofs.device.end_of_read.Goals as goal

pub returns-in-Err : goal.returns-in-Err
returns-in-Err c = search rules

pub returns-in-Ok : goal.returns-in-Ok
returns-in-Ok c = search rules
