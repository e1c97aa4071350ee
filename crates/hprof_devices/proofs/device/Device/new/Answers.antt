use Rattle.std.proofs.Common.{rules}
use Rattle.hprof_devices.proofs.device.Device.new.Goals as goal

pub returns-clause-health : goal.returns-clause-health
returns-clause-health g c = search rules

pub returns-clause-inner : goal.returns-clause-inner
returns-clause-inner g c = search rules

pub returns-clause-pulls : goal.returns-clause-pulls
returns-clause-pulls g c = search rules
