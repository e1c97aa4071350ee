use Rattle.std.proofs.Common.{rules}
use Rattle.hprof_devices.proofs.device.Device.pulls.Goals as goal

pub returns : goal.returns
returns g c = search rules
