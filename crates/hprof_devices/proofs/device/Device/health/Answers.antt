use Rattle.std.proofs.Common.{rules}
use Rattle.hprof_devices.proofs.device.Device.health.Goals as goal

pub returns : goal.returns
returns g c = search rules
