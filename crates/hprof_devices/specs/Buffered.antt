-- What a buffered device shows: the writer, and its health.
use Rattle.std.specs.declared.io.buffered.BufWriter.{BufWriter}
use Rattle.std.specs.declared.alloc.Global.{Global}
use Rattle.hprof_devices.specs.declared.health.Health.{Health}
use Rattle.hprof_devices.specs.declared.buffered.BufferedDevice.{BufferedDevice}

abbrev pub buffered_of : {W : Type 0} → BufferedDevice W → BufWriter W Global
buffered_of device = device.buffered

abbrev pub buffered_health : {W : Type 0} → BufferedDevice W → Health
buffered_health device = device.health
