-- What drives a run and what watches it.
use Rattle.std.specs.Prelude.{[]}
use Rattle.pic_devices.specs.declared.devices.Devices.{Devices}
use Rattle.pic_devices.specs.Probes.{no_probes}

-- a run that nothing drives nor watches
abbrev pub no_devices : Devices
no_devices = record { loops = []; probes = no_probes }
