use Rattle.std.proofs.Common.{rules}
use Rattle.byte_devices.proofs.device_fault.DeviceFault.code.Goals as goal

pub returns : goal.returns
returns c = search rules
