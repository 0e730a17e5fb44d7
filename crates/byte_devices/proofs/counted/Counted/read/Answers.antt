use Rattle.std.proofs.Common.{rules}
use Rattle.byte_devices.proofs.counted.Counted.read.Goals as goal

pub returns-in-Ok : goal.returns-in-Ok
returns-in-Ok g c = search rules
