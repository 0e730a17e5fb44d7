use Rattle.std.proofs.Common.{rules}
use Rattle.byte_devices.proofs.counted.Counted.new.Goals as goal

pub returns : goal.returns
returns g c = search rules
