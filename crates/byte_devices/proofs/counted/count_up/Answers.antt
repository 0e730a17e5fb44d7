use Rattle.std.proofs.Common.{rules}
use Rattle.byte_devices.proofs.counted.count_up.Goals as goal

pub returns : goal.returns
returns c = search rules
