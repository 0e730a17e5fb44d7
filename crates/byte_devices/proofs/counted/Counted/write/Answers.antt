use Rattle.std.proofs.Common.{rules}
use Rattle.byte_devices.proofs.counted.Counted.write.Goals as goal

pub returns-then-not-is_empty-clause-faults : goal.returns-then-not-is_empty-clause-faults
returns-then-not-is_empty-clause-faults g c = search rules
