use Rattle.std.proofs.Common.{rules}
use Rattle.byte_devices.proofs.failing_reader.FailingReaderRead.read.Goals as goal

pub returns : goal.returns
returns g c = search rules
