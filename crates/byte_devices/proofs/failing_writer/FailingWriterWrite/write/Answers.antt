use Rattle.std.proofs.Common.{rules}
use Rattle.byte_devices.proofs.failing_writer.FailingWriterWrite.write.Goals as goal

pub returns-clause-one : goal.returns-clause-one
returns-clause-one g c = search rules
