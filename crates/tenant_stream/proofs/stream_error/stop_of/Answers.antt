use Rattle.std.proofs.Common.{rules}
use Rattle.tenant_stream.proofs.stream_error.stop_of.Goals as goal

pub returns-in-Memory : goal.returns-in-Memory
returns-in-Memory c = search rules
