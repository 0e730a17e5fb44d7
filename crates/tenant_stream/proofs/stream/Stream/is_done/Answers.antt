use Rattle.std.proofs.Common.{rules}
use Rattle.tenant_stream.proofs.stream.Stream.is_done.Goals as goal

pub returns : goal.returns
returns c = search rules
