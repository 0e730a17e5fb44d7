use Rattle.std.proofs.Common.{rules}
use Rattle.stream_parts.proofs.fault.Fault.code.Goals as goal

pub returns-in-WrongKind : goal.returns-in-WrongKind
returns-in-WrongKind c = search rules
