use Rattle.std.proofs.Common.{rules}
use Rattle.stream_commands.specs.Refs.{is_zeros}
use Rattle.stream_commands.proofs.refs.is_zeros.Goals as goal

pub returns-in-Expression : goal.returns-in-Expression
unfolding is_zeros
returns-in-Expression c = search rules
