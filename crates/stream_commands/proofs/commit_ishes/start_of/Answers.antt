use Rattle.std.proofs.Common.{rules}
use Rattle.stream_commands.proofs.commit_ishes.start_of.Goals as goal

pub returns-then-is_branch : goal.returns-then-is_branch
returns-then-is_branch g c = search rules
