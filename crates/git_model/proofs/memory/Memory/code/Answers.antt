use Rattle.std.proofs.Common.{rules}
use Rattle.git_model.proofs.memory.Memory.code.Goals as goal

pub returns : goal.returns
returns c = search rules
