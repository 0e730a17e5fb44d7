use Rattle.std.proofs.Common.{rules}
use Rattle.git_objects.proofs.mode.mode_digits.Goals as goal

pub returns-in-Directory : goal.returns-in-Directory
returns-in-Directory c = search rules
