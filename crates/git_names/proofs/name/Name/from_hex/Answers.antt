use Rattle.std.proofs.Common.{rules}
use Rattle.git_names.proofs.name.Name.from_hex.Goals as goal

pub returns-in-Ok : goal.returns-in-Ok
returns-in-Ok c = search rules
