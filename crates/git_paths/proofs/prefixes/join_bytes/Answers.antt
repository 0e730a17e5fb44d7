use Rattle.std.proofs.Common.{arith}
use Rattle.std.proofs.lemmas.Grind.{common_steps}
use Rattle.git_paths.proofs.prefixes.join_bytes.Goals as goal

pub returns : goal.returns
returns c = grind (arith, common_steps)
