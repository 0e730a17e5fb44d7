use Rattle.std.proofs.Common.{rules, append_assoc}
use Rattle.gitpool.proofs.sizing.numbers_of.Goals as goal

pub returns : goal.returns
returns c = search (rules, append_assoc)
