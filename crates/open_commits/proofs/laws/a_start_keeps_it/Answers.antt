use Rattle.open_commits.proofs.GoodCommits.{start_keeps}
use Rattle.open_commits.proofs.laws.a_start_keeps_it.Goals as goal

pub returns : goal.returns
returns c = start_keeps
