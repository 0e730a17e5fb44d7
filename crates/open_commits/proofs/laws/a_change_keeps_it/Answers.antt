use Rattle.open_commits.proofs.GoodCommits.{change_keeps}
use Rattle.open_commits.proofs.laws.a_change_keeps_it.Goals as goal

pub returns : goal.returns
returns c = change_keeps
