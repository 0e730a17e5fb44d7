use Rattle.open_commits.proofs.GoodCommits.{end_keeps}
use Rattle.open_commits.proofs.laws.an_end_keeps_objects_good.Goals as goal

pub returns : goal.returns
returns c = end_keeps
