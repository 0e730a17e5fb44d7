use Rattle.open_commits.proofs.GoodCommits.{entry_keeps}
use Rattle.open_commits.proofs.laws.shown_trees_keep_objects_good.Goals as goal

pub returns : goal.returns
returns c = entry_keeps
