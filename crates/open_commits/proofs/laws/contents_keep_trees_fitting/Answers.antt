use Rattle.open_commits.proofs.FitCommits.{contents_fit}
use Rattle.open_commits.proofs.laws.contents_keep_trees_fitting.Goals as goal

pub returns : goal.returns
returns c = contents_fit
