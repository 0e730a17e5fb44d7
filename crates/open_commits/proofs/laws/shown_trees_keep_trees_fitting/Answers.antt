use Rattle.open_commits.proofs.FitCommits.{entry_fits}
use Rattle.open_commits.proofs.laws.shown_trees_keep_trees_fitting.Goals as goal

pub returns : goal.returns
returns c = entry_fits
