use Rattle.open_commits.proofs.FitCommits.{end_fits}
use Rattle.open_commits.proofs.laws.an_end_keeps_trees_fitting.Goals as goal

pub returns : goal.returns
returns c = end_fits
