use Rattle.std.proofs.Common.{rules}
use Rattle.open_commits.proofs.open_commit.OpenCommit.merge.Goals as goal

pub returns-clause-changes : goal.returns-clause-changes
returns-clause-changes c = search rules
