use Rattle.std.proofs.Common.{rules}
use Rattle.open_commits.proofs.open_commit.OpenCommit.modify.Goals as goal

pub returns-in_ok-name-in_default-clause-changes : goal.returns-in_ok-name-in_default-clause-changes
returns-in_ok-name-in_default-clause-changes g c = search rules
