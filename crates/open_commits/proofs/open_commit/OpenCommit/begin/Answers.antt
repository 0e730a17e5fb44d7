use Rattle.std.proofs.Common.{rules}
use Rattle.open_commits.proofs.open_commit.OpenCommit.begin.Goals as goal

pub returns-clause-begun : goal.returns-clause-begun
returns-clause-begun c = search rules
