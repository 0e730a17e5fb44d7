use Rattle.std.proofs.Common.{rules}
use Rattle.open_commits.proofs.open_commit.OpenCommit.contents_with.Goals as goal

pub returns-clause-contents : goal.returns-clause-contents
returns-clause-contents c = search rules
