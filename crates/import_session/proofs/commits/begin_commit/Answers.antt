use Rattle.std.proofs.Common.{rules}
use Rattle.import_session.specs.Commits.{commit_said}
use Rattle.import_session.proofs.commits.begin_commit.Goals as goal

pub returns-clause-done : goal.returns-clause-done
unfolding commit_said
returns-clause-done c pool table out = search rules
