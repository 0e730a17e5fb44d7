use Rattle.std.proofs.Common.{rules}
use Rattle.open_commits.proofs.Leavings.{leaves-none}
use Rattle.open_commits.proofs.open_commit.OpenCommit.show_entry.Goals as goal

pub returns-clause-done : goal.returns-clause-done
returns-clause-done g c = search rules

pub returns-clause-commit : goal.returns-clause-commit
returns-clause-commit g c = search rules

pub returns-in_err-entry-clause-trees : goal.returns-in_err-entry-clause-trees
returns-in_err-entry-clause-trees g c = leaves-none _ _ _

pub returns-clause-trees : goal.returns-clause-trees
returns-clause-trees g c = search rules
