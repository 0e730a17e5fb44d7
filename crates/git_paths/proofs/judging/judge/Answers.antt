use Rattle.std.proofs.Common.{rules}
use Rattle.git_paths.specs.Reading.{path_within_limits}
use Rattle.git_paths.proofs.judging.judge.Goals as goal

pub returns-then-not-are_names-clause-err : goal.returns-then-not-are_names-clause-err
unfolding path_within_limits
returns-then-not-are_names-clause-err c = search rules
