use Rattle.std.proofs.Common.{rules}
use Rattle.git_paths.specs.Reading.{canonical_path}
use Rattle.git_paths.proofs.path.Path.canonical_of.Goals as goal

pub returns-then-not-are_names-clause-exact : goal.returns-then-not-are_names-clause-exact
unfolding canonical_path
returns-then-not-are_names-clause-exact c = search rules
