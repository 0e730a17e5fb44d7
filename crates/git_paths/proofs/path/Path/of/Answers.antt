use Rattle.git_paths.specs.Paths.{components_of}
use Rattle.git_paths.proofs.Decided.{IsPath-from_test}
use Rattle.git_paths.proofs.path.Path.of.Goals as goal

pub invariant_of-result : goal.invariant_of-result
invariant_of-result c = IsPath-from_test (components_of c.args.bytes.items) c.requires

pub returns-clause-path : goal.returns-clause-path
returns-clause-path c = IsPath-from_test (components_of c.args.bytes.items) c.requires
