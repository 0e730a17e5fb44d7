use Rattle.git_paths.proofs.Canonical.{canonical_found, canonical_only}
use Rattle.git_paths.proofs.path.Path.from_canonical.Goals as goal

pub returns-clause-found : goal.returns-clause-found
returns-clause-found c =
    canonical_found c.args.bytes.now c.canonical_of.result c.canonical_of.ensures.exact c.canonical_of.ensures.path

pub returns-clause-only : goal.returns-clause-only
returns-clause-only c =
    canonical_only c.args.bytes.now c.canonical_of.result c.canonical_of.ensures.exact
