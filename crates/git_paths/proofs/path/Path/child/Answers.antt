use Rattle.git_paths.proofs.Firsts.{name_alone, IsPath-name}
use Rattle.git_paths.proofs.path.Path.child.Goals as goal

pub of-requires : goal.of-requires
of-requires c = IsPath-name c.args.name.now c.requires

pub returns : goal.returns
returns c = rw (← name_alone c.args.name.now c.requires, ← c.of.ensures) c.join.ensures
