use Rattle.std.proofs.Common.{rules}
use Rattle.git_names.proofs.ident.Ident.time.Goals as goal

pub returns : goal.returns
returns c = search rules
