use Rattle.std.proofs.Common.{rules}
use Rattle.git_names.proofs.ident.Ident.from_written.Goals as goal

pub returns : goal.returns
returns c = search rules
