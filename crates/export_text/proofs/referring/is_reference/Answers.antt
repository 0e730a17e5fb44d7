use Rattle.std.proofs.Common.{rules}
use Rattle.export_text.proofs.referring.is_reference.Goals as goal

pub returns : goal.returns
returns c = search rules
