use Rattle.std.proofs.Common.{rules}
use Rattle.export_text.proofs.export.append_export.Goals as goal

pub returns-then-is_err-clause-same : goal.returns-then-is_err-clause-same
returns-then-is_err-clause-same g c = search rules
