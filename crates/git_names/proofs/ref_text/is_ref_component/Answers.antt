use Rattle.std.proofs.Common.{rules}
use Rattle.git_names.proofs.ref_text.is_ref_component.Goals as goal

pub returns-then-not-starts_with : goal.returns-then-not-starts_with
returns-then-not-starts_with c = search rules
