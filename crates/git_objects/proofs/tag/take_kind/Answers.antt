use Rattle.std.proofs.Common.{rules}
use Rattle.git_objects.proofs.tag.take_kind.Goals as goal

pub returns-in-Some : goal.returns-in-Some
returns-in-Some c = search rules
