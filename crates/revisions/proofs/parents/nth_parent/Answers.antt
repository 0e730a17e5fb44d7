use Rattle.std.proofs.Common.{rules}
use Rattle.revisions.proofs.parents.nth_parent.Goals as goal

pub returns-in-Some : goal.returns-in-Some
returns-in-Some g c = search rules
