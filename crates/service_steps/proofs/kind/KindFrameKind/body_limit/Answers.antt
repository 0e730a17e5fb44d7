use Rattle.std.proofs.Common.{rules}
use Rattle.service_steps.proofs.kind.KindFrameKind.body_limit.Goals as goal

pub returns-in-Feed : goal.returns-in-Feed
returns-in-Feed c = search rules
