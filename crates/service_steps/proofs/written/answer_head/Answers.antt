use Rattle.std.proofs.Common.{rules}
use Rattle.service_steps.specs.Frames.{answer_head}
use Rattle.service_steps.proofs.written.answer_head.Goals as goal

pub returns : goal.returns
unfolding answer_head
returns c = search rules
