use Rattle.service_steps.proofs.OneFrame.{one_step}
use Rattle.service_steps.proofs.laws.no_two_steps_have_one_frame.Goals as goal

pub returns : goal.returns
returns c = one_step
