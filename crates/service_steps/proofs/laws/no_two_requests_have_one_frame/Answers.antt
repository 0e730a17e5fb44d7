use Rattle.service_steps.proofs.OneFrame.{one_request}
use Rattle.service_steps.proofs.laws.no_two_requests_have_one_frame.Goals as goal

pub returns : goal.returns
returns c = one_request
