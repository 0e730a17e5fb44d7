use Rattle.gitpool.proofs.HostedSteps.{hosting-serves}
use Rattle.gitpool.proofs.hosting_laws.hosting_of_steps_is_serving.Goals as goal

pub returns : goal.returns
returns c = hosting-serves
