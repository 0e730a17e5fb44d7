use Rattle.gitpool.proofs.Stretches.{stretch-isolated}
use Rattle.gitpool.proofs.hosting_laws.stretches_are_isolated.Goals as goal

pub returns : goal.returns
returns c = stretch-isolated
