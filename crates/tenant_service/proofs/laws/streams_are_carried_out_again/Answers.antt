use Rattle.tenant_service.proofs.OpenedLaws.{again-same, opened-is}
use Rattle.tenant_service.proofs.laws.streams_are_carried_out_again.Goals as goal

pub returns-clause-opened : goal.returns-clause-opened
returns-clause-opened c = opened-is

pub returns-clause-again : goal.returns-clause-again
returns-clause-again c = again-same
