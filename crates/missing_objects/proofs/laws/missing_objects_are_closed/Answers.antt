use Rattle.missing_objects.proofs.Wholeness.{closed}
use Rattle.missing_objects.proofs.laws.missing_objects_are_closed.Goals as goal

pub returns : goal.returns
returns c = closed
