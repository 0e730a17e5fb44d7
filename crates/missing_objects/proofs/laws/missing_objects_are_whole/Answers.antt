use Rattle.missing_objects.proofs.Wholeness.{whole}
use Rattle.missing_objects.proofs.laws.missing_objects_are_whole.Goals as goal

pub returns : goal.returns
returns c = whole
