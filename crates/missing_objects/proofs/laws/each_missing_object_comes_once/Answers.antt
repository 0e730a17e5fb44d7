use Rattle.missing_objects.proofs.Wholeness.{once}
use Rattle.missing_objects.proofs.laws.each_missing_object_comes_once.Goals as goal

pub returns : goal.returns
returns c = once
