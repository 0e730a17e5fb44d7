use Rattle.missing_objects.proofs.Wholeness.{in-order}
use Rattle.missing_objects.proofs.laws.missing_objects_keep_their_order.Goals as goal

pub returns : goal.returns
returns c = in-order
