use Rattle.revisions.proofs.FirstPlaces.{at_dots, no_dots}
use Rattle.revisions.proofs.laws.a_range_is_parted_at_its_first_dots.Goals as goal

pub returns : goal.returns
returns c = record { first = at_dots; nowhere = no_dots }
