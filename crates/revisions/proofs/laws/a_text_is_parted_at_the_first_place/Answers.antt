use Rattle.revisions.proofs.FirstPlaces.{first, nowhere, none_before}
use Rattle.revisions.proofs.laws.a_text_is_parted_at_the_first_place.Goals as goal

pub returns : goal.returns
returns c = record { first = first; nowhere = nowhere; before = none_before }
