use Rattle.std.proofs.lemmas.List.Elements.{recursion_from_All}
use Rattle.export_laws.proofs.OrderPlaces.{added-by, first-places, there-by}
use Rattle.export_laws.proofs.laws.objects_are_added_by_place.Goals as goal

pub returns : goal.returns
returns c = record {
  there = λ digest os good place lt places all.
      there-by digest os good place lt places (recursion_from_All _ places all);
  added = added-by;
  first = first-places;
}
