use Rattle.std.proofs.Common.{◌∙◌}
use Rattle.git_model.proofs.Readables.{objects_are}
use Rattle.repository_copies.proofs.copying.copied_places.Goals as goal

pub returns-clause-places : goal.returns-clause-places
returns-clause-places g c good =
    c.places_if_can.ensures.places good (c.deref.ensures.value ∙ c.in_ok-reached.ensures.reached (objects_are _ _ good))

pub returns-clause-none : goal.returns-clause-none
returns-clause-none g c good =
    c.places_if_can.ensures.none good (c.deref.ensures.value ∙ c.in_ok-reached.ensures.reached (objects_are _ _ good))
