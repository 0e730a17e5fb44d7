use Rattle.std.proofs.Common.{◌∙◌}
use Rattle.std.specs.Prelude.{IfOk}
use Rattle.git_model.proofs.Readables.{objects_are}
use Rattle.git_model.specs.Repository.{Repository}
use Rattle.tenant_service.specs.Compacting.{AreReached}
use Rattle.tenant_service.proofs.PlaceLemmas.{places-are}
use Rattle.tenant_service.proofs.compacting.reached_places.Goals as goal

pub returns : goal.returns
returns g c =
    places-are g.N.Naming.digest_of c.args.pool.now c.args.tenant.now c.requires.stands c.requires.sound
    (λ (r : Repository). IfOk c.flagged_places.result (λ places. AreReached r places.items))
    c.of-objects.result c.of-objects.ensures
    (λ good. c.flagged_places.ensures _ (c.deref.ensures.value ∙ c.in_ok-flags.ensures.reached (objects_are _ _ good)))
