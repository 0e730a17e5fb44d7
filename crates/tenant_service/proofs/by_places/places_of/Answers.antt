use Rattle.std.specs.Prelude.{IfOk, IfSome}
use Rattle.git_model.specs.Repository.{Repository}
use Rattle.repository_copies.specs.Copied.{AreCopied}
use Rattle.tenant_service.proofs.PlaceLemmas.{places-are}
use Rattle.tenant_service.proofs.by_places.places_of.Goals as goal

pub returns : goal.returns
returns g c =
    places-are g.N.Naming.digest_of c.args.pool.now c.args.source.now c.requires.stands c.requires.sound
    (λ (r : Repository). IfOk c.copied_places.result (λ found. IfSome found (λ places. AreCopied r places.items)))
    c.of-objects.result c.of-objects.ensures c.copied_places.ensures.places
