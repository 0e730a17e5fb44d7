use Rattle.std.proofs.Common.{refl}
use Rattle.tenant_tables.proofs.TableLemmas.{IsBackedBy-nil}
use Rattle.tenant_service.proofs.PackLemmas.{objects-shown, objects-unseen}
use Rattle.tenant_service.proofs.service.Service.last_objects.Goals as goal

pub of-requires-in-None : goal.of-requires-in-None
of-requires-in-None g c = rw c.requires (IsBackedBy-nil g.N.Naming.digest_of c.self.inside.pool)

pub returns-in-Some : goal.returns-in-Some
returns-in-Some g c = (
  c.in-Ok.ensures.0,
  objects-shown c.args.tenant.now c.args.self.now c.in-Some.pool.now c.in-Some.table.now _ c.of.result c.in-Some.ensures.shown c.of.ensures,
)

pub returns-in-None : goal.returns-in-None
returns-in-None g c = (
  c.in-Ok.ensures.0,
  objects-unseen c.args.tenant.now c.args.self.now c.self.inside.pool c.args.nobody.now c.of-in-None.result c.requires
      (c.in-None.ensures.unseen refl) c.of-in-None.ensures,
)
