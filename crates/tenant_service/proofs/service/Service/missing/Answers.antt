use Rattle.tenant_service.proofs.PackLemmas.{told-missing}
use Rattle.tenant_service.proofs.service.Service.missing.Goals as goal

pub returns : goal.returns
returns g c =
    told-missing g.N.Naming.digest_of c.args.tenant.now c.args.self.now c.in_ok-objects.objects c.args.wants.now c.args.haves.now c.missing.result
    (c.is_sound.ensures c.args.tenant.now) c.in_ok-objects.ensures.0 c.in_ok-objects.ensures.1 c.missing.ensures.told
