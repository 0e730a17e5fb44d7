use Rattle.tenant_service.proofs.OpenedBack.{opened-loaded, text-opened}
use Rattle.tenant_service.proofs.service.Service.comes_back_as_opened.Goals as goal

pub returns-clause-text : goal.returns-clause-text
returns-clause-text g c =
    text-opened g.N.Naming.digest_of c.self.inside.pool c.self.inside.tenants.entries
    c.args.self.now c.self.view_is c.has_few_names.ensures.names c.has_distinct_names.ensures
    c.is_sound.ensures c.has_few_names.ensures.few c.has_few_contents.ensures

pub returns-clause-same : goal.returns-clause-same
returns-clause-same g c = λ loaded from tenant.
    opened-loaded g.N.Naming.digest_of c.self.inside.pool c.self.inside.tenants.entries
    c.args.self.now c.self.view_is c.has_few_names.ensures.names c.has_distinct_names.ensures
    c.is_sound.ensures g.met.N.Naming.answers_names
    (text-opened g.N.Naming.digest_of c.self.inside.pool c.self.inside.tenants.entries
    c.args.self.now c.self.view_is c.has_few_names.ensures.names c.has_distinct_names.ensures
    c.is_sound.ensures c.has_few_names.ensures.few c.has_few_contents.ensures)
    loaded from tenant
