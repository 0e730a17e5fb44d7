use Rattle.tenant_service.proofs.BackLemmas.{text-saved, back-loaded}
use Rattle.tenant_service.proofs.service.Service.comes_back.Goals as goal

pub returns-clause-text : goal.returns-clause-text
returns-clause-text g c =
    text-saved g.N.Naming.digest_of c.args.self.now c.has_few_names.ensures.names
    c.has_distinct_names.ensures c.is_sound.ensures c.has_few_names.ensures.few c.has_few_contents.ensures

pub returns-clause-same : goal.returns-clause-same
returns-clause-same g c = λ loaded from tenant.
    back-loaded g.N.Naming.digest_of c.args.self.now c.has_few_names.ensures.names
    c.has_distinct_names.ensures c.is_sound.ensures g.met.N.Naming.answers_names
    (text-saved g.N.Naming.digest_of c.args.self.now c.has_few_names.ensures.names
    c.has_distinct_names.ensures c.is_sound.ensures c.has_few_names.ensures.few c.has_few_contents.ensures)
    loaded from tenant
