use Rattle.tenant_service.proofs.ExtractLemmas.{extracted-others, extracted-own, extracted-text}
use Rattle.tenant_service.proofs.service.Service.extracted_comes_back.Goals as goal

pub returns-clause-text : goal.returns-clause-text
returns-clause-text g c =
    extracted-text g.N.Naming.digest_of c.args.self.now c.has_few_names.ensures.names
    c.has_distinct_names.ensures c.is_sound.ensures c.args.tenant.now

pub returns-clause-own : goal.returns-clause-own
returns-clause-own g c = λ loaded from.
    extracted-own g.N.Naming.digest_of c.args.self.now c.has_few_names.ensures.names
    c.has_distinct_names.ensures c.is_sound.ensures c.args.tenant.now g.met.N.Naming.answers_names
    loaded from

pub returns-clause-others : goal.returns-clause-others
returns-clause-others g c = λ loaded from.
    extracted-others g.N.Naming.digest_of c.args.self.now c.has_few_names.ensures.names
    c.has_distinct_names.ensures c.is_sound.ensures c.args.tenant.now g.met.N.Naming.answers_names
    loaded from
