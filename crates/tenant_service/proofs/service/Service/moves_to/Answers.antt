use Rattle.tenant_service.proofs.MoveLemmas.{has-moved}
use Rattle.tenant_service.proofs.service.Service.moves_to.Goals as goal

pub returns : goal.returns
returns g c = λ loaded before from free came.
    has-moved g.N.Naming.digest_of c.args.tenant.now c.args.self.now loaded before c.args.after.now
    c.has_distinct_names.ensures c.has_distinct_names-2.ensures
    (c.extracted_comes_back.ensures.own loaded from) (c.extracted_comes_back.ensures.others loaded from)
    free came
