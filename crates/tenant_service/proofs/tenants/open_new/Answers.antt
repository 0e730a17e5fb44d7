use Rattle.std.proofs.Common.{refl, ap, ◌∙◌, []}
use Rattle.tenant_tables.specs.View.{View}
use Rattle.tenant_service.specs.Alone.{Open}
use Rattle.tenant_service.proofs.AccountLemmas.{serves-missing, serves-new}
use Rattle.tenant_service.proofs.tenants.open_new.Goals as goal

pub open-answer-requires : goal.open-answer-requires
open-answer-requires g c = record {
  stands = c.new_tenant-tenant.ensures.stands g.N.Naming.digest_of c.args.pool.now;
}

pub returns-in-Ok : goal.returns-in-Ok
returns-in-Ok g c =
    serves-new g.N.Naming.digest_of c.args.name Open c.args.pool.now c.args.tenants.now.entries c.add_tenant.new.tenants.entries c.open-answer.new.tenant
    c.open-answer.result [] [] c.requires.accounts c.requires.named c.requires.new
    c.in-Ok.ensures.ok
    (ap (λ (t : View). t.entries) c.open-answer.ensures.table ∙ c.new_tenant-tenant.ensures.entries)
    c.open-answer.ensures.stands
    (rw (c.new_tenant-tenant.ensures.held c.args.pool.now) at c.open-answer.ensures.own)

pub returns-in-Err : goal.returns-in-Err
returns-in-Err g c =
    serves-missing g.N.Naming.digest_of c.args.name Open c.args.pool.now c.args.tenants.now.entries c.add_tenant.new.tenants.entries _ []
    c.requires.accounts c.requires.new c.in-Err.ensures.err refl
