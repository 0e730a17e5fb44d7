use Rattle.std.proofs.Common.{sym}
use Rattle.tenant_service.proofs.RestartLemmas.{stands-placed, restarted-placed, length-set_at}
use Rattle.tenant_service.proofs.tenants.restart_at.Goals as goal

pub restart-requires : goal.restart-requires
restart-requires g c = record {
  stands = stands-placed g.N.Naming.digest_of c.args.pool.now c.args.tenants.now.entries c.args.place c.in-Some.tenant.now c.requires.accounts (sym c.in-Some.ensures.value);
}

pub returns-in-Some-clause-accounts : goal.returns-in-Some-clause-accounts
returns-in-Some-clause-accounts g c =
    (restarted-placed g.N.Naming.digest_of c.args.pool.now c.restart.new.pool c.args.tenants.now.entries c.args.place c.in-Some.tenant.now c.restart.new.tenant
    c.requires.accounts (sym c.in-Some.ensures.value) c.restart.ensures.stands c.restart.ensures.others c.restart.ensures.own).accounts

pub returns-in-Some-clause-len : goal.returns-in-Some-clause-len
returns-in-Some-clause-len g c = length-set_at c.args.tenants.now.entries c.args.place c.restart.new.tenant

pub returns-in-Some-clause-closed : goal.returns-in-Some-clause-closed
returns-in-Some-clause-closed g c =
    (restarted-placed g.N.Naming.digest_of c.args.pool.now c.restart.new.pool c.args.tenants.now.entries c.args.place c.in-Some.tenant.now c.restart.new.tenant
    c.requires.accounts (sym c.in-Some.ensures.value) c.restart.ensures.stands c.restart.ensures.others c.restart.ensures.own).closed
