use Rattle.std.proofs.Common.{sym, ◌∙◌}
use Rattle.tenant_service.proofs.AccountLemmas.{stands-found}
use Rattle.tenant_service.proofs.RemovalLemmas.{gone, gone-missing}
use Rattle.tenant_service.proofs.merging.take_out.Goals as goal

pub release-requires : goal.release-requires
release-requires g c =
    (stands-found g.N.Naming.digest_of c.args.pool.now c.args.name.now c.args.tenants.now.entries
    c.in-Some.removed c.requires (sym c.shift_remove.ensures.value ∙ c.in-Some.is)).entries

pub returns-in-Some-clause-accounts : goal.returns-in-Some-clause-accounts
returns-in-Some-clause-accounts g c =
    (gone g.N.Naming.digest_of c.args.name.now c.args.pool.now c.release.new.pool
    c.args.tenants.now.entries c.shift_remove.new.self.entries c.in-Some.removed c.requires
    (sym c.shift_remove.ensures.value ∙ c.in-Some.is) c.shift_remove.ensures.entries
    c.shift_remove.ensures.updates.1 c.release.ensures).accounts

pub returns-in-Some-clause-left : goal.returns-in-Some-clause-left
returns-in-Some-clause-left g c =
    (gone g.N.Naming.digest_of c.args.name.now c.args.pool.now c.release.new.pool
    c.args.tenants.now.entries c.shift_remove.new.self.entries c.in-Some.removed c.requires
    (sym c.shift_remove.ensures.value ∙ c.in-Some.is) c.shift_remove.ensures.entries
    c.shift_remove.ensures.updates.1 c.release.ensures).left

pub returns-in_default-clause-left : goal.returns-in_default-clause-left
returns-in_default-clause-left g c =
    (gone-missing g.N.Naming.digest_of c.args.name.now c.args.pool.now c.args.tenants.now.entries
    c.shift_remove.new.self.entries c.requires c.in_default.ensures.unchanged
    (sym c.shift_remove.ensures.value ∙ c.in_default.is)).left
