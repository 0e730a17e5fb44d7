use Rattle.std.proofs.Common.{refl, sym}
use Rattle.tenant_service.proofs.AccountLemmas.{stands-found}
use Rattle.tenant_service.proofs.CompactTenants.{compacts-found, compacts-missing}
use Rattle.tenant_service.proofs.SoundLemmas.{sound-found}
use Rattle.tenant_service.proofs.compacting.compact.Goals as goal

pub compact_one-requires-clause-stands : goal.compact_one-requires-clause-stands
compact_one-requires-clause-stands g c =
    stands-found g.N.Naming.digest_of c.args.pool.now c.in-Ok.name c.args.tenants.now.entries
    c.in-Some.tenant.now c.requires.accounts (sym c.in-Some.ensures.value)

pub compact_one-requires-clause-sound : goal.compact_one-requires-clause-sound
compact_one-requires-clause-sound g c =
    sound-found g.N.Naming.digest_of c.args.pool.now c.in-Ok.name c.args.tenants.now.entries
    c.in-Some.tenant.now c.requires.sound (sym c.in-Some.ensures.value)

pub returns-in-Some : goal.returns-in-Some
returns-in-Some g c =
    rw (c.get_mut.follows.holds c.compact_one.new.tenant).0
    (compacts-found g.N.Naming.digest_of c.args.tenant.now c.in-Ok.name c.args.pool.now
    c.compact_one.new.pool c.args.tenants.now.entries c.in-Some.tenant.now c.compact_one.new.tenant
    c.compact_one.result c.in-Ok.ensures.0 c.in-Ok.ensures.1 c.requires.accounts
    (sym c.in-Some.ensures.value) c.compact_one.ensures)

pub returns-in-None : goal.returns-in-None
returns-in-None g c =
    compacts-missing g.N.Naming.digest_of c.args.tenant.now c.in-Ok.name c.args.pool.now
    c.args.tenants.now.entries _ c.in-Ok.ensures.0 c.in-Ok.ensures.1 c.requires.accounts
    (sym c.in-None.ensures.value) (rw c.get_mut.follows.holds-at-none refl)
