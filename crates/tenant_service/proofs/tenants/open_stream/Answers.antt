use Rattle.std.proofs.Common.{sym, []}
use Rattle.tenant_service.specs.Alone.{Open}
use Rattle.tenant_service.proofs.AccountLemmas.{stands-found, serves-found, leaves-same}
use Rattle.tenant_service.proofs.AccountLemmas.{calls-good, serves-silent}
use Rattle.tenant_service.proofs.tenants.open_stream.Goals as goal

pub open-requires : goal.open-requires
open-requires g c = record {
  stands = stands-found g.N.Naming.digest_of c.args.pool.now c.in-Ok.name c.args.tenants.now.entries
      c.in-Some.tenant.now c.requires (sym c.in-Some.ensures.value);
}

pub returns-in-Some : goal.returns-in-Some
returns-in-Some g c = λ out.
    rw (c.get_mut.follows.holds c.open.new.tenant).0
    (calls-good g.N.Naming.digest_of c.args.tenant.now c.in-Ok.name _ _ _ _ _ _ c.in-Ok.ensures.0
    c.in-Ok.ensures.1
    (serves-silent g.N.Naming.digest_of c.in-Ok.name _ _ _ out _
    (serves-found g.N.Naming.digest_of c.in-Ok.name Open c.args.pool.now c.args.pool.now
    c.args.tenants.now.entries c.in-Some.tenant.now c.open.new.tenant c.open.result [] []
    c.requires (sym c.in-Some.ensures.value) c.open.ensures.stands
    (leaves-same c.args.pool.now c.in-Some.tenant.now.table c.open.new.tenant.table
    c.open.ensures.table) c.open.ensures.own)))

pub returns-in-None : goal.returns-in-None
returns-in-None g c = λ out.
    calls-good g.N.Naming.digest_of c.args.tenant.now c.in-Ok.name _ _ _ _ _ _ c.in-Ok.ensures.0
    c.in-Ok.ensures.1
    (serves-silent g.N.Naming.digest_of c.in-Ok.name _ _ _ out _
    (rw c.get_mut.follows.holds-at-none at c.open_new.ensures))
