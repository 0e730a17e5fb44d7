use Rattle.std.proofs.Common.{subst}
use Rattle.tenant_service.specs.Compacting.{IsCompacted}
use Rattle.tenant_service.specs.HeldObjects.{last_held}
use Rattle.tenant_service.specs.TenantState.{TenantStates, held_of}
use Rattle.tenant_service.specs.Tenants.{holdings}
use Rattle.tenant_service.proofs.CompactTenants.{compacted-all-sound, compacted-led, left-whole}
use Rattle.tenant_service.proofs.service.Service.compact_tenant.Goals as goal

pub invariant_of-self : goal.invariant_of-self
invariant_of-self g c =
    let D = g.N.Naming.digest_of in
    let before = holdings c.self.inside.pool c.self.inside.tenants.entries in
    let after = holdings c.compact.new.pool c.compact.new.tenants.entries in
    let name = c.args.tenant.now in
    let k = c.compact.ensures in
    record {
      accounts = k.accounts;
      led = compacted-led D name before after c.compact.result k.own k.others k.refused c.self.invariant.led;
      sound = compacted-all-sound D name before after c.compact.result k.own k.others k.refused
          c.self.invariant.sound;
    }

pub returns-clause-whole : goal.returns-clause-whole
returns-clause-whole g c = λ ok.
    let before = holdings c.self.inside.pool c.self.inside.tenants.entries in
    let after = holdings c.compact.new.pool c.compact.new.tenants.entries in
    let name = c.args.tenant.now in
    let k = c.compact.ensures in
    subst (λ (all : TenantStates). IsCompacted (last_held (held_of name all)) (last_held (held_of name after)))
    c.self.view_is
    (left-whole g.N.Naming.digest_of name before after c.compact.result k.own k.others k.refused
    c.self.invariant.sound ok)
