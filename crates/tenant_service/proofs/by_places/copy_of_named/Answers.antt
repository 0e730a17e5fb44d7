use Rattle.std.proofs.Common.{sym, ap, subst, ◌∙◌}
use Rattle.std.specs.Prelude.{IfOk}
use Rattle.std.specs.Map.{set_value}
use Rattle.std.specs.Str.{bytes_eq}
use Rattle.tenant_service.specs.ByPlaces.{MayBeCopy}
use Rattle.tenant_service.specs.HeldObjects.{last_held}
use Rattle.tenant_service.specs.TenantState.{TenantState}
use Rattle.tenant_service.proofs.AccountLemmas.{held-found, set-same, stands-found}
use Rattle.tenant_service.proofs.SoundLemmas.{sound-found}
use Rattle.tenant_service.proofs.by_places.copy_of_named.Goals as goal

pub copy_of-requires-clause-stands : goal.copy_of-requires-clause-stands
copy_of-requires-clause-stands g c =
    stands-found g.N.Naming.digest_of c.args.pool.now c.args.from.now c.args.tenants.now.entries
    c.in-Some.source.now c.requires.accounts (sym c.in-Some.ensures.value)

pub copy_of-requires-clause-sound : goal.copy_of-requires-clause-sound
copy_of-requires-clause-sound g c =
    sound-found g.N.Naming.digest_of c.args.pool.now c.args.from.now c.args.tenants.now.entries
    c.in-Some.source.now c.requires.sound (sym c.in-Some.ensures.value)

pub returns-in-Some-clause-entries : goal.returns-in-Some-clause-entries
returns-in-Some-clause-entries g c =
    (c.get_mut.follows.holds c.copy_of.new.source).0
    ∙ ap (set_value (bytes_eq c.args.from.now) c.args.tenants.now.entries) c.copy_of.ensures.same
    ∙ set-same c.args.from.now c.args.tenants.now.entries c.in-Some.source.now
    (sym c.in-Some.ensures.value)

pub returns-in-Some-clause-ok : goal.returns-in-Some-clause-ok
returns-in-Some-clause-ok g c =
    subst (λ (held : TenantState). IfOk c.copy_of.result
    (MayBeCopy g.N.Naming.digest_of c.args.pool.now (last_held held) c.copy_of.new.pool))
    (sym (held-found c.args.pool.now c.args.from.now c.args.tenants.now.entries c.in-Some.source.now
    (sym c.in-Some.ensures.value))) c.copy_of.ensures.ok
