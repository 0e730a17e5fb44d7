use Rattle.std.proofs.Common.{◌≡◌, ℕ, false, List, None, ap, subst, ◌∙◌}
use Rattle.std.specs.Prelude.{IfSome}
use Rattle.std.specs.Str.{bytes_eq}
use Rattle.tenant_service.specs.Copying.{HasTaken, IsExport, copy_refusal}
use Rattle.tenant_service.specs.TenantState.{TenantStates, held_of}
use Rattle.tenant_service.specs.Tenants.{holdings}
use Rattle.tenant_service.proofs.CopyRuns.{accounts-told, led-told, others-told, run-told, sound-told}
use Rattle.tenant_service.proofs.ExportRunLemmas.{may-take}
use Rattle.tenant_service.proofs.service.Service.copy_by_places.Goals as goal

pub invariant_of-self : goal.invariant_of-self
invariant_of-self g c =
    let D = g.N.Naming.digest_of in
    let names = g.met.N.Naming.answers_names in
    let p = c.self.inside.pool in
    let q = c.copy_by_places.new.pool in
    let es = c.self.inside.tenants.entries in
    let new = c.copy_by_places.new.tenants.entries in
    let from = c.args.from.now in
    let to = c.args.to.now in
    let sound = c.self.invariant.sound in
    let free : copy_refusal from to (holdings p es) ≡ None =
    ap (copy_refusal from to) c.self.view_is ∙ c.requires in
    let may = may-take from to (holdings p es) free in
    let told = c.copy_by_places.ensures in
    record {
      accounts = accounts-told D names p q es new from to sound may c.copy_by_places.result told;
      led = led-told D names p q es new from to sound may c.copy_by_places.result told c.self.invariant.led;
      sound = sound-told D names p q es new from to sound may c.copy_by_places.result told;
    }

pub returns-clause-copied : goal.returns-clause-copied
returns-clause-copied g c =
    let p = c.self.inside.pool in
    let q = c.copy_by_places.new.pool in
    let es = c.self.inside.tenants.entries in
    let new = c.copy_by_places.new.tenants.entries in
    let from = c.args.from.now in
    let to = c.args.to.now in
    let free : copy_refusal from to (holdings p es) ≡ None =
    ap (copy_refusal from to) c.self.view_is ∙ c.requires in
    subst (λ (all : TenantStates). IfSome c.copy_by_places.result
    (λ answer. HasTaken g.N.Naming.digest_of all (holdings q new) (λ run. IsExport from to run answer)))
    c.self.view_is
    (run-told g.N.Naming.digest_of g.met.N.Naming.answers_names p q es new from to
    c.self.invariant.sound (may-take from to (holdings p es) free) c.copy_by_places.result
    c.copy_by_places.ensures)

pub returns-clause-others : goal.returns-clause-others
returns-clause-others g c =
    let p = c.self.inside.pool in
    let es = c.self.inside.tenants.entries in
    let from = c.args.from.now in
    let to = c.args.to.now in
    let free : copy_refusal from to (holdings p es) ≡ None =
    ap (copy_refusal from to) c.self.view_is ∙ c.requires in
    subst (λ (all : TenantStates). IfSome c.copy_by_places.result (λ answer. (tenant : List ℕ)
    → bytes_eq tenant to ≡ false → held_of tenant
    (holdings c.copy_by_places.new.pool c.copy_by_places.new.tenants.entries) ≡ held_of tenant all))
    c.self.view_is
    (others-told g.N.Naming.digest_of g.met.N.Naming.answers_names p c.copy_by_places.new.pool es
    c.copy_by_places.new.tenants.entries from to c.self.invariant.sound
    (may-take from to (holdings p es) free) c.copy_by_places.result c.copy_by_places.ensures)
