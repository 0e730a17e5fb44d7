-- Questions for a pack of one tenant: the objects that they are asked of.
use Rattle.std.proofs.Common.{◌≡◌, ℕ, zero, suc, true, List, [], take, Result, refl, sym, ap, subst, ◌∙◌}
use Rattle.std.specs.Global.{Vec}
use Rattle.git_model.proofs.Readables.{objects_are}
use Rattle.byte_devices.specs.Device.{Device}
use Rattle.git_model.specs.HeldObjects.{AreHeld}
use Rattle.git_model.specs.Repository.{Object}
use Rattle.content_pool.specs.Pool.{Cells}
use Rattle.tenant_refs.specs.TenantName.{is_tenant_name}
use Rattle.tenant_tables.specs.Objects.{objects}
use Rattle.tenant_tables.specs.View.{Entries, View, in_sight}
use Rattle.tenant_tables.specs.declared.sight.Sight.TheVariants.{Committed}
use Rattle.tenant_tables.proofs.TableLemmas.{objects-take}
use Rattle.pack_objects.specs.Missing.{TellsMissing, missing_asked}
use Rattle.pack_objects.specs.Packs.{WritesPack, pack_asked}
use Rattle.pack_objects.specs.declared.fault.PackFault.{PackFault}
use Rattle.pack_objects.specs.declared.missing_object.MissingObject.{MissingObject}
use Rattle.tenant_service.specs.HeldObjects.{last_held}
use Rattle.tenant_service.specs.Packing.{last_objects, missing_for, pack_for}
use Rattle.tenant_service.specs.Soundness.{IsSoundTenantState}
use Rattle.tenant_service.specs.TenantState.{TenantState, TenantStates, Idle, empty_repository, held_of}
use Rattle.tenant_service.specs.Tenants.{Shows}
use Rattle.tenant_service.proofs.SoundLemmas.{last-sound}

-- The objects in sight are those of the last checkpoint.
pub objects-shown : (tenant : List ℕ) (all : TenantStates) (pool : Cells) (table : View) (refs : _) (os : List Object)
    → Shows (held_of tenant all) pool table refs → os ≡ objects pool (in_sight Committed table) → os ≡ last_objects tenant all
objects-shown tenant all pool table refs os shows is = is ∙ objects-take pool table.committed table.entries ∙ shows.committed

-- A tenant that was never seen has none.
pub objects-unseen : (tenant : List ℕ) (all : TenantStates) (pool : Cells) (table : View) (os : List Object) → table.entries ≡ []
    → held_of tenant all ≡ Idle empty_repository → os ≡ objects pool (in_sight Committed table) → os ≡ last_objects tenant all
unfolding objects
objects-unseen tenant all pool table os none unseen is =
    is ∙ ap (λ (entries : Entries). objects pool (take table.committed entries)) none ∙ nothing table.committed
    ∙ sym (ap (λ (held : TenantState). (last_held held).objects) unseen)
  where
    nothing : (n : ℕ) → objects pool (take n []) ≡ []
    nothing zero = refl
    nothing (suc n) = refl

held : (digest : List ℕ → List ℕ) (tenant : List ℕ) (all : TenantStates) (os : List Object) → IsSoundTenantState digest (held_of tenant all)
    → os ≡ last_objects tenant all → AreHeld digest os
held digest tenant all os sound is =
    subst (λ (l : List Object). AreHeld digest l) (sym is)
    (objects_are digest (last_objects tenant all) (last-sound digest (held_of tenant all) sound).objects)

-- An answer for the objects of a tenant with a good name is the answer for the tenant.
pub told-missing : (digest : List ℕ → List ℕ) (tenant : List ℕ) (all : TenantStates) (os : List Object) (wants haves : List (List ℕ))
    (result : Result (Vec MissingObject) PackFault) → IsSoundTenantState digest (held_of tenant all) → is_tenant_name tenant ≡ true
    → os ≡ last_objects tenant all → (AreHeld digest os → TellsMissing (missing_asked os wants haves) result)
    → TellsMissing (missing_for tenant all wants haves) result
told-missing digest tenant all os wants haves result sound name is told =
    rw name (subst (λ (l : List Object). TellsMissing (missing_asked l wants haves) result) is (told (held digest tenant all os sound is)))

pub told-pack : (digest : List ℕ → List ℕ) (tenant : List ℕ) (all : TenantStates) (os : List Object) (wants haves : List (List ℕ)) (old new : Device)
    (result : Result Unit PackFault) → IsSoundTenantState digest (held_of tenant all) → is_tenant_name tenant ≡ true
    → os ≡ last_objects tenant all → (AreHeld digest os → WritesPack digest (pack_asked os wants haves) old result new)
    → WritesPack digest (pack_for tenant all wants haves) old result new
told-pack digest tenant all os wants haves old new result sound name is told =
    rw name (subst (λ (l : List Object). WritesPack digest (pack_asked l wants haves) old result new) is (told (held digest tenant all os sound is)))
