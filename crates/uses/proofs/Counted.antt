-- What a service lends of a tenant, as the revisions read it.
use Rattle.std.proofs.Common.{◌≡◌, ℕ, List, Ok, take, sym, ap, subst, ◌∙◌}
use Rattle.git_model.proofs.Readables.{objects_are}
use Rattle.content_pool.specs.Pool.{Cells}
use Rattle.git_model.specs.HeldObjects.{AreHeld}
use Rattle.git_model.specs.RefStore.{RefStore}
use Rattle.revisions.specs.Logs.{range_log}
use Rattle.import_session.specs.Sound.{IsSoundRepository}
use Rattle.import_session.specs.Stream.{Runs, Refused}
use Rattle.session_laws.proofs.SoundLemmas.{checkpoint_is_sound}
use Rattle.tenant_service.specs.TenantState.{TenantState, Idle, Busy}
use Rattle.tenant_service.specs.HeldObjects.{last_held}
use Rattle.tenant_service.specs.Soundness.{IsSoundTenantState}
use Rattle.tenant_service.specs.Tenants.{Shows}
use Rattle.tenant_tables.specs.Objects.{objects}
use Rattle.tenant_tables.specs.View.{View}
use Rattle.tenant_tables.proofs.TableLemmas.{objects-take}

-- a repository at its last checkpoint is sound
last-sound : (digest : List ℕ → List ℕ) (held : TenantState)
    → IsSoundTenantState digest held → IsSoundRepository digest (last_held held)
last-sound digest (Idle repository) sound = sound
last-sound digest (Busy opened (Runs now tail)) sound =
    checkpoint_is_sound digest now.workspace sound.1
last-sound digest (Busy opened (Refused code repository)) sound = sound.1

-- what is said of the committed objects of the table is said of those of the last checkpoint
pub logged : (digest : List ℕ → List ℕ) (held : TenantState) (pool : Cells) (table : View) (refs : RefStore)
    (text : List ℕ) (ids : List (List ℕ))
    → Shows held pool table refs → IsSoundTenantState digest held
    → (AreHeld digest (objects pool (take table.committed table.entries))
    → range_log (objects pool (take table.committed table.entries)) refs text ≡ Ok ids)
    → range_log (last_held held).objects (last_held held).refs text ≡ Ok ids
logged digest held pool table refs text ids shows sound log =
    ap (λ os. range_log os (last_held held).refs text) (sym same)
    ∙ ap (λ (r : RefStore). range_log (objects pool (take table.committed table.entries)) r text) (sym shows.saved)
    ∙ log (subst (AreHeld digest) (sym same) (objects_are _ _ (last-sound digest held sound).objects))
  where
    same : objects pool (take table.committed table.entries) ≡ (last_held held).objects
    same = objects-take pool table.committed table.entries ∙ shows.committed
