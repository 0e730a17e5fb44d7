-- Soundness of what is held of a tenant. The service keeps it for each tenant, so its calls have no
-- premise.
use Rattle.std.specs.Prelude.{ℕ, List}
use Rattle.import_session.specs.Sound.{IsSoundRepository}
use Rattle.tenant_stream.specs.Soundness.{IsSoundStreamStatus}
use Rattle.tenant_service.specs.TenantState.{TenantState, Idle, Busy}

-- What is held is sound: a sound repository; or a stream that was opened on one, and that is sound
-- as it stands.
abbrev pub IsSoundTenantState : (List ℕ → List ℕ) → TenantState → Type 0
IsSoundTenantState digest (Idle repository) = IsSoundRepository digest repository
IsSoundTenantState digest (Busy opened status) =
    IsSoundRepository digest opened × IsSoundStreamStatus digest status
