-- What a tenant is told alone, and what it is left with, when it takes a copy.
use Rattle.std.specs.Prelude.{◌≡◌, ℕ, List, [], ◌∷◌, Option, None}
use Rattle.git_model.specs.Repository.{Repository}
use Rattle.content_pool.specs.LiveContents.{stored_sizes}
use Rattle.service_steps.specs.declared.answer.Answer.{Answer}
use Rattle.service_steps.specs.declared.answer.Answer.TheVariants as answer
use Rattle.export_laws.specs.Copies.{IsCopyOf}
use Rattle.tenant_service.specs.Alone.{Call, Open, Feed, End, Closed}
use Rattle.tenant_service.specs.Headline.{Response, told_alone, left_alone}
use Rattle.tenant_service.specs.TenantState.{TenantState, TenantStates, Idle, Busy, empty_repository}
use Rattle.tenant_service.specs.HeldObjects.{held_contents}

-- The steps that import a text in one Feed, and no step runs out of memory.
abbrev pub import_steps : List ℕ → List (Call × Option ℕ)
import_steps text = (Open, None) ∷ (Feed text, None) ∷ (End, None) ∷ []

-- Ok without a reply.
abbrev pub told_ok : Response
told_ok = record { answer = answer.Ok; reply = [] }

-- In an empty repository of its own, each step of the import of a text is answered Ok without a
-- reply. The steps leave a copy of a repository, and no stream.
pub record Takes (digest : List ℕ → List ℕ) (text : List ℕ) (repository : Repository) : Type 0 where
  pub told : told_alone digest (Closed empty_repository) (import_steps text)
      ≡ told_ok ∷ told_ok ∷ told_ok ∷ []
  pub left : Repository
  pub leaves : left_alone digest (Closed empty_repository) (import_steps text) ≡ Closed left
  pub copy : IsCopyOf repository left

-- The service holds a copy of a repository for a tenant, and no stream.
abbrev pub HoldsCopy : Repository → TenantState → Type 0
HoldsCopy repository (Idle left) = IsCopyOf repository left
HoldsCopy repository (Busy opened status) = ⊥

-- The answer is Ok, and then the other tenant has a copy; or memory ran out. It is no fault.
abbrev pub CopiesAs : Answer → Repository → TenantState → Type 0
CopiesAs answer.Ok repository held = HoldsCopy repository held
CopiesAs (answer.Memory items) repository held = Unit {0}
CopiesAs (answer.Fault code) repository held = ⊥

-- After Ok the tenants have no other contents than before, so nothing more is stored.
abbrev pub StoresAs : Answer → TenantStates → TenantStates → Type 0
StoresAs answer.Ok before after =
    stored_sizes (held_contents after) ≡ stored_sizes (held_contents before)
StoresAs (answer.Memory items) before after = Unit {0}
StoresAs (answer.Fault code) before after = Unit {0}
