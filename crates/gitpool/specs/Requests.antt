-- What each request of a host leads to: the clause of the call that answers it.
use Rattle.std.specs.Prelude.{◌≡◌, ◌≢◌, ℕ, false, List, [], ◌∷◌, Option, None, IsSome}
use Rattle.std.specs.Str.{bytes_eq}
use Rattle.std.specs.Io.KnownBytes.{Keeps}
use Rattle.export_laws.specs.Copies.{CanBeCopied}
use Rattle.pool_file_checks.specs.Repositories.{file_text}
use Rattle.service_steps.specs.declared.answer.Answer.{Answer}
use Rattle.service_steps.specs.declared.answer.Answer.TheVariants as answer
use Rattle.service_steps.specs.declared.request.Request.{Request}
use Rattle.service_steps.specs.declared.request.Request.TheVariants as request
use Rattle.service_steps.specs.declared.request.SavedAs.{SavedAs}
use Rattle.service_steps.specs.declared.request.SavedAs.TheVariants as saved
use Rattle.service_steps.specs.declared.step.Step.{Step}
use Rattle.tenant_service.specs.Compacting.{AnswersUnless, IsCompacted, compacted}
use Rattle.tenant_service.specs.Copies.{CopiesAs, StoresAs}
use Rattle.tenant_service.specs.Copying.{HasTaken, IsCopyRun, copy_refusal}
use Rattle.tenant_service.specs.Headline.{Response, IsIsolated, IsRefused}
use Rattle.tenant_service.specs.HeldObjects.{last_held}
use Rattle.tenant_service.specs.Kept.{KeepsOpened, may_change}
use Rattle.tenant_service.specs.Removing.{abandon_refusal, all_but, answer_unless, removal_refusal}
use Rattle.tenant_service.specs.Saved.{saved_as_opened, saved_of}
use Rattle.tenant_service.specs.TenantState.{TenantStates, Idle, held_of}
use Rattle.gitpool.specs.Packing.{IsTold, entries_told, missing_told}
use Rattle.gitpool.specs.Places.{IsAsKnown}
use Rattle.gitpool.specs.Sizing.{sizes_text}

-- An answer with a reply, and one without.
abbrev pub told_with : Answer → List ℕ → Response
told_with given reply = record { answer = given; reply = reply }

abbrev pub told_only : Answer → Response
told_only given = record { answer = given; reply = [] }

-- Every tenant but this one has what it had.
abbrev pub SparesOthers : List ℕ → TenantStates → TenantStates → Type 0
SparesOthers tenant before after = (other : List ℕ) → bytes_eq other tenant ≡ false
    → held_of other after ≡ held_of other before

-- A step was taken, and every tenant was told what it is told in a repository of its own. Tenants
-- that the step does not change have what they had, and what a stream was opened on stays.
pub record TakesStep (digest : List ℕ → List ℕ) (s : Step) (before : TenantStates)
    (told : Response) (after : TenantStates) : Type 0 where
  pub own : (tenant : List ℕ)
      → IsIsolated digest tenant (held_of tenant before) ((s, told) ∷ []) (held_of tenant after)
  pub kept : (tenant : List ℕ) → may_change tenant s ≡ false
      → held_of tenant after ≡ held_of tenant before
  pub opened : (tenant : List ℕ) → KeepsOpened (held_of tenant before) (held_of tenant after)
  pub bad_names : IsRefused (s, told)

-- The stream of a tenant was given up, as by `Service::abandon`.
pub record GivesUp (tenant : List ℕ) (before : TenantStates) (told : Response)
    (after : TenantStates) : Type 0 where
  pub answered : told ≡ told_only (answer_unless (abandon_refusal tenant before))
  pub own : held_of tenant after ≡ Idle (last_held (held_of tenant before))
  pub others : SparesOthers tenant before after
  pub refused : IsSome (abandon_refusal tenant before) → after ≡ before

-- A tenant was removed, as by `Service::remove_tenant`.
pub record Removed (tenant : List ℕ) (before : TenantStates) (told : Response)
    (after : TenantStates) : Type 0 where
  pub answered : told ≡ told_only (answer_unless (removal_refusal tenant before))
  pub removed : removal_refusal tenant before ≡ None → after ≡ all_but tenant before
  pub others : SparesOthers tenant before after
  pub refused : IsSome (removal_refusal tenant before) → after ≡ before

-- A tenant was compacted, as by `Service::compact_tenant`.
pub record LeavesReached (tenant : List ℕ) (before : TenantStates) (told : Response)
    (after : TenantStates) : Type 0 where
  pub silent : told ≡ told_only told.answer
  pub answered : AnswersUnless (removal_refusal tenant before) told.answer
  pub own : told.answer ≡ answer.Ok
      → held_of tenant after ≡ Idle (compacted (last_held (held_of tenant before)))
  pub whole : told.answer ≡ answer.Ok
      → IsCompacted (last_held (held_of tenant before)) (last_held (held_of tenant after))
  pub others : SparesOthers tenant before after
  pub refused : told.answer ≢ answer.Ok → after ≡ before

-- A repository was copied, as by `Service::copy_tenant`.
pub record Copied (digest : List ℕ → List ℕ) (from to : List ℕ) (before : TenantStates)
    (told : Response) (after : TenantStates) : Type 0 where
  pub silent : told ≡ told_only told.answer
  pub copied : HasTaken digest before after
      (λ run. IsCopyRun (copy_refusal from to before) from to run told.answer)
  pub others : SparesOthers to before after
  pub refused : IsSome (copy_refusal from to before) → after ≡ before
  pub copies : copy_refusal from to before ≡ None → CanBeCopied (last_held (held_of from before))
      → CopiesAs told.answer (last_held (held_of from before)) (held_of to after)
  pub stored : copy_refusal from to before ≡ None → CanBeCopied (last_held (held_of from before))
      → StoresAs told.answer before after

-- The text of a pool file, by what it has of a tenant with a stream.
abbrev pub pool_text : (List ℕ → List ℕ) → SavedAs → TenantStates → List ℕ
pool_text digest saved.LastCheckpoint all = file_text digest (saved_of all)
pool_text digest saved.Opened all = file_text digest (saved_as_opened all)

-- What was told of a save, and what it left of the pool file: after Ok exactly this text; after
-- Fault(68), and after Memory(0), what it was.
abbrev pub IsSaved : List ℕ → Option (List ℕ) → Answer → Option (List ℕ) → Type 0
IsSaved text old answer.Ok new = IsAsKnown old new text
IsSaved text old (answer.Fault code) new = (code ≡ 68) × Keeps old new
IsSaved text old (answer.Memory items) new = (items ≡ 0) × Keeps old new

-- What was told of sizes: their lines, or that memory ran out.
abbrev pub IsSized : TenantStates → Answer → List ℕ → Type 0
IsSized all answer.Ok reply = reply ≡ sizes_text all
IsSized all (answer.Fault code) reply = ⊥
IsSized all (answer.Memory items) reply = (items ≡ 0) × (reply ≡ [])

-- What a host has: what is held of each tenant, and the bytes of the pool file, where they are
-- known.
pub record Hosted : Type 0 where
  pub tenants : TenantStates
  pub file : Option (List ℕ)

abbrev pub hosted : TenantStates → Option (List ℕ) → Hosted
hosted tenants file = record { tenants = tenants; file = file }

-- What one request was told, and what it left. A Save changes nothing that is held, and nothing
-- else changes the pool file.
abbrev pub Takes : (List ℕ → List ℕ) → Request → Hosted → Response → Hosted → Type 0
Takes digest (request.Step s) before told after =
    TakesStep digest s before.tenants told after.tenants × (after.file ≡ before.file)
Takes digest (request.Save which) before told after =
    (after.tenants ≡ before.tenants) × (told ≡ told_only told.answer)
    × IsSaved (pool_text digest which before.tenants) before.file told.answer after.file
Takes digest (request.Abandon tenant) before told after =
    GivesUp tenant.now before.tenants told after.tenants × (after.file ≡ before.file)
Takes digest (request.Remove tenant) before told after =
    Removed tenant.now before.tenants told after.tenants × (after.file ≡ before.file)
Takes digest (request.Compact tenant) before told after =
    LeavesReached tenant.now before.tenants told after.tenants × (after.file ≡ before.file)
Takes digest (request.Copy from to) before told after =
    Copied digest from.now to.now before.tenants told after.tenants × (after.file ≡ before.file)
Takes digest request.Sizes before told after =
    (after ≡ before) × IsSized before.tenants told.answer told.reply
Takes digest (request.Missing tenant wants haves) before told after = (after ≡ before)
    × IsTold (missing_told tenant.now before.tenants wants.now haves.now) told.answer told.reply
Takes digest (request.Entries tenant limit names) before told after = (after ≡ before)
    × IsTold (entries_told tenant.now before.tenants limit names.now) told.answer told.reply
