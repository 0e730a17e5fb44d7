-- What a load from bytes in memory answers and leaves, and what a save puts into a reply.
use Rattle.std.specs.Prelude.{◌≡◌, ℕ, List, [], Option, None, Some, Result, Ok, Err}
use Rattle.service_steps.specs.declared.answer.Answer.{Answer}
use Rattle.service_steps.specs.declared.answer.Answer.TheVariants as answer
use Rattle.pool_file_format.specs.declared.fault.Fault.{Fault}
use Rattle.pool_file_checks.specs.Repositories.{file_text}
use Rattle.tenant_service.specs.Headline.{Response}
use Rattle.tenant_service.specs.Saved.{LoadsAs, LoadsEach, LoadsText, saved_of}
use Rattle.tenant_service.specs.TenantState.{TenantStates}
use Rattle.gitpool_c.specs.declared.kept.Kept.{Kept}
use Rattle.gitpool_c.specs.Numbers.{load_number}

-- The clauses of `Service::load` of a reader that has just these bytes.
pub record LoadsBytes (digest : List ℕ → List ℕ) (bytes : List ℕ)
    (outcome : Result TenantStates Fault) : Type 0 where
  pub rest : Option (List ℕ)
  pub exact : LoadsAs digest (Some bytes) outcome rest
  pub found : LoadsText digest (Some bytes) outcome
  pub only : LoadsEach digest (Some bytes) outcome

-- A handle keeps the service that was loaded. After a fault it keeps what it kept.
abbrev pub IsLeft : Option Kept → Result TenantStates Fault → Option Kept → Type 0
IsLeft before (Ok held) None = ⊥
IsLeft before (Ok held) (Some kept) = kept.service ≡ held
IsLeft before (Err fault) after = after ≡ before

-- A pool file in memory was loaded into a handle, or refused under this number.
pub record HasLoaded (digest : List ℕ → List ℕ) (bytes : List ℕ) (before : Option Kept)
    (number : ℕ) (after : Option Kept) : Type 0 where
  pub outcome : Result TenantStates Fault
  pub loads : LoadsBytes digest bytes outcome
  pub numbered : number ≡ load_number outcome
  pub left : IsLeft before outcome after

-- After Ok these are the bytes of the pool file. Else memory ran out, and there are none.
abbrev pub SavesAs : (List ℕ → List ℕ) → TenantStates → Answer → List ℕ → Type 0
SavesAs digest all answer.Ok bytes = bytes ≡ file_text digest (saved_of all)
SavesAs digest all (answer.Fault code) bytes = ⊥
SavesAs digest all (answer.Memory items) bytes = (items ≡ 0) × (bytes ≡ [])

-- The same of a reply.
abbrev pub Saves : (List ℕ → List ℕ) → TenantStates → Response → Type 0
Saves digest all told = SavesAs digest all told.answer told.reply
