-- Copies of a tenant's repository to an empty tenant: the steps of a copy, by git-fast-import(1)
-- and the query `export`, and why a copy is refused before them.
use Rattle.std.specs.Prelude.{◌≡◌, ℕ, ◌==◌, Bool, ◌&&◌, if◌then◌else◌, List, [], ◌∷◌, length, codes, Option, None, Some}
use Rattle.std.specs.Str.{bytes_eq}
use Rattle.git_model.specs.RefStore.{first_head, listed_refs}
use Rattle.git_model.specs.Repository.{Repository}
use Rattle.tenant_refs.specs.TenantName.{is_tenant_name}
use Rattle.service_steps.specs.declared.answer.Answer.{Answer}
use Rattle.service_steps.specs.declared.answer.Answer.TheVariants as answer
use Rattle.service_steps.specs.declared.fault.ServiceFault.{ServiceFault}
use Rattle.service_steps.specs.declared.fault.ServiceFault.TheVariants as fault
use Rattle.service_steps.specs.declared.step.Step.{Step}
use Rattle.service_steps.specs.Faults.{code_of}
use Rattle.tenant_service.specs.Alone.{Call, Open, Feed, End, Ask}
use Rattle.tenant_service.specs.Headline.{Run, IsIsolated, call_of}
use Rattle.tenant_service.specs.TenantState.{TenantState, Idle, Busy, TenantStates, held_of}
use Rattle.tenant_service.specs.StepName.{name_of}

-- A repository has no object and no ref, and HEAD names the ref that it names at first.
abbrev pub has_nothing : Repository → Bool
has_nothing repository = (length repository.objects == 0)
    && (length (listed_refs repository.refs) == 0) && bytes_eq repository.refs.head first_head

-- Why a tenant takes no copy: it has a stream, running or dead, or its repository is not empty.
abbrev pub held_refusal : TenantState → Option ServiceFault
held_refusal (Idle repository) =
    if has_nothing repository then None else Some fault.TenantNotEmpty
held_refusal (Busy opened status) = Some fault.StreamIsOpen

-- Why a copy is refused before its first step, if it is.
abbrev pub copy_refusal : List ℕ → List ℕ → TenantStates → Option ServiceFault
copy_refusal from to all =
    if is_tenant_name from && is_tenant_name to then held_refusal (held_of to all)
    else Some fault.BadTenantName

-- A step is this call of this tenant.
abbrev pub IsCall : List ℕ → Call → Step → Type 0
IsCall tenant call s = (name_of s ≡ tenant) × (call_of s ≡ call)

-- The first of two answers that is not Ok, else Ok.
abbrev pub first_refusal : Answer → Answer → Answer
first_refusal answer.Ok later = later
first_refusal (answer.Fault code) later = answer.Fault code
first_refusal (answer.Memory items) later = answer.Memory items

-- After an Ok the run goes on as `so` says. Any other answer ends it, and is the copy's answer.
abbrev pub GoesOn : Answer → Run → Answer → Type 0 → Type 0
GoesOn answer.Ok later told so = so
GoesOn (answer.Fault code) later told so = (later ≡ []) × (told ≡ answer.Fault code)
GoesOn (answer.Memory items) later told so = (later ≡ []) × (told ≡ answer.Memory items)

-- A stream is fed a whole text and then ended, whatever the Feed answers.
abbrev pub IsFedAndEnded : List ℕ → List ℕ → Run → Answer → Type 0
IsFedAndEnded to text (fed ∷ ended ∷ []) told = IsCall to (Feed text) fed.0
    × IsCall to End ended.0 × (told ≡ first_refusal fed.1.answer ended.1.answer)
IsFedAndEnded to text _ told = ⊥

-- A tenant imports a text: a stream is opened and, if the answer is Ok, fed and ended.
abbrev pub IsImport : List ℕ → List ℕ → Run → Answer → Type 0
IsImport to text [] told = ⊥
IsImport to text (opened ∷ later) told = IsCall to Open opened.0
    × GoesOn opened.1.answer later told (IsFedAndEnded to text later told)

-- One tenant is asked for its export and, if there is one, the other tenant imports its text.
abbrev pub IsExport : List ℕ → List ℕ → Run → Answer → Type 0
IsExport from to [] told = ⊥
IsExport from to (asked ∷ later) told = IsCall from (Ask (codes "export")) asked.0
    × GoesOn asked.1.answer later told (IsImport to asked.1.reply later told)

-- The steps of a copy, and what it answers. A copy that is refused before them has no steps.
abbrev pub IsCopyRun : Option ServiceFault → List ℕ → List ℕ → Run → Answer → Type 0
IsCopyRun (Some refusal) from to run told = (run ≡ []) × (told ≡ answer.Fault (code_of refusal))
IsCopyRun None from to run told = IsExport from to run told

-- A run with the property `Is` was taken, and every tenant was told what it is told in a repository
-- of its own.
pub record HasTaken (digest : List ℕ → List ℕ) (before after : TenantStates) (Is : Run → Type 0)
    : Type 0 where
  pub run : Run
  pub is : Is run
  pub own : (tenant : List ℕ)
      → IsIsolated digest tenant (held_of tenant before) run (held_of tenant after)
