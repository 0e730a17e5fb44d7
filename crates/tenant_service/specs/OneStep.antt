-- What a step does to the tenants and the pool: definitions for the contracts of private functions.
-- No public clause cites them.
use Rattle.std.specs.Prelude.{◌≡◌, ℕ, zero, suc, Bool, true, false, List, [], ◌∷◌, ◌++◌, map}
use Rattle.std.specs.Str.{bytes_eq}
use Rattle.content_pool.specs.Pool.{Cells}
use Rattle.tenant_refs.specs.TenantName.{is_tenant_name}
use Rattle.answers.specs.declared.fault.Fault.{Fault}
use Rattle.answers.specs.declared.fault.Fault.TheVariants as fault
use Rattle.answers.specs.Faults.{code_of}
use Rattle.service_steps.specs.declared.answer.Answer.{Answer}
use Rattle.service_steps.specs.declared.answer.Answer.TheVariants as answers
use Rattle.service_steps.specs.declared.fault.ServiceFault.TheVariants as service
use Rattle.service_steps.specs.Faults.{code_of as service_code}
use Rattle.service_steps.specs.declared.step.Step.{Step}
use Rattle.service_steps.specs.declared.step.Step.TheVariants as step
use Rattle.tenant_service.specs.Alone.{Call, StepResult}
use Rattle.tenant_service.specs.Headline.{call_of, stop_told}
use Rattle.tenant_service.specs.TenantState.{TenantState, Idle, TenantStates, held_of}
use Rattle.tenant_service.specs.HeldObjects.{last_held}
use Rattle.tenant_service.specs.HeldSteps.{step_held}
use Rattle.tenant_service.specs.StepName.{name_of}
use Rattle.tenant_service.specs.Tenants.{Tenants, Accounts, holdings}

-- A call was answered, printed and left what a step result says.
pub record Takes (t : StepResult TenantState) (answer : Answer) (out out' : List ℕ)
    (left : TenantState) : Type 0 where
  pub answered : t.answer ≡ answer
  pub printed : out' ≡ out ++ t.reply
  pub leaves : t.state ≡ left

-- The answer to a query that is refused. Running out of memory has an answer of its own.
abbrev pub refusal_told : Fault → Answer
refusal_told fault.Memory = answers.Memory 0
refusal_told refusal = answers.Fault (code_of refusal)

-- The pool and all tenants, before a step or after it.
pub record Store : Type 0 where
  pub pool : Cells
  pub tenants : Tenants

abbrev pub store : Cells → Tenants → Store
store pool tenants = record { pool = pool; tenants = tenants }

-- What is held of a tenant then.
abbrev pub held_in_store : List ℕ → Store → TenantState
held_in_store name s = held_of name (holdings s.pool s.tenants)

-- A call of the tenant of this name was answered and printed as `step_held` says, and it changed no
-- other tenant. Afterwards the accounts hold again.
pub record Serves (digest : List ℕ → List ℕ) (name : List ℕ) (call : Call) (before : Store)
    (answer : Answer) (out out' : List ℕ) (after : Store) : Type 0 where
  pub accounts : Accounts digest after.pool after.tenants
  pub own : Takes (step_held digest call (stop_told answer) (held_in_store name before)) answer
      out out' (held_in_store name after)
  pub others : (other : List ℕ) → bytes_eq other name ≡ false
      → held_in_store other after ≡ held_in_store other before

-- A step with a bad name was refused, and changed nothing.
pub record Refuses (digest : List ℕ → List ℕ) (before : Store) (answer : Answer)
    (out out' : List ℕ) (after : Store) : Type 0 where
  pub accounts : Accounts digest after.pool after.tenants
  pub answered : answer ≡ answers.Fault (service_code service.BadTenantName)
  pub printed : out' ≡ out
  pub same : holdings after.pool after.tenants ≡ holdings before.pool before.tenants

-- A call under a name: a good name is that of a tenant, and a bad one is nobody's.
abbrev pub Calls : (List ℕ → List ℕ) → Bool → List ℕ → Call → Store → Answer → List ℕ → List ℕ
    → Store → Type 0
Calls digest true name call before answer out out' after =
    Serves digest name call before answer out out' after
Calls digest false name call before answer out out' after =
    Refuses digest before answer out out' after

-- A restart goes back to the last checkpoint of every tenant.
abbrev pub restarted : TenantStates → TenantStates
restarted all = map (λ e. (e.0, Idle (last_held e.1))) all

pub record Restarts (digest : List ℕ → List ℕ) (before : Store) (answer : Answer)
    (out out' : List ℕ) (after : Store) : Type 0 where
  pub accounts : Accounts digest after.pool after.tenants
  pub answered : answer ≡ answers.Ok
  pub printed : out' ≡ out
  pub closed : holdings after.pool after.tenants ≡ restarted (holdings before.pool before.tenants)

-- What a step did: a restart, or a call under a name.
abbrev pub Steps : (List ℕ → List ℕ) → Step → Store → Answer → List ℕ → List ℕ → Store → Type 0
Steps digest step.Restart before answer out out' after =
    Restarts digest before answer out out' after
Steps digest s before answer out out' after =
    Calls digest (is_tenant_name (name_of s)) (name_of s) (call_of s) before answer out out' after

-- The first so many tenants are restarted, or only the one at a position.
abbrev pub first_restarted : ℕ → TenantStates → TenantStates
first_restarted zero all = all
first_restarted (suc n) [] = []
first_restarted (suc n) (e ∷ all) = (e.0, Idle (last_held e.1)) ∷ first_restarted n all

abbrev pub restarted_at : ℕ → TenantStates → TenantStates
restarted_at n [] = []
restarted_at zero (e ∷ all) = (e.0, Idle (last_held e.1)) ∷ all
restarted_at (suc n) (e ∷ all) = e ∷ restarted_at n all
