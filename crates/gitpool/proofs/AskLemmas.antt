-- One query of a tenant: what it is told, and that it changes nothing.
use Rattle.std.proofs.Common.{◌≡◌, ℕ, zero, suc, Bool, true, false, not, List, [], ◌∷◌, Option, None, Some, Result, Ok, Err, refl, sym, ap, subst, ◌∙◌}
use Rattle.std.specs.Io.KnownBytes.{Appends}
use Rattle.git_model.specs.Repository.{Repository}
use Rattle.git_objects.specs.Device.{Device, HasFault, IsWell, AppendsFront}
use Rattle.service_steps.specs.declared.answer.Answer.{Answer}
use Rattle.service_steps.specs.declared.answer.Answer.TheVariants as answer
use Rattle.service_steps.specs.declared.step.Step.{Step}
use Rattle.tenant_refs.specs.TenantName.{is_tenant_name}
use Rattle.tenant_service.specs.Alone.{Ask, State, added, answered, asked, last_alone}
use Rattle.tenant_service.specs.Headline.{Response, response_in, IsIsolated, IsRefused, has_bad_name, call_of, stop_told}
use Rattle.tenant_service.specs.TenantState.{TenantStates, Represents, held_of}
use Rattle.tenant_service.specs.StepName.{name_of}
use Rattle.gitpool.specs.declared.step_fault.StepFault.{StepFault}
use Rattle.gitpool.specs.declared.step_fault.StepFault.TheVariants as fault
use Rattle.gitpool.specs.Asking.{IsAsked, Asks}
use Rattle.gitpool.specs.StepFaults.{as_result}
use Rattle.gitpool.proofs.StepLemmas.{called-alone}

-- ---- what it is told

-- without an answer there is no reply
no-reply : (query : List ℕ) (stop : Option ℕ) (r : Repository) (state : State) (a : Answer) → (a ≡ answer.Ok → ⊥)
    → (asked query stop r state).answer ≡ a → (asked query stop r state).reply ≡ []
no-reply query stop r state a other = by stop
  where
    told : (x : Result (List ℕ) _) → (answered x state).answer ≡ a → (answered x state).reply ≡ []
    told (Ok text) e = absurd (other (sym e))
    told (Err refusal) e = refl

    by : (o : Option ℕ) → (asked query o r state).answer ≡ a → (asked query o r state).reply ≡ []
    by None e = told _ e
    by (Some zero) e = refl
    by (Some (suc n)) e = told _ e

pub asked-ok : (a : Answer) (u : Unit {0}) → Ok u ≡ as_result a → a ≡ answer.Ok
asked-ok answer.Ok u e = refl
asked-ok (answer.Fault code) u e = cc e
asked-ok (answer.Memory items) u e = cc e

-- no answer of a step blames the device
never-device : (a : Answer) → Err fault.Device ≡ as_result a → ⊥
never-device answer.Ok e = cc e
never-device (answer.Fault code) e = cc e
never-device (answer.Memory items) e = cc e

-- an Ask with no bytes before its reply
module _ (digest : List ℕ → List ℕ) (tenant query : List ℕ) (s : Step) (a : Answer) (out out' : List ℕ) (before after : TenantStates)
    (named : name_of s ≡ tenant) (is : call_of s ≡ Ask query) (bad : has_bad_name s ≡ not (is_tenant_name tenant)) (none : out ≡ [])
    (own : (name : List ℕ) → IsIsolated digest name (held_of name before) ((s, response_in a out out') ∷ []) (held_of name after))
    (refused : IsRefused (s, response_in a out out')) where
  pub ask-bad : is_tenant_name tenant ≡ false → a ≡ answer.Fault 32
  ask-bad wrong = ap (λ (t : Response). t.answer) (refused (bad ∙ ap not wrong))

  pub ask-not-ok : is_tenant_name tenant ≡ false → a ≡ answer.Ok → ⊥
  ask-not-ok wrong ok = let no : answer.Ok ≡ answer.Fault 32 = sym ok ∙ ask-bad wrong in cc no

  ask-silent : (state : State) → Represents digest state (held_of tenant before) → (a ≡ answer.Ok → ⊥) → out' ≡ []
  ask-silent state leads other = by (is_tenant_name tenant) refl
    where
      by : (b : Bool) → is_tenant_name tenant ≡ b → out' ≡ []
      by true good =
          let t = called-alone digest tenant s (Ask query) a out out' before after state named is none own good leads in
          ap (λ (x : Response). x.reply) t.says
          ∙ no-reply query (stop_told a) (last_alone digest state) state a other (sym (ap (λ (x : Response). x.answer) t.says))
      by false wrong =
          ap (λ (l : List ℕ). added l out') (sym none)
          ∙ ap (λ (t : Response). t.reply) (refused (bad ∙ ap not wrong))

  is-asked : (a' : Answer) (reply : List ℕ) → a ≡ a' → out' ≡ reply → IsAsked digest tenant query before after a' reply
  is-asked a' reply answers replies = record {
    step = s;
    is = (named, is);
    own = λ name.
        subst (λ (t : Response). IsIsolated digest name (held_of name before) ((s, t) ∷ []) (held_of name after))
        (ap (λ (l : List ℕ). response_in a l out') none ∙ ap (λ (x : Answer). response_in x [] out') answers ∙ ap (λ (l : List ℕ). response_in a' [] l) replies)
        (own name);
  }

  -- it was refused, or memory ran out
  pub asks-refused : (state : State) (writer : Device) (e : StepFault) → Represents digest state (held_of tenant before) → Err e ≡ as_result a
      → Asks digest tenant query before after writer writer (Err e)
  asks-refused state writer e leads told = by e told
    where
      silent : (f : StepFault) → Err f ≡ as_result a → IsAsked digest tenant query before after a []
      silent f told = is-asked a [] refl (ask-silent state leads (λ ok.
          let no : ◌≡◌ {A = Result Unit StepFault} (Err f) (Ok tt) = told ∙ ap as_result ok in cc no))

      by : (f : StepFault) → Err f ≡ as_result a
          → Asks digest tenant query before after writer writer (Err f)
      by (fault.Refused code) told = record {
        answer = a;
        reply = [];
        asked = silent (fault.Refused code) told;
        told = sym told;
        written = (refl, refl);
      }
      by fault.Device told = absurd (never-device a told)
      by fault.Memory told = record {
        answer = a;
        reply = [];
        asked = silent fault.Memory told;
        told = sym told;
        written = (refl, refl);
      }

  -- a write failed
  pub asks-unwritten : (writer writer' : Device) → a ≡ answer.Ok → AppendsFront writer.known writer'.known out' → HasFault writer.faults writer'.faults
      → Asks digest tenant query before after writer writer' (Err fault.Device)
  asks-unwritten writer writer' ok front failed =
      record {
        answer = a;
        reply = out';
        asked = is-asked a out' refl refl;
        told = ok;
        written = (front, failed);
      }

  pub asks-well : (writer writer' : Device) (u : Unit {0}) → a ≡ answer.Ok → Appends writer.known writer'.known out' → IsWell writer writer'
      → Asks digest tenant query before after writer writer' (Ok u)
  asks-well writer writer' u ok written well =
      record {
        answer = a;
        reply = out';
        asked = is-asked a out' refl refl;
        told = ap as_result ok;
        written = (written, well);
      }
