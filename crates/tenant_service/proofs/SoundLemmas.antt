-- What is held of a tenant stays sound.
use Rattle.std.proofs.Common.{◌≡◌, ℕ, zero, suc, Bool, true, false, cond, List, [], length, take, Option, None, Some, Result, Ok, Err, refl, ap, ◌∙◌}
use Rattle.std.specs.Prelude.{nat_le}
use Rattle.std.specs.Map.{lookup}
use Rattle.std.specs.Str.{bytes_eq}
use Rattle.std.proofs.lemmas.Slice.Eq.{bytes_eq-Decides}
use Rattle.git_model.specs.Repository.{Repository}
use Rattle.git_names.specs.Naming.{AnswersNames}
use Rattle.git_model.specs.RefStore.{RefStore}
use Rattle.content_pool.specs.Pool.{Cells}
use Rattle.tenant_tables.specs.View.{View}
use Rattle.stream_lex.specs.Items.{Item, Tail, Rest}
use Rattle.stream_lex.specs.Running.{more_of}
use Rattle.import_session.specs.Stream.{Running, Outcome, StreamStatus, Runs, Refused, carried, last_checkpoint}
use Rattle.import_session.specs.Sound.{IsSound, IsSoundRepository}
use Rattle.session_laws.proofs.SoundLemmas.{empty_is_sound, new_is_sound, checkpoint_is_sound}
use Rattle.answers.specs.declared.fault.Fault.{Fault as Refusal}
use Rattle.answers.specs.Answers.{answer_to}
use Rattle.service_steps.specs.declared.answer.Answer.{Answer}
use Rattle.service_steps.specs.declared.step.Step.{Step}
use Rattle.service_steps.specs.declared.step.Step.TheVariants as step
use Rattle.tenant_stream.specs.Carrying.{StreamView, outcome_after, stream_in}
use Rattle.tenant_stream.specs.Soundness.{IsSoundStreamStatus}
use Rattle.tenant_stream.proofs.SoundLemmas.{carried_sound, finished_sound}
use Rattle.tenant_service.specs.declared.opened.Opened.{Opened}
use Rattle.tenant_service.specs.declared.tenant.OpenStream.{OpenStream}
use Rattle.tenant_service.specs.declared.tenant.OpenStream.TheVariants as phase
use Rattle.tenant_service.specs.declared.tenant.Tenant.{Tenant}
use Rattle.tenant_service.specs.Alone.{Call, Open, Feed, End, Ask, Restart, StepResult, Stopped, answered, asked, ended, ended_well, stop_at, stop_after, unless_out_of_memory}
use Rattle.tenant_service.specs.TenantState.{TenantState, Idle, Busy, held_of}
use Rattle.tenant_service.specs.Soundness.{IsSoundTenantState}
use Rattle.tenant_service.specs.HeldSteps.{end_held, fed_held, feed_held, gone_on, held_until, open_held, step_held}
use Rattle.tenant_service.specs.HeldObjects.{last_held}
use Rattle.tenant_service.specs.Tenants.{Tenants, AreSound, held_in, holding_in, holdings}
use Rattle.tenant_service.specs.OneStep.{Takes, Calls, Steps, store}
use Rattle.tenant_service.proofs.AccountLemmas.{held-found}
use Rattle.tenant_service.proofs.RunLemmas.{held-restarted}

-- ---- one call

-- a stop leaves a sound repository
abbrev IsSoundStop : (List ℕ → List ℕ) → Option Stopped → Type 0
IsSoundStop digest None = Unit {0}
IsSoundStop digest (Some stopped) = IsSoundRepository digest stopped.repository

stop_at-sound : (digest : List ℕ → List ℕ) (replies : List ℕ) (status : StreamStatus)
    → IsSoundStreamStatus digest status → IsSoundStop digest (stop_at replies status)
stop_at-sound digest replies (Refused code repository) sound = tt
stop_at-sound digest replies (Runs now tail) sound = by now.is_done
  where
    by : (b : Bool) → IsSoundStop digest (cond b None
        (Some (record { replies = replies; repository = last_checkpoint now.workspace })))
    by true = tt
    by false = checkpoint_is_sound digest now.workspace sound

until-sound : (digest : List ℕ → List ℕ) (opened : Repository) (count : ℕ) (stop : Option Stopped)
    (well : StepResult TenantState) → IsSoundRepository digest opened
    → IsSoundStop digest stop → IsSoundTenantState digest well.state
    → IsSoundTenantState digest (held_until opened count stop well).state
until-sound digest opened count None well first stopped sound = sound
until-sound digest opened count (Some stop) well first stopped sound = (first, stopped)

open-sound : (digest : List ℕ → List ℕ) (stop : Option ℕ) (held : TenantState)
    → IsSoundTenantState digest held → IsSoundTenantState digest (open_held stop held).state
open-sound digest None (Idle repository) sound = (sound, new_is_sound digest repository sound)
open-sound digest (Some zero) (Idle repository) sound = sound
open-sound digest (Some (suc count)) (Idle repository) sound =
    (sound, new_is_sound digest repository sound)
open-sound digest stop (Busy opened status) sound = sound

unless-sound : (digest : List ℕ → List ℕ) (stop : Option ℕ) (left : Repository)
    (well : StepResult Repository) → IsSoundRepository digest left → IsSoundRepository digest well.state
    → IsSoundRepository digest (unless_out_of_memory stop left well).state
unless-sound digest None left well stopped sound = sound
unless-sound digest (Some zero) left well stopped sound = stopped
unless-sound digest (Some (suc count)) left well stopped sound = sound

pub last-sound : (digest : List ℕ → List ℕ) (held : TenantState) → IsSoundTenantState digest held
    → IsSoundRepository digest (last_held held)
last-sound digest (Idle repository) sound = sound
last-sound digest (Busy opened (Runs now tail)) sound =
    checkpoint_is_sound digest now.workspace sound.1
last-sound digest (Busy opened (Refused code repository)) sound = sound.1

answered-sound : (digest : List ℕ → List ℕ) (result : Result (List ℕ) Refusal) (held : TenantState)
    → IsSoundTenantState digest held → IsSoundTenantState digest (answered result held).state
answered-sound digest (Ok text) held sound = sound
answered-sound digest (Err refusal) held sound = sound

asked-sound : (digest : List ℕ → List ℕ) (query : List ℕ) (stop : Option ℕ)
    (repository : Repository) (held : TenantState) → IsSoundTenantState digest held
    → IsSoundTenantState digest (asked query stop repository held).state
asked-sound digest query None repository held sound =
    answered-sound digest (answer_to repository query) held sound
asked-sound digest query (Some zero) repository held sound = sound
asked-sound digest query (Some (suc count)) repository held sound =
    answered-sound digest (answer_to repository query) held sound

module _ (digest : List ℕ → List ℕ) (names : AnswersNames digest) where
  stop_after-sound : (now : Running) (items : List Item) (count : ℕ)
      → IsSound digest now.workspace → IsSoundStop digest (stop_after digest now items count)
  unfolding stop_after
  stop_after-sound now items count sound = by (nat_le count (length items))
    where
      first : Outcome
      first = carried digest now (take count items) (Rest false [])

      by : (b : Bool) → IsSoundStop digest (cond b (stop_at first.replies first.status) None)
      by true = stop_at-sound digest first.replies first.status
          (carried_sound digest names now (take count items) (Rest false []) sound)
      by false = tt

  fed-sound : (piece : List ℕ) (stop : Option ℕ) (opened : Repository) (now : Running) (tail : Tail)
      → IsSoundRepository digest opened → IsSound digest now.workspace
      → IsSoundTenantState digest (fed_held digest piece stop opened now tail).state
  fed-sound piece stop opened now tail first sound = by stop
    where
      well : IsSoundStreamStatus digest (outcome_after digest now tail piece).status
      well = carried_sound digest names now (more_of tail piece).items (more_of tail piece).tail
          sound

      by : (stop : Option ℕ)
          → IsSoundTenantState digest (fed_held digest piece stop opened now tail).state
      by None = (first, well)
      by (Some count) =
          until-sound digest opened count (stop_after digest now (more_of tail piece).items count)
          (gone_on opened (outcome_after digest now tail piece)) first
          (stop_after-sound now (more_of tail piece).items count sound) (first, well)

  feed-sound : (piece : List ℕ) (stop : Option ℕ) (held : TenantState) → IsSoundTenantState digest held
      → IsSoundTenantState digest (feed_held digest piece stop held).state
  feed-sound piece stop (Idle repository) sound = sound
  feed-sound piece stop (Busy opened (Runs now tail)) sound =
      fed-sound piece stop opened now tail sound.0 sound.1
  feed-sound piece stop (Busy opened (Refused code repository)) sound = sound

  ended-sound : (stop : Option ℕ) (status : StreamStatus) → IsSoundStreamStatus digest status
      → IsSoundRepository digest (ended digest stop status).state
  ended-sound stop (Refused code repository) sound = sound
  ended-sound stop (Runs now tail) sound = by now.is_done
    where
      well : IsSoundRepository digest (ended_well digest (Runs now tail)).state
      well = finished_sound digest names (Runs now tail) sound

      by : (b : Bool) → IsSoundRepository digest (cond b (ended_well digest (Runs now tail))
          (unless_out_of_memory stop (last_checkpoint now.workspace)
          (ended_well digest (Runs now tail)))).state
      by true = well
      by false = unless-sound digest stop (last_checkpoint now.workspace)
          (ended_well digest (Runs now tail)) (checkpoint_is_sound digest now.workspace sound) well

  end-sound : (stop : Option ℕ) (held : TenantState) → IsSoundTenantState digest held
      → IsSoundTenantState digest (end_held digest stop held).state
  end-sound stop (Idle repository) sound = sound
  end-sound stop (Busy opened status) sound = ended-sound stop status sound.1

  -- each call leaves it sound
  call-sound : (call : Call) (stop : Option ℕ) (held : TenantState) → IsSoundTenantState digest held
      → IsSoundTenantState digest (step_held digest call stop held).state
  call-sound Open stop held sound = open-sound digest stop held sound
  call-sound (Feed piece) stop held sound = feed-sound piece stop held sound
  call-sound End stop held sound = end-sound stop held sound
  call-sound (Ask query) stop held sound =
      asked-sound digest query stop (last_held held) held sound
  call-sound Restart stop held sound = last-sound digest held sound

  takes-sound : (call : Call) (stop : Option ℕ) (before : TenantState) (answer : Answer)
      (out out' : List ℕ) (after : TenantState)
      → Takes (step_held digest call stop before) answer out out' after
      → IsSoundTenantState digest before → IsSoundTenantState digest after
  takes-sound call stop before answer out out' after takes sound =
      rw (← takes.leaves)
      (call-sound call stop before sound)

  -- ---- all tenants

  calls-sound : (b : Bool) (name : List ℕ) (call : Call) (p : Cells) (es : Tenants)
      (answer : Answer) (out out' : List ℕ) (q : Cells) (new : Tenants)
      → Calls digest b name call (store p es) answer out out' (store q new)
      → AreSound digest (holdings p es) → AreSound digest (holdings q new)
  calls-sound false name call p es answer out out' q new h sound =
      rw h.same sound
  calls-sound true name call p es answer out out' q new h sound = λ tenant.
      by tenant (bytes_eq tenant name) refl
    where
      by : (tenant : List ℕ) (b : Bool) → bytes_eq tenant name ≡ b
          → IsSoundTenantState digest (held_of tenant (holdings q new))
      by tenant true here =
          rw ((bytes_eq-Decides tenant name).0 here)
          (takes-sound call _ _ answer out out' _ h.own (sound name))
      by tenant false apart =
          rw (h.others tenant apart)
          (sound tenant)

  -- each step leaves all sound
  pub sound-on : (s : Step) (p : Cells) (es : Tenants) (answer : Answer) (out out' : List ℕ)
      (q : Cells) (new : Tenants) → Steps digest s (store p es) answer out out' (store q new)
      → AreSound digest (holdings p es) → AreSound digest (holdings q new)
  sound-on (step.Open given) p es answer out out' q new h sound =
      calls-sound _ _ _ p es answer out out' q new h sound
  sound-on (step.Feed given bytes) p es answer out out' q new h sound =
      calls-sound _ _ _ p es answer out out' q new h sound
  sound-on (step.End given) p es answer out out' q new h sound =
      calls-sound _ _ _ p es answer out out' q new h sound
  sound-on (step.Ask given query) p es answer out out' q new h sound =
      calls-sound _ _ _ p es answer out out' q new h sound
  sound-on step.Restart p es answer out out' q new h sound = λ tenant.
      rw (ap (held_of tenant) h.closed ∙ held-restarted tenant (holdings p es))
      (last-sound digest (held_of tenant (holdings p es)) (sound tenant))

-- a stream that runs
pub sound-running : (digest : List ℕ → List ℕ) (ph : OpenStream) (o : Opened) (s : StreamView)
    (p : Cells) (t : View) (r : RefStore) → ph ≡ phase.Running o s
    → IsSoundTenantState digest (held_in ph p t r)
    → IsSound digest (stream_in s p t r).workspace
sound-running digest ph o s p t r is sound =
    (rw is at sound).1

-- one that is there
pub sound-found : (digest : List ℕ → List ℕ) (p : Cells) (name : List ℕ) (es : Tenants)
    (t : Tenant) → AreSound digest (holdings p es) → lookup (bytes_eq name) es ≡ Some t
    → IsSoundTenantState digest (holding_in p t)
sound-found digest p name es t sound got =
    rw (← (held-found p name es t got))
    (sound name)

-- nobody
pub sound-nil : (digest : List ℕ → List ℕ) → AreSound digest []
sound-nil digest tenant = empty_is_sound digest
