-- What a step leaves of what is held of each tenant.
use Rattle.std.proofs.Common.{◌≡◌, ℕ, zero, suc, Bool, true, false, ◌&&◌, List, Option, None, Some, Result, Ok, Err, refl, sym, ap, subst, ◌∙◌, true≢false}
use Rattle.std.specs.Prelude.{not}
use Rattle.std.specs.Str.{bytes_eq}
use Rattle.std.proofs.lemmas.Slice.Eq.{bytes_eq-Decides}
use Rattle.git_model.specs.Repository.{Repository}
use Rattle.content_pool.specs.Pool.{Cells}
use Rattle.tenant_refs.specs.TenantName.{is_tenant_name}
use Rattle.stream_lex.specs.Items.{Tail}
use Rattle.stream_lex.specs.Running.{more_of}
use Rattle.import_session.specs.Stream.{Running, Runs, Refused}
use Rattle.answers.specs.declared.fault.Fault.{Fault}
use Rattle.answers.specs.Answers.{answer_to}
use Rattle.service_steps.specs.declared.answer.Answer.{Answer}
use Rattle.service_steps.specs.declared.step.Step.{Step}
use Rattle.service_steps.specs.declared.step.Step.TheVariants as step
use Rattle.tenant_stream.specs.Carrying.{outcome_after}
use Rattle.tenant_service.specs.Alone.{Call, Open, Feed, End, Ask, Restart, Stopped, answered, asked, stop_after}
use Rattle.tenant_service.specs.Headline.{concerns}
use Rattle.tenant_service.specs.TenantState.{TenantState, Idle, Busy, held_of}
use Rattle.tenant_service.specs.HeldObjects.{last_held}
use Rattle.tenant_service.specs.HeldSteps.{fed_held, gone_on, held_until, step_held}
use Rattle.tenant_service.specs.Kept.{KeepsOpened, is_ask, may_change}
use Rattle.tenant_service.specs.Tenants.{Tenants, holdings}
use Rattle.tenant_service.specs.OneStep.{Takes, store, Calls, Steps}
use Rattle.tenant_service.proofs.RunLemmas.{apart-back, held-restarted}

-- ---- one call

-- an Ask leaves what is held
asked-leaves : (query : List ℕ) (stop : Option ℕ) (r : Repository) (held : TenantState)
    → (asked query stop r held).state ≡ held
asked-leaves query stop r held = by stop
  where
    told : (x : Result (List ℕ) Fault) → (answered x held).state ≡ held
    told (Ok text) = refl
    told (Err refusal) = refl

    by : (o : Option ℕ) → (asked query o r held).state ≡ held
    by None = told (answer_to r query)
    by (Some zero) = refl
    by (Some (suc n)) = told (answer_to r query)

keeps-same : (held : TenantState) → KeepsOpened held held
keeps-same (Idle repository) = tt
keeps-same (Busy opened status) = refl

fed-keeps : (digest : List ℕ → List ℕ) (piece : List ℕ) (stop : Option ℕ) (opened : Repository)
    (now : Running) (tail : Tail) → KeepsOpened (Busy opened (Runs now tail))
    (fed_held digest piece stop opened now tail).state
fed-keeps digest piece None opened now tail = refl
fed-keeps digest piece (Some count) opened now tail =
    by (stop_after digest now (more_of tail piece).items count)
  where
    by : (stopped : Option Stopped) → KeepsOpened (Busy opened (Runs now tail))
        (held_until opened count stopped (gone_on opened (outcome_after digest now tail piece))).state
    by None = refl
    by (Some stopped) = refl

call-keeps : (digest : List ℕ → List ℕ) (call : Call) (stop : Option ℕ) (held : TenantState)
    → KeepsOpened held (step_held digest call stop held).state
call-keeps digest Open None (Idle repository) = refl
call-keeps digest Open (Some zero) (Idle repository) = tt
call-keeps digest Open (Some (suc n)) (Idle repository) = refl
call-keeps digest Open stop (Busy opened status) = refl
call-keeps digest (Feed piece) stop (Idle repository) = tt
call-keeps digest (Feed piece) stop (Busy opened (Runs now tail)) =
    fed-keeps digest piece stop opened now tail
call-keeps digest (Feed piece) stop (Busy opened (Refused code repository)) = refl
call-keeps digest End stop (Idle repository) = tt
call-keeps digest End stop (Busy opened status) = tt
call-keeps digest (Ask query) stop held =
    subst (KeepsOpened held) (sym (asked-leaves query stop (last_held held) held)) (keeps-same held)
call-keeps digest Restart stop held = tt

takes-keeps : (digest : List ℕ → List ℕ) (call : Call) (stop : Option ℕ) (before : TenantState)
    (answer : Answer) (out out' : List ℕ) (after : TenantState)
    → Takes (step_held digest call stop before) answer out out' after → KeepsOpened before after
takes-keeps digest call stop before answer out out' after takes =
    subst (KeepsOpened before) takes.leaves (call-keeps digest call stop before)

takes-asked : (digest : List ℕ → List ℕ) (call : Call) (query : List ℕ) (stop : Option ℕ)
    (before : TenantState) (answer : Answer) (out out' : List ℕ) (after : TenantState)
    → call ≡ Ask query → Takes (step_held digest call stop before) answer out out' after
    → after ≡ before
takes-asked digest call query stop before answer out out' after is takes =
    sym takes.leaves ∙ ap (λ (c : Call). (step_held digest c stop before).state) is
    ∙ asked-leaves query stop (last_held before) before

-- ---- a step

module _ (digest : List ℕ → List ℕ) (p q : Cells) (es new : Tenants) (answer : Answer)
    (out out' : List ℕ) (tenant : List ℕ) where
  abbrev before : TenantState
  before = held_of tenant (holdings p es)

  abbrev after : TenantState
  after = held_of tenant (holdings q new)

  called-keeps : (b : Bool) (name : List ℕ) (call : Call)
      → Calls digest b name call (store p es) answer out out' (store q new)
      → KeepsOpened before after
  called-keeps false name call h =
      subst (KeepsOpened before) (sym (ap (held_of tenant) h.same)) (keeps-same before)
  called-keeps true name call h = by (bytes_eq tenant name) refl
    where
      by : (x : Bool) → bytes_eq tenant name ≡ x → KeepsOpened before after
      by true here =
          subst (λ (n : List ℕ). KeepsOpened (held_of n (holdings p es)) (held_of n (holdings q new)))
          (sym ((bytes_eq-Decides tenant name).0 here))
          (takes-keeps digest call _ _ answer out out' _ h.own)
      by false apart =
          subst (KeepsOpened before) (sym (h.others tenant apart)) (keeps-same before)

  -- what a stream was opened on stays until it ends
  pub step-keeps : (s : Step) → Steps digest s (store p es) answer out out' (store q new)
      → KeepsOpened before after
  step-keeps (step.Open given) h = called-keeps _ _ _ h
  step-keeps (step.Feed given bytes) h = called-keeps _ _ _ h
  step-keeps (step.End given) h = called-keeps _ _ _ h
  step-keeps (step.Ask given query) h = called-keeps _ _ _ h
  step-keeps step.Restart h =
      subst (KeepsOpened before)
      (sym (ap (held_of tenant) h.closed ∙ held-restarted tenant (holdings p es))) tt

  called-stays : (b : Bool) (name : List ℕ) (call : Call)
      → (b ≡ true → bytes_eq name tenant ≡ true → (query : List ℕ) × (call ≡ Ask query))
      → Calls digest b name call (store p es) answer out out' (store q new) → after ≡ before
  called-stays false name call asks h = ap (held_of tenant) h.same
  called-stays true name call asks h = by (bytes_eq name tenant) refl
    where
      by : (x : Bool) → bytes_eq name tenant ≡ x → after ≡ before
      by true here =
          let query = asks refl here in
          subst (λ (n : List ℕ). held_of n (holdings q new) ≡ held_of n (holdings p es))
          ((bytes_eq-Decides name tenant).0 here)
          (takes-asked digest call query.0 _ _ answer out out' _ query.1 h.own)
      by false apart = h.others tenant (apart-back name tenant apart)

  -- a step that is the tenant's own, and no Ask
  own-changes : (b x : Bool) (A : Type 0) → ((b && x) && true) ≡ false → b ≡ true → x ≡ true → A
  own-changes b x A stays good here =
      absurd (true≢false (sym (λ i. (good i && here i) && true) ∙ stays))

  -- a step changes nothing of a tenant that it does not concern, or only asks
  pub step-stays : (s : Step) → may_change tenant s ≡ false
      → Steps digest s (store p es) answer out out' (store q new) → after ≡ before
  unfolding concerns
  step-stays (step.Open given) stays h =
      called-stays _ _ _ (own-changes (is_tenant_name given.now) (bytes_eq given.now tenant) _ stays) h
  step-stays (step.Feed given bytes) stays h =
      called-stays _ _ _ (own-changes (is_tenant_name given.now) (bytes_eq given.now tenant) _ stays) h
  step-stays (step.End given) stays h =
      called-stays _ _ _ (own-changes (is_tenant_name given.now) (bytes_eq given.now tenant) _ stays) h
  step-stays (step.Ask given query) stays h = called-stays _ _ _ (λ good here. (query.now, refl)) h
  step-stays step.Restart stays h = absurd (true≢false stays)

-- which steps may not change a tenant
pub stays-apart : (tenant : List ℕ) (s : Step) → concerns tenant s ≡ false
    → may_change tenant s ≡ false
stays-apart tenant s apart =
    ap (λ (b : Bool). b && not (is_ask s)) apart

pub ask-stays : (tenant : List ℕ) (s : Step) → is_ask s ≡ true → may_change tenant s ≡ false
ask-stays tenant s asks = ap (λ (b : Bool). concerns tenant s && not b) asks ∙ never (concerns tenant s)
  where
    never : (b : Bool) → (b && false) ≡ false
    never true = refl
    never false = refl
