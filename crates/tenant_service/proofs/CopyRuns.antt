-- A copy by places leaves what the steps of a copy leave: the run of these steps that it stands for.
use Rattle.std.proofs.Common.{◌≡◌, ℕ, Bool, true, false, cond, List, [], ◌∷◌, map, codes, Option, None, Some, refl, sym, ap, subst, ◌∙◌}
use Rattle.std.specs.Prelude.{IfSome, IsNone}
use Rattle.std.specs.Borrow.{Bor}
use Rattle.std.specs.List.{AllByRecursion}
use Rattle.std.specs.Str.{bytes_eq}
use Rattle.std.proofs.lemmas.Slice.Eq.{bytes_eq-Decides}
use Rattle.content_pool.specs.Pool.{Cells}
use Rattle.git_model.specs.Repository.{Repository}
use Rattle.git_names.specs.Naming.{AnswersNames}
use Rattle.file_maps.proofs.Apart.{both_true}
use Rattle.stream_lex.specs.Reading.{reading}
use Rattle.export_text.specs.Export.{export_text}
use Rattle.export_text.specs.Reached.{is_exportable}
use Rattle.import_session.specs.Sound.{IsSoundRepository}
use Rattle.import_session.specs.Stream.{End as StreamEnd, begun}
use Rattle.stream_commands.specs.Workspace.{opened}
use Rattle.session_laws.proofs.SoundLemmas.{empty_is_sound, new_is_sound}
use Rattle.tenant_stream.proofs.SoundLemmas.{carried_sound, finished_sound}
use Rattle.export_laws.specs.Copies.{CanBeCopied}
use Rattle.export_laws.specs.Ends.{IsImported, imported}
use Rattle.export_laws.specs.Whole.{nothing_there}
use Rattle.export_laws.proofs.EndImported.{export-imported}
use Rattle.tenant_refs.specs.TenantName.{is_tenant_name}
use Rattle.service_steps.specs.declared.answer.Answer.{Answer}
use Rattle.service_steps.specs.declared.answer.Answer.TheVariants as answer
use Rattle.service_steps.specs.declared.step.Step.{Step}
use Rattle.service_steps.specs.declared.step.Step.TheVariants as step
use Rattle.tenant_service.specs.Alone.{Call, Ask, State, Closed, Streaming, Dead, answered}
use Rattle.tenant_service.specs.ByPlaces.{Copies, Tells, copy_of}
use Rattle.tenant_service.specs.Copies.{import_steps, told_ok}
use Rattle.tenant_service.specs.Copying.{HasTaken, IsExport, IsImport}
use Rattle.tenant_service.specs.Headline.{IsIsolated, Response, Run, call_of, concerns, left_alone, part_of, steps_of, stop_told, told_alone, told_to}
use Rattle.tenant_service.specs.HeldObjects.{last_held}
use Rattle.tenant_service.specs.HeldSteps.{step_held}
use Rattle.tenant_service.specs.Soundness.{IsSoundTenantState}
use Rattle.tenant_service.specs.OneStep.{Takes, store}
use Rattle.tenant_service.specs.Tenants.{Accounts, AreLed, AreSound, Tenants, holdings}
use Rattle.tenant_service.specs.TenantState.{TenantState, TenantStates, Idle, Represents, empty_repository, held_of}
use Rattle.tenant_service.proofs.CopyLemmas.{call-apart}
use Rattle.tenant_service.proofs.ExportLemmas.{all-left, all-told, export-ends}
use Rattle.tenant_service.proofs.ExportRunLemmas.{MayTake, concerned, export-answer}
use Rattle.tenant_service.proofs.RunLemmas.{led-on, own-call, own-more, own-other}
use Rattle.tenant_service.proofs.SoundLemmas.{last-sound}

-- ---- what an import of the export leaves

module _ (digest : List ℕ → List ℕ) (names : AnswersNames digest) (repository : Repository)
    (sound : IsSoundRepository digest repository) (can : CanBeCopied repository) where
  as-imported : IsImported digest repository
  as-imported =
      export-imported digest names repository sound can.fits can.few_tags can.few_refs

  left-is : as-imported.left ≡ copy_of repository
  left-is =
      let c = as-imported.copy in
      let objects = c.order in
      let refs = c.refs in
      λ i. record { objects = objects i; refs = refs i }

  pub copy-sound : IsSoundRepository digest (copy_of repository)
  copy-sound =
      let read = reading false (export_text repository) in
      subst (IsSoundRepository digest)
      (ap (λ (e : StreamEnd). e.repository) as-imported.ends ∙ left-is)
      (finished_sound digest names (imported digest (export_text repository)).status
      (carried_sound digest names (begun (opened nothing_there)) read.items read.tail
      (new_is_sound digest nothing_there (empty_is_sound digest))))

-- ---- the steps

abbrev lent : List ℕ → Bor (List ℕ)
lent text = record { ref_ptr = (0, 0); now = text }

abbrev ask-step : List ℕ → Step
ask-step from = step.Ask (lent from) (lent (codes "export"))

abbrev import-run : List ℕ → List ℕ → Run
import-run to text =
    (step.Open (lent to), told_ok) ∷ (step.Feed (lent to) (lent text), told_ok)
    ∷ (step.End (lent to), told_ok) ∷ []

is-import : (to text : List ℕ) → IsImport to text (import-run to text) answer.Ok
is-import to text = ((refl, refl), ((refl, refl), (refl, refl), refl))

-- a run whose steps all concern a tenant, or none
part-all : (tenant : List ℕ) (run : Run)
    → AllByRecursion (λ taken. concerns tenant taken.0 ≡ true) run → part_of tenant run ≡ run
part-all tenant [] all = refl
part-all tenant (taken ∷ run) all =
    ap (λ (b : Bool). cond b (taken ∷ part_of tenant run) (part_of tenant run)) all.0
    ∙ ap (λ (rest : Run). taken ∷ rest) (part-all tenant run all.1)

-- ---- the tenant that gets the copy

at-nothing : (digest : List ℕ → List ℕ) (state : State)
    → Represents digest state (Idle empty_repository) → state ≡ Closed empty_repository
at-nothing digest (Closed r) h = ap Closed h
at-nothing digest (Streaming r bytes) h = absurd h
at-nothing digest (Dead code r) h = absurd h

module _ (digest : List ℕ → List ℕ) (text : List ℕ) (left : Repository) (to : List ℕ)
    (good : is_tenant_name to ≡ true) (before after : TenantState)
    (nothing : before ≡ Idle empty_repository) (held : after ≡ Idle left)
    (told : told_alone digest (Closed empty_repository) (import_steps text)
    ≡ told_ok ∷ told_ok ∷ told_ok ∷ [])
    (leaves : left_alone digest (Closed empty_repository) (import_steps text) ≡ Closed left) where
  all-its : AllByRecursion (λ taken. concerns to taken.0 ≡ true) (import-run to text)
  all-its = (
    concerned to (step.Open (lent to)) refl good,
    (
      concerned to (step.Feed (lent to) (lent text)) refl good,
      (concerned to (step.End (lent to)) refl good, tt),
    ),
  )

  abbrev own : Run → List (Call × Option ℕ)
  own = map (λ (x : Step × Response). (call_of x.0, stop_told x.1.answer))

  steps-are : steps_of to (import-run to text) ≡ import_steps text
  steps-are = ap own (part-all to (import-run to text) all-its)

  told-are : told_to to (import-run to text) ≡ told_ok ∷ told_ok ∷ told_ok ∷ []
  told-are = ap (map (λ (x : Step × Response). x.1)) (part-all to (import-run to text) all-its)

  its-import : IsIsolated digest to before (import-run to text) after
  its-import = record {
    told = λ state leads.
        let is = at-nothing digest state (subst (Represents digest state) nothing leads) in
        told-are ∙ sym told
        ∙ (λ i. told_alone digest (sym is i) (sym steps-are i));
    left = λ state leads.
        let is = at-nothing digest state (subst (Represents digest state) nothing leads) in
        subst (Represents digest (left_alone digest state (steps_of to (import-run to text)))) (sym held)
        (rw ((λ i. left_alone digest (is i) (steps-are i)) ∙ leaves) refl);
  }

-- ---- the other tenants

others-import : (digest : List ℕ → List ℕ) (text tenant to : List ℕ) (before after : TenantState)
    → bytes_eq tenant to ≡ false → after ≡ before
    → IsIsolated digest tenant before (import-run to text) after
others-import digest text tenant to before after apart same =
    own-more digest tenant before before after ((step.Open (lent to), told_ok) ∷ [])
    ((step.Feed (lent to) (lent text), told_ok) ∷ (step.End (lent to), told_ok) ∷ [])
    (own-other digest tenant (step.Open (lent to)) told_ok before before
    (call-apart tenant to (step.Open (lent to)) refl apart (λ e. cc e)) refl)
    (own-more digest tenant before before after ((step.Feed (lent to) (lent text), told_ok) ∷ [])
    ((step.End (lent to), told_ok) ∷ [])
    (own-other digest tenant (step.Feed (lent to) (lent text)) told_ok before before
    (call-apart tenant to (step.Feed (lent to) (lent text)) refl apart (λ e. cc e)) refl)
    (own-other digest tenant (step.End (lent to)) told_ok before after
    (call-apart tenant to (step.End (lent to)) refl apart (λ e. cc e)) same))

-- ---- the tenant that is asked

takes-export : (digest : List ℕ → List ℕ) (held : TenantState)
    → is_exportable (last_held held) ≡ true
    → Takes (step_held digest (Ask (codes "export")) None held) answer.Ok []
    (export_text (last_held held)) held
takes-export digest held few =
    rw (export-answer (last_held held) few)
    (record { answered = refl; printed = refl; leaves = refl })

module _ (digest : List ℕ → List ℕ) (from : List ℕ) (before : TenantStates)
    (few : is_exportable (last_held (held_of from before)) ≡ true) where
  abbrev text : List ℕ
  text = export_text (last_held (held_of from before))

  is-asked : (tenant : List ℕ) → IsIsolated digest tenant (held_of tenant before)
      ((ask-step from, record { answer = answer.Ok; reply = text }) ∷ []) (held_of tenant before)
  unfolding concerns
  is-asked tenant = by (concerns tenant (ask-step from)) refl
    where
      by : (b : Bool) → concerns tenant (ask-step from) ≡ b
          → IsIsolated digest tenant (held_of tenant before)
          ((ask-step from, record { answer = answer.Ok; reply = text }) ∷ []) (held_of tenant before)
      by true here =
          let same : from ≡ tenant =
          (bytes_eq-Decides from tenant).0 (both_true (is_tenant_name from) (bytes_eq from tenant) here).1 in
          own-call digest tenant (ask-step from) answer.Ok [] text (held_of tenant before)
          (held_of tenant before) here
          (rw (← same) (takes-export digest (held_of from before) few))
      by false apart =
          own-other digest tenant (ask-step from) (record { answer = answer.Ok; reply = text })
          (held_of tenant before) (held_of tenant before) apart refl

-- ---- the run

-- A copy that was made stands for the steps, of which none ran out of memory.
pub copied-run : (digest : List ℕ → List ℕ) → AnswersNames digest → (before after : TenantStates)
    (from to : List ℕ) → AreSound digest before → is_tenant_name to ≡ true
    → held_of to before ≡ Idle empty_repository
    → CanBeCopied (last_held (held_of from before))
    → held_of to after ≡ Idle (copy_of (last_held (held_of from before)))
    → ((tenant : List ℕ) → bytes_eq tenant to ≡ false
    → held_of tenant after ≡ held_of tenant before)
    → HasTaken digest before after (λ run. IsExport from to run answer.Ok)
copied-run digest names before after from to sound good nothing can held others = record {
  run = (ask-step from, record { answer = answer.Ok; reply = text digest from before can.few_refs }) ∷ import-run to (text digest from before can.few_refs);
  is = ((refl, refl), is-import to (text digest from before can.few_refs));
  own = λ tenant.
      own-more digest tenant (held_of tenant before) (held_of tenant before) (held_of tenant after)
      ((ask-step from, record { answer = answer.Ok; reply = text digest from before can.few_refs }) ∷ []) (import-run to (text digest from before can.few_refs))
      (is-asked digest from before can.few_refs tenant) (import-of tenant (bytes_eq tenant to) refl);
}
  where
    good-one : IsSoundRepository digest (last_held (held_of from before))
    good-one = last-sound digest (held_of from before) (sound from)

    import-of : (tenant : List ℕ) (b : Bool) → bytes_eq tenant to ≡ b
        → IsIsolated digest tenant (held_of tenant before)
        (import-run to (text digest from before can.few_refs)) (held_of tenant after)
    import-of tenant false apart =
        others-import digest (text digest from before can.few_refs) tenant to (held_of tenant before)
        (held_of tenant after) apart (others tenant apart)
    import-of tenant true here =
        let i = as-imported digest names (last_held (held_of from before)) good-one can in
        let well = export-ends digest (last_held (held_of from before)) i in
        rw ((bytes_eq-Decides tenant to).0 here)
        (its-import digest (text digest from before can.few_refs)
        (copy_of (last_held (held_of from before))) to good (held_of to before) (held_of to after)
        nothing held (all-told digest (text digest from before can.few_refs) i.left well)
        (all-left digest (text digest from before can.few_refs) i.left well
        ∙ ap Closed (left-is digest names (last_held (held_of from before)) good-one can)))

-- If memory ran out, it ran out at the query.
pub no-memory : (digest : List ℕ → List ℕ) (before : TenantStates) (from to : List ℕ)
    → HasTaken digest before before (λ run. IsExport from to run (answer.Memory 0))
no-memory digest before from to = record {
  run = (ask-step from, record { answer = answer.Memory 0; reply = [] }) ∷ [];
  is = ((refl, refl), (refl, refl));
  own = λ tenant. by tenant (concerns tenant (ask-step from)) refl;
}
  where
    by : (tenant : List ℕ) (b : Bool) → concerns tenant (ask-step from) ≡ b
        → IsIsolated digest tenant (held_of tenant before)
        ((ask-step from, record { answer = answer.Memory 0; reply = [] }) ∷ []) (held_of tenant before)
    by tenant true here =
        own-call digest tenant (ask-step from) (answer.Memory 0) [] [] (held_of tenant before)
        (held_of tenant before) here (record { answered = refl; printed = refl; leaves = refl })
    by tenant false apart =
        own-other digest tenant (ask-step from) (record { answer = answer.Memory 0; reply = [] })
        (held_of tenant before) (held_of tenant before) apart refl

-- ---- what a copy by places tells

module _ (digest : List ℕ → List ℕ) (names : AnswersNames digest) (p q : Cells) (es new : Tenants)
    (from to : List ℕ) (sound : AreSound digest (holdings p es)) (may : MayTake from to (held_of to (holdings p es))) where
  abbrev Told : Option Answer → Type 0
  Told result = Tells digest from to (store p es) result (store q new)

  pub run-told : (result : Option Answer) → Told result
      → IfSome result (λ answer. HasTaken digest (holdings p es) (holdings q new) (λ run. IsExport from to run answer))
  run-told (Some answer.Ok) h =
      copied-run digest names (holdings p es) (holdings q new) from to sound may.good_to may.nothing
      h.can h.held h.others
  run-told (Some (answer.Memory items)) h =
      rw h.0
      (rw h.1.same
      (no-memory digest (holdings p es) from to))
  run-told (Some (answer.Fault code)) h = absurd h
  run-told None h = tt

  pub others-told : (result : Option Answer) → Told result
      → IfSome result (λ answer. (tenant : List ℕ) → bytes_eq tenant to ≡ false
      → held_of tenant (holdings q new) ≡ held_of tenant (holdings p es))
  others-told (Some answer.Ok) h = h.others
  others-told (Some (answer.Memory items)) h = λ tenant apart. ap (held_of tenant) h.1.same
  others-told (Some (answer.Fault code)) h = absurd h
  others-told None h = tt

  pub accounts-told : (result : Option Answer) → Told result → Accounts digest q new
  accounts-told (Some answer.Ok) h = h.accounts
  accounts-told (Some (answer.Memory items)) h = h.1.accounts
  accounts-told (Some (answer.Fault code)) h = absurd h
  accounts-told None h = h.accounts

  pub same-told : (result : Option Answer) → Told result → IsNone result
      → holdings q new ≡ holdings p es
  same-told (Some told) h none = cc none
  same-told None h none = h.same

  pub led-told : (result : Option Answer) → Told result → AreLed digest (holdings p es)
      → AreLed digest (holdings q new)
  led-told (Some answer.Ok) h led =
      let taken = run-told (Some answer.Ok) h in
      led-on digest (holdings p es) (holdings q new) taken.run taken.own led
  led-told (Some (answer.Memory items)) h led = subst (AreLed digest) (sym h.1.same) led
  led-told (Some (answer.Fault code)) h led = absurd h
  led-told None h led = subst (AreLed digest) (sym h.same) led

  sound-copied : Copies digest from to (store p es) (store q new) → AreSound digest (holdings q new)
  sound-copied h tenant = by (bytes_eq tenant to) refl
    where
      by : (b : Bool) → bytes_eq tenant to ≡ b
          → IsSoundTenantState digest (held_of tenant (holdings q new))
      by true here =
          rw ((bytes_eq-Decides tenant to).0 here)
          (subst (IsSoundTenantState digest) (sym h.held)
          (copy-sound digest names (last_held (held_of from (holdings p es)))
          (last-sound digest (held_of from (holdings p es)) (sound from)) h.can))
      by false apart =
          subst (IsSoundTenantState digest) (sym (h.others tenant apart)) (sound tenant)

  pub sound-told : (result : Option Answer) → Told result → AreSound digest (holdings q new)
  sound-told (Some answer.Ok) h = sound-copied h
  sound-told (Some (answer.Memory items)) h = subst (AreSound digest) (sym h.1.same) sound
  sound-told (Some (answer.Fault code)) h = absurd h
  sound-told None h = subst (AreSound digest) (sym h.same) sound
