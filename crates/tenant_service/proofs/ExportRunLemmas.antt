-- Copies of what may be copied, by their steps in the runs of the two tenants.
use Rattle.std.proofs.Common.{◌≡◌, ℕ, zero, suc, Bool, arith, true, false, ◌&&◌, ◌==◌, cond, List, [], ◌∷◌, length, map, codes, Option, None, Some, Result, Ok, Err, refl, sym, ap, subst, ◌∙◌}
use Rattle.std.specs.FinMap.{entries, find, get-entries, get-empty, empty, same_map}
use Rattle.std.specs.Str.{bytes_eq}
use Rattle.std.proofs.lemmas.Bool.Decides.{nat_tests}
use Rattle.std.proofs.lemmas.Cmp.{nat_list_cmp_total}
use Rattle.std.proofs.lemmas.Slice.Eq.{bytes_eq-Decides}
use Rattle.git_model.specs.Repository.{Repository}
use Rattle.git_model.specs.RefStore.{RefMap, first_head, listed_refs}
use Rattle.pool_file_checks.proofs.Keys.{key_cmp, key_exact}
use Rattle.file_maps.proofs.Apart.{both_true}
use Rattle.tenant_refs.specs.TenantName.{is_tenant_name}
use Rattle.answers.specs.declared.fault.Fault.{Fault}
use Rattle.answers.specs.declared.query.Query.TheVariants as what_is_asked
use Rattle.answers.specs.declared.query.RepositoryQuery.TheVariants.{Export}
use Rattle.answers.specs.Answers.{answer_to}
use Rattle.answers.specs.Queries.{query_of, word_of}
use Rattle.export_text.specs.Export.{export_text}
use Rattle.export_text.specs.Reached.{is_exportable}
use Rattle.service_steps.specs.declared.answer.Answer.{Answer}
use Rattle.service_steps.specs.declared.answer.Answer.TheVariants as answer
use Rattle.service_steps.specs.declared.fault.ServiceFault.TheVariants as fault
use Rattle.service_steps.specs.declared.step.Step.{Step}
use Rattle.service_steps.specs.declared.step.Step.TheVariants as step
use Rattle.tenant_service.specs.Alone.{Call, Open, Feed, End, Ask, State, Closed, Streaming, StepResult, answered, asked, last_alone, run_alone, step_result}
use Rattle.export_laws.specs.Copies.{CanBeCopied, IsCopyOf}
use Rattle.export_laws.specs.Ends.{IsImported}
use Rattle.export_laws.proofs.EndImported.{export-imported}
use Rattle.git_names.specs.Naming.{AnswersNames}
use Rattle.tenant_service.specs.Copying.{GoesOn, IsCall, IsFedAndEnded, IsImport, IsExport, HasTaken, copy_refusal, first_refusal, has_nothing, held_refusal}
use Rattle.tenant_service.specs.Headline.{Response, Run, IsIsolated, call_of, concerns, left_alone, part_of, steps_of, stop_told, told_alone, response_of, told_to}
use Rattle.tenant_service.specs.StepName.{name_of}
use Rattle.tenant_service.specs.TenantState.{TenantState, TenantStates, Idle, Busy, Represents, empty_repository, held_of}
use Rattle.tenant_service.specs.HeldObjects.{last_held}
use Rattle.tenant_service.specs.Copies.{CopiesAs, HoldsCopy}
use Rattle.tenant_service.proofs.ExportLemmas.{EndsWell, end-result, export-ends, feed-result}
use Rattle.tenant_service.specs.Tenants.{AreLed, AreSound}
use Rattle.tenant_service.proofs.OwnLemmas.{last-leads}
use Rattle.tenant_service.proofs.SoundLemmas.{last-sound}

-- ---- a tenant that takes a copy has nothing

none-of : {A : Type 0} (xs : List A) → (length xs == 0) ≡ true → xs ≡ []
none-of [] h = refl
none-of (x ∷ xs) h = absurd (grind (arith, nat_tests, h))

no-entries : (m : RefMap) → entries m ≡ [] → m ≡ empty
no-entries m none = same_map nat_list_cmp_total key_exact m empty
    (λ q. get-entries m q ∙ ap (find key_cmp q) none ∙ sym (get-empty key_cmp q))

pub nothing-held : (repository : Repository) → has_nothing repository ≡ true
    → repository ≡ empty_repository
nothing-held repository h =
    let empty_objects = length repository.objects == 0 in
    let no_ref = length (listed_refs repository.refs) == 0 in
    let a = both_true (empty_objects && no_ref) (bytes_eq repository.refs.head first_head) h in
    let b = both_true empty_objects no_ref a.0 in
    let objects = none-of repository.objects b.0 in
    let refs = no-entries repository.refs.refs (none-of (listed_refs repository.refs) b.1) in
    let head = (bytes_eq-Decides repository.refs.head first_head).0 a.1 in
    λ i. record { objects = objects i; refs = record { refs = refs i; head = head i } }

-- ---- what a step is to its tenant

named-here : (given tenant : List ℕ) → given ≡ tenant → is_tenant_name tenant ≡ true
    → (is_tenant_name given && bytes_eq given tenant) ≡ true
named-here given tenant named good =
    rw (named, good, (bytes_eq-Decides tenant tenant).1 refl) refl

pub concerned : (tenant : List ℕ) (s : Step) → name_of s ≡ tenant → is_tenant_name tenant ≡ true
    → concerns tenant s ≡ true
unfolding concerns
concerned tenant (step.Open given) named good = named-here given.now tenant named good
concerned tenant (step.Feed given bytes) named good = named-here given.now tenant named good
concerned tenant (step.End given) named good = named-here given.now tenant named good
concerned tenant (step.Ask given query) named good = named-here given.now tenant named good
concerned tenant step.Restart named good = refl

-- What a repository and a stream of its own make of a run, and lead to.
record Goes (digest : List ℕ → List ℕ) (tenant : List ℕ) (state : State) (run : Run)
    (after : TenantState) : Type 0 where
  told : told_to tenant run ≡ told_alone digest state (steps_of tenant run)
  left : Represents digest (left_alone digest state (steps_of tenant run)) after

module _ (digest : List ℕ → List ℕ) (state : State) (call : Call) (stop : Option ℕ)
    (later : List (Call × Option ℕ)) where
  abbrev its : StepResult State
  its = run_alone digest call stop state

  told-next : told_alone digest state ((call, stop) ∷ later)
      ≡ response_of its ∷ told_alone digest its.state later
  unfolding told_alone
  told-next = refl

  left-next : left_alone digest state ((call, stop) ∷ later) ≡ left_alone digest its.state later
  unfolding left_alone
  left-next = refl

-- one step of the tenant, and the rest of the run
module _ (digest : List ℕ → List ℕ) (tenant : List ℕ) (good : is_tenant_name tenant ≡ true)
    (call : Call) (taken : Step × Response) (is : IsCall tenant call taken.0) (stop : Option ℕ)
    (stops : stop_told taken.1.answer ≡ stop) (state : State) (run : Run) (after : TenantState) where
  first-part : part_of tenant (taken ∷ run) ≡ taken ∷ part_of tenant run
  first-part =
      ap (λ (b : Bool). cond b (taken ∷ part_of tenant run) (part_of tenant run))
      (concerned tenant taken.0 is.0 good)

  first-steps : steps_of tenant (taken ∷ run) ≡ (call, stop) ∷ steps_of tenant run
  first-steps =
      ap (map (λ (x : Step × Response). (call_of x.0, stop_told x.1.answer))) first-part
      ∙ ap (λ (own : Call × Option ℕ). own ∷ steps_of tenant run)
      (let a = is.1 in λ i. (a i, stops i))

  one-step : Goes digest tenant state (taken ∷ run) after
      → (taken.1 ≡ response_of (run_alone digest call stop state))
      × Goes digest tenant (run_alone digest call stop state).state run after
  one-step g =
      let both : taken.1 ∷ told_to tenant run
      ≡ response_of (run_alone digest call stop state)
      ∷ told_alone digest (run_alone digest call stop state).state (steps_of tenant run) =
      sym (ap (map (λ (x : Step × Response). x.1)) first-part) ∙ g.told
      ∙ ap (told_alone digest state) first-steps
      ∙ told-next digest state call stop (steps_of tenant run) in (
        cc both,
        record {
          told = cc both;
          left = rw (← (ap (left_alone digest state) first-steps
              ∙ left-next digest state call stop (steps_of tenant run))) g.left;
        },
      )

-- ---- the query

export-query : query_of (codes "export") ≡ Ok (what_is_asked.Repository Export)
unfolding query_of word_of
export-query = refl

pub export-answer : (repository : Repository) → is_exportable repository ≡ true
    → answer_to repository (codes "export") ≡ Ok (export_text repository)
export-answer repository few = rw (export-query, few) refl

-- a query leaves a repository and a stream of its own
query-leaves : (digest : List ℕ → List ℕ) (query : List ℕ) (stop : Option ℕ) (state : State)
    → (run_alone digest (Ask query) stop state).state ≡ state
query-leaves digest query stop state = by stop
  where
    told : (r : Result (List ℕ) Fault) → (answered r state).state ≡ state
    told (Ok text) = refl
    told (Err refusal) = refl

    by : (o : Option ℕ) → (asked query o (last_alone digest state) state).state ≡ state
    by None = told (answer_to (last_alone digest state) query)
    by (Some zero) = refl
    by (Some (suc n)) = told (answer_to (last_alone digest state) query)

-- whatever tenant it is of
after-query : (digest : List ℕ → List ℕ) (tenant query : List ℕ) (taken : Step × Response)
    → call_of taken.0 ≡ Ask query → (state : State) (run : Run) (after : TenantState)
    → Goes digest tenant state (taken ∷ run) after → Goes digest tenant state run after
after-query digest tenant query taken is state run after g =
    by (concerns tenant taken.0) g.told g.left
  where
    stop : Option ℕ
    stop = stop_told taken.1.answer

    own : Run → List (Call × Option ℕ)
    own = map (λ (x : Step × Response). (call_of x.0, stop_told x.1.answer))

    same : (run_alone digest (call_of taken.0) stop state).state ≡ state
    same =
        ap (λ (c : Call). (run_alone digest c stop state).state) is
        ∙ query-leaves digest query stop state

    by : (b : Bool)
        → map (λ (x : Step × Response). x.1) (cond b (taken ∷ part_of tenant run) (part_of tenant run))
        ≡ told_alone digest state (own (cond b (taken ∷ part_of tenant run) (part_of tenant run)))
        → Represents digest
        (left_alone digest state (own (cond b (taken ∷ part_of tenant run) (part_of tenant run))))
        after → Goes digest tenant state run after
    by false told left = record { told = told; left = left }
    by true told left =
        let both = told ∙ told-next digest state (call_of taken.0) stop (steps_of tenant run) in
        let rest : told_to tenant run
        ≡ told_alone digest (run_alone digest (call_of taken.0) stop state).state
        (steps_of tenant run) = cc both in
        record {
          told = rest ∙ ap (λ (s : State). told_alone digest s (steps_of tenant run)) same;
          left = rw (← (left-next digest state (call_of taken.0) stop (steps_of tenant run)
              ∙ ap (λ (s : State). left_alone digest s (steps_of tenant run)) same)) left;
        }

-- ---- the import of an export, step by step

-- a repository of its own without a stream leads to itself held
held-copy : (digest : List ℕ → List ℕ) (repository left : Repository) (held : TenantState)
    → Represents digest (Closed left) held → IsCopyOf repository left → HoldsCopy repository held
held-copy digest repository left (Idle kept) leads copy = subst (IsCopyOf repository) leads copy
held-copy digest repository left (Busy opened status) leads copy = absurd leads

module _ (digest : List ℕ → List ℕ) (repository : Repository) (i : IsImported digest repository)
    (to : List ℕ) (good : is_tenant_name to ≡ true) (after : TenantState) where
  well : EndsWell digest (export_text repository) i.left
  well = export-ends digest repository i

  -- an answer that is not the one told
  not-told : (taken : Step × Response) (code : ℕ) (state : State) (t : StepResult State)
      → taken.1.answer ≡ answer.Fault code → taken.1 ≡ response_of t → t ≡ step_result answer.Ok [] state → ⊥
  not-told taken code state t is told ok =
      let a : answer.Fault code ≡ answer.Ok =
      sym is ∙ ap (λ (x : Response). x.answer) told ∙ ap (λ (x : StepResult State). x.answer) ok in cc a

  empty-left : (state : State) → left_alone digest state [] ≡ state
  unfolding left_alone
  empty-left state = refl

  at-end : (ended : Step × Response) → IsCall to End ended.0
      → Goes digest to (Streaming empty_repository (export_text repository)) (ended ∷ []) after
      → CopiesAs ended.1.answer repository after
  at-end ended is g = by ended.1.answer refl
    where
      before : State
      before = Streaming empty_repository (export_text repository)

      then : (a : Answer) → ended.1.answer ≡ a → stop_told a ≡ None
          → (ended.1 ≡ response_of (run_alone digest End None before))
          × Goes digest to (run_alone digest End None before).state [] after
      then a eq none =
          one-step digest to good End ended is None (ap stop_told eq ∙ none) before [] after g

      results : run_alone digest End None before ≡ step_result answer.Ok [] (Closed i.left)
      results = end-result digest (export_text repository) i.left well

      by : (a : Answer) → ended.1.answer ≡ a → CopiesAs a repository after
      by answer.Ok eq =
          held-copy digest repository i.left after
          (rw (← (empty-left (run_alone digest End None before).state ∙ ap (λ (t : StepResult State). t.state) results))
          (then answer.Ok eq refl).1.left) i.copy
      by (answer.Fault code) eq =
          absurd (not-told ended code (Closed i.left) (run_alone digest End None before) eq
          (then (answer.Fault code) eq refl).0 results)
      by (answer.Memory items) eq = tt

  at-feed : (run : Run) (told : Answer) → IsFedAndEnded to (export_text repository) run told
      → Goes digest to (Streaming empty_repository []) run after → CopiesAs told repository after
  at-feed [] told h g = absurd h
  at-feed (fed ∷ []) told h g = absurd h
  at-feed (fed ∷ ended ∷ []) told h g =
      rw h.2 (by fed.1.answer refl)
    where
      text : List ℕ
      text = export_text repository

      before : State
      before = Streaming empty_repository []

      then : (a : Answer) → fed.1.answer ≡ a → stop_told a ≡ None
          → (fed.1 ≡ response_of (run_alone digest (Feed text) None before))
          × Goes digest to (run_alone digest (Feed text) None before).state (ended ∷ []) after
      then a eq none =
          one-step digest to good (Feed text) fed h.0 None (ap stop_told eq ∙ none) before
          (ended ∷ []) after g

      results : run_alone digest (Feed text) None before
          ≡ step_result answer.Ok [] (Streaming empty_repository text)
      results = feed-result digest text i.left well

      by : (a : Answer) → fed.1.answer ≡ a
          → CopiesAs (first_refusal a ended.1.answer) repository after
      by answer.Ok eq =
          at-end ended h.1
          (rw (← (ap (λ (t : StepResult State). t.state) results)) (then answer.Ok eq refl).1)
      by (answer.Fault code) eq =
          absurd (not-told fed code (Streaming empty_repository text)
          (run_alone digest (Feed text) None before) eq (then (answer.Fault code) eq refl).0 results)
      by (answer.Memory items) eq = tt
  at-feed (fed ∷ ended ∷ more ∷ run) told h g = absurd h

  at-open : (run : Run) (told : Answer) → IsImport to (export_text repository) run told
      → Goes digest to (Closed empty_repository) run after → CopiesAs told repository after
  at-open [] told h g = absurd h
  at-open (opened ∷ run) told h g = by opened.1.answer refl h.1
    where
      then : (a : Answer) → opened.1.answer ≡ a → stop_told a ≡ None
          → (opened.1 ≡ response_of (run_alone digest Open None (Closed empty_repository)))
          × Goes digest to (Streaming empty_repository []) run after
      then a eq none =
          one-step digest to good Open opened h.0 None (ap stop_told eq ∙ none)
          (Closed empty_repository) run after g

      by : (a : Answer) → opened.1.answer ≡ a
          → GoesOn a run told (IsFedAndEnded to (export_text repository) run told)
          → CopiesAs told repository after
      by answer.Ok eq on = at-feed run told on (then answer.Ok eq refl).1
      by (answer.Fault code) eq on =
          absurd (not-told opened code (Streaming empty_repository [])
          (run_alone digest Open None (Closed empty_repository)) eq
          (then (answer.Fault code) eq refl).0 refl)
      by (answer.Memory items) eq on =
          rw on.1 tt

-- ---- a copy that was not refused before its steps

-- Both names are good, and the second tenant has nothing.
pub record MayTake (from to : List ℕ) (held : TenantState) : Type 0 where
  pub good_from : is_tenant_name from ≡ true
  pub good_to : is_tenant_name to ≡ true
  pub nothing : held ≡ Idle empty_repository

pub not-refused : (held : TenantState) → held_refusal held ≡ None → held ≡ Idle empty_repository
not-refused (Idle repository) h = by (has_nothing repository) refl h
  where
    by : (b : Bool) → has_nothing repository ≡ b → cond b None (Some fault.TenantNotEmpty) ≡ None
        → Idle repository ≡ Idle empty_repository
    by true is h = ap Idle (nothing-held repository is)
    by false is h = cc
not-refused (Busy opened status) h = cc

pub may-take : (from to : List ℕ) (all : TenantStates) → copy_refusal from to all ≡ None → MayTake from to (held_of to all)
may-take from to all h = by (is_tenant_name from && is_tenant_name to) refl h
  where
    by : (b : Bool) → (is_tenant_name from && is_tenant_name to) ≡ b
        → cond b (held_refusal (held_of to all)) (Some fault.BadTenantName) ≡ None → MayTake from to (held_of to all)
    by true is h =
        let names = both_true (is_tenant_name from) (is_tenant_name to) is in
        record { good_from = names.0; good_to = names.1; nothing = not-refused (held_of to all) h }
    by false is h = cc

-- ---- the steps of a copy

module _ (digest : List ℕ → List ℕ) (before after : TenantStates) (from to : List ℕ) (told : Answer)
    (state : State) (leads : Represents digest state (held_of from before))
    (last : last_alone digest state ≡ last_held (held_of from before))
    (few : is_exportable (last_held (held_of from before)) ≡ true)
    (i : IsImported digest (last_held (held_of from before)))
    (may : MayTake from to (held_of to before)) where
  abbrev repository : Repository
  repository = last_held (held_of from before)

  -- what the query is told alone
  asked-result : run_alone digest (Ask (codes "export")) None state
      ≡ step_result answer.Ok (export_text repository) state
  asked-result =
      ap (λ (r : Repository). answered (answer_to r (codes "export")) state) last
      ∙ ap (λ (r : Result (List ℕ) Fault). answered r state) (export-answer repository few)

  starts : Represents digest (Closed empty_repository) (held_of to before)
  starts = subst (Represents digest (Closed empty_repository)) (sym may.nothing) refl

  copied-by : (run : Run) → IsExport from to run told
      → ((tenant : List ℕ) → IsIsolated digest tenant (held_of tenant before) run (held_of tenant after))
      → CopiesAs told repository (held_of to after)
  copied-by [] h own = absurd h
  copied-by (asked ∷ run) h own = by asked.1.answer refl h.1
    where
      whole : Goes digest from state (asked ∷ run) (held_of from after)
      whole = record { told = (own from).told state leads; left = (own from).left state leads }

      then : (a : Answer) → asked.1.answer ≡ a → stop_told a ≡ None
          → asked.1 ≡ record { answer = answer.Ok; reply = export_text repository }
      then a eq none =
          (one-step digest from may.good_from (Ask (codes "export")) asked h.0 None
          (ap stop_told eq ∙ none) state run (held_of from after) whole).0
          ∙ ap (λ (t : StepResult State). response_of t) asked-result

      rest : Goes digest to (Closed empty_repository) run (held_of to after)
      rest =
          after-query digest to (codes "export") asked h.0.1 (Closed empty_repository) run
          (held_of to after)
          (record {
            told = (own to).told (Closed empty_repository) starts;
            left = (own to).left (Closed empty_repository) starts;
          })

      by : (a : Answer) → asked.1.answer ≡ a
          → GoesOn a run told (IsImport to asked.1.reply run told)
          → CopiesAs told repository (held_of to after)
      by answer.Ok eq on =
          at-open digest repository i to may.good_to (held_of to after) run told
          (rw (← (ap (λ (x : Response). x.reply) (then answer.Ok eq refl))) on) rest
      by (answer.Fault code) eq on =
          (let e : answer.Fault code ≡ answer.Ok =
          sym eq ∙ ap (λ (x : Response). x.answer) (then (answer.Fault code) eq refl) in cc e)
      by (answer.Memory items) eq on =
          rw on.1 tt

-- The steps of a copy that is not refused before them are answered Ok, or run out of memory; and
-- after Ok a copy of the first tenant's repository at its last checkpoint is held of the second.
pub copied : (digest : List ℕ → List ℕ) → AnswersNames digest → (before after : TenantStates)
    (from to : List ℕ) (told : Answer) → AreLed digest before → AreSound digest before
    → HasTaken digest before after (λ run. IsExport from to run told)
    → copy_refusal from to before ≡ None → CanBeCopied (last_held (held_of from before))
    → CopiesAs told (last_held (held_of from before)) (held_of to after)
copied digest names before after from to told led sound taken none can =
    let repository = last_held (held_of from before) in
    let good = last-sound digest (held_of from before) (sound from) in
    let i = export-imported digest names repository good can.fits can.few_tags can.few_refs in
    let state = led from in
    copied-by digest before after from to told state.0 state.1
    (last-leads digest state.0 (held_of from before) state.1) can.few_refs i
    (may-take from to before none) taken.run taken.is taken.own
