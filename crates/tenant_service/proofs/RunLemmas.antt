-- Runs, and what one tenant meets of them.
use Rattle.std.proofs.Common.{◌≡◌, ℕ, suc, ◌+◌, append-nil, Bool, true, false, ◌&&◌, cond, ◌<◌, ◌≤◌, List, [], ◌∷◌, ◌++◌, length, map, drop, get_or, Option, Some, refl, sym, ap, ◌∙◌, arith, append_assoc, length-drop}
use Rattle.std.specs.Option.{unwrap_or}
use Rattle.std.specs.Map.{lookup}
use Rattle.std.specs.Str.{bytes_eq}
use Rattle.std.proofs.lemmas.List.{map-append}
use Rattle.std.proofs.lemmas.List.Elements.{filter-append}
use Rattle.std.specs.List.{zip, AllByRecursion}
use Rattle.std.proofs.Math.Seq.{drop-append_seam, drop-append-le, drop-length}
use Rattle.std.proofs.lemmas.Slice.Eq.{bytes_eq-Decides}
use Rattle.content_pool.specs.Pool.{Cells}
use Rattle.tenant_refs.specs.TenantName.{is_tenant_name}
use Rattle.service_steps.specs.declared.answer.Answer.{Answer}
use Rattle.service_steps.specs.declared.reply.Reply.{Reply}
use Rattle.service_steps.specs.declared.step.Step.{Step}
use Rattle.service_steps.specs.declared.step.Step.TheVariants as step
use Rattle.tenant_service.specs.Alone.{Call, State, Closed, StepResult, added, run_alone}
use Rattle.tenant_service.specs.Headline.{Response, response_of, response_in, Run, concerns, call_of, stop_told, part_of, steps_of, told_to, told_alone, left_alone, IsIsolated, IsRefused, told_by_reply, told_since, run_of}
use Rattle.tenant_service.specs.TenantState.{TenantState, TenantStates, Idle, Represents, empty_repository, held_of}
use Rattle.tenant_service.specs.HeldObjects.{last_held}
use Rattle.tenant_service.specs.HeldSteps.{step_held}
use Rattle.tenant_service.specs.Tenants.{Tenants, Accounts, AreLed, holdings}
use Rattle.tenant_service.specs.OneStep.{Takes, store, Calls, Steps, restarted}
use Rattle.tenant_service.proofs.OwnLemmas.{meets}
use Rattle.tenant_service.proofs.AccountLemmas.{all_whole}

-- ---- one step

-- a step that concerns a tenant is its own call
pub own-call : (digest : List ℕ → List ℕ) (tenant : List ℕ) (s : Step) (answer : Answer) (out out' : List ℕ) (before after : TenantState)
    → concerns tenant s ≡ true → Takes (step_held digest (call_of s) (stop_told answer) before) answer out out' after
    → IsIsolated digest tenant before ((s, response_in answer out out') ∷ []) after
unfolding told_alone left_alone
own-call digest tenant s answer out out' before after concerned takes = record {
  told = λ state leads.
      ap (λ (b : Bool). map (λ (x : Step × Response). x.1) (cond b ((s, response_in answer out out') ∷ []) [])) concerned
      ∙ ap (λ (x : Response). x ∷ []) (says state leads)
      ∙ ap (λ (b : Bool). told_alone digest state (map (λ (x : Step × Response). (call_of x.0, stop_told x.1.answer)) (cond b ((s, response_in answer out out') ∷ []) [])))
      (sym concerned);
  left = λ state leads.
      rw concerned
      (rw (← takes.leaves)
      (meets digest (call_of s) (stop_told answer) state before leads).leads);
}
  where
    t : StepResult TenantState
    t = step_held digest (call_of s) (stop_told answer) before

    adds : added out out' ≡ t.reply
    adds = ap (λ (all : List ℕ). drop (length out) all) takes.printed ∙ drop-append_seam out t.reply

    says : (state : State) → Represents digest state before → response_in answer out out' ≡ response_of (run_alone digest (call_of s) (stop_told answer) state)
    says state leads =
        ap (λ (a : Answer). record { answer = a; reply = added out out' }) (sym takes.answered)
        ∙ ap (λ (r : List ℕ). record { answer = t.answer; reply = r }) adds
        ∙ sym (meets digest (call_of s) (stop_told answer) state before leads).told

-- one that does not concern it leaves it as it was
pub own-other : (digest : List ℕ → List ℕ) (tenant : List ℕ) (s : Step) (told : Response) (before after : TenantState)
    → concerns tenant s ≡ false → after ≡ before
    → IsIsolated digest tenant before ((s, told) ∷ []) after
unfolding told_alone left_alone
own-other digest tenant s told before after apart same = record {
  told = λ state leads.
      ap (λ (b : Bool). map (λ (x : Step × Response). x.1) (cond b ((s, told) ∷ []) [])) apart
      ∙ ap (λ (b : Bool). told_alone digest state (map (λ (x : Step × Response). (call_of x.0, stop_told x.1.answer)) (cond b ((s, told) ∷ []) []))) (sym apart);
  left = λ state leads.
      rw apart
      (rw same leads);
}

-- ---- more steps

told-more : (digest : List ℕ → List ℕ) (state : State) (first later : List (Call × Option ℕ))
    → told_alone digest state (first ++ later) ≡ told_alone digest state first ++ told_alone digest (left_alone digest state first) later
unfolding told_alone left_alone
told-more digest state [] later = refl
told-more digest state (own ∷ first) later =
    ap (λ (rest : List Response). response_of (run_alone digest own.0 own.1 state) ∷ rest) (told-more digest (run_alone digest own.0 own.1 state).state first later)

left-more : (digest : List ℕ → List ℕ) (state : State) (first later : List (Call × Option ℕ))
    → left_alone digest state (first ++ later) ≡ left_alone digest (left_alone digest state first) later
unfolding left_alone
left-more digest state [] later = refl
left-more digest state (own ∷ first) later = left-more digest (run_alone digest own.0 own.1 state).state first later

steps-more : (tenant : List ℕ) (first later : Run) → steps_of tenant (first ++ later) ≡ steps_of tenant first ++ steps_of tenant later
steps-more tenant first later =
    ap (map (λ (x : Step × Response). (call_of x.0, stop_told x.1.answer))) (filter-append (λ (x : Step × Response). concerns tenant x.0) first later)
    ∙ map-append (λ (x : Step × Response). (call_of x.0, stop_told x.1.answer)) (part_of tenant first) (part_of tenant later)

told_to-more : (tenant : List ℕ) (first later : Run) → told_to tenant (first ++ later) ≡ told_to tenant first ++ told_to tenant later
told_to-more tenant first later =
    ap (map (λ (x : Step × Response). x.1)) (filter-append (λ (x : Step × Response). concerns tenant x.0) first later)
    ∙ map-append (λ (x : Step × Response). x.1) (part_of tenant first) (part_of tenant later)

-- a run and further steps
pub own-more : (digest : List ℕ → List ℕ) (tenant : List ℕ) (before between after : TenantState) (first later : Run)
    → IsIsolated digest tenant before first between → IsIsolated digest tenant between later after
    → IsIsolated digest tenant before (first ++ later) after
own-more digest tenant before between after first later h k = record {
  told = λ state leads.
      told_to-more tenant first later
      ∙ (λ i. h.told state leads i ++ k.told (left_alone digest state (steps_of tenant first)) (h.left state leads) i)
      ∙ sym (ap (told_alone digest state) (steps-more tenant first later) ∙ told-more digest state (steps_of tenant first) (steps_of tenant later));
  left = λ state leads.
      rw (ap (left_alone digest state) (steps-more tenant first later) ∙ left-more digest state (steps_of tenant first) (steps_of tenant later))
      (k.left (left_alone digest state (steps_of tenant first)) (h.left state leads));
}

-- no steps
pub own-none : (digest : List ℕ → List ℕ) (tenant : List ℕ) (held : TenantState) → IsIsolated digest tenant held [] held
unfolding told_alone left_alone
own-none digest tenant held = record { told = λ state leads. refl; left = λ state leads. leads }

-- ---- what a step of the service is to each tenant

pub apart-back : (a b : List ℕ) → bytes_eq a b ≡ false → bytes_eq b a ≡ false
apart-back a b apart = by (bytes_eq b a) refl
  where
    by : (x : Bool) → bytes_eq b a ≡ x → x ≡ false
    by false e = refl
    by true e = sym ((bytes_eq-Decides a b).1 (sym ((bytes_eq-Decides b a).0 e))) ∙ apart

-- a call under a name, of a step that concerns just the tenant of that name
own-named : (digest : List ℕ → List ℕ) (tenant : List ℕ) (s : Step) (given : List ℕ) (b : Bool) (p q : Cells) (es new : Tenants)
    (answer : Answer) (out out' : List ℕ)
    → (concerns tenant s ≡ (b && bytes_eq given tenant))
    → Calls digest b given (call_of s) (store p es) answer out out' (store q new)
    → IsIsolated digest tenant (held_of tenant (holdings p es)) ((s, response_in answer out out') ∷ []) (held_of tenant (holdings q new))
own-named digest tenant s given false p q es new answer out out' which h =
    own-other digest tenant s (response_in answer out out') _ _ which (ap (held_of tenant) h.same)
own-named digest tenant s given true p q es new answer out out' which h = by (bytes_eq given tenant) refl
  where
    by : (x : Bool) → bytes_eq given tenant ≡ x
        → IsIsolated digest tenant (held_of tenant (holdings p es)) ((s, response_in answer out out') ∷ []) (held_of tenant (holdings q new))
    by true here =
        let same : given ≡ tenant = (bytes_eq-Decides given tenant).0 here in
        own-call digest tenant s answer out out' _ _ (which ∙ here)
        (rw (← same) h.own)
    by false apart =
        own-other digest tenant s (response_in answer out out') _ _ (which ∙ apart) (h.others tenant (apart-back given tenant apart))

pub held-restarted : (tenant : List ℕ) (all : TenantStates) → held_of tenant (restarted all) ≡ Idle (last_held (held_of tenant all))
held-restarted tenant [] = refl
held-restarted tenant (e ∷ all) = by (bytes_eq tenant e.0) (held-restarted tenant all)
  where
    by : (b : Bool) → held_of tenant (restarted all) ≡ Idle (last_held (held_of tenant all))
        → unwrap_or (cond b (Some (Idle (last_held e.1))) (lookup (bytes_eq tenant) (restarted all))) (Idle empty_repository)
        ≡ Idle (last_held (unwrap_or (cond b (Some e.1) (lookup (bytes_eq tenant) all)) (Idle empty_repository)))
    by true h = refl
    by false h = h

pub own-step : (digest : List ℕ → List ℕ) (s : Step) (p q : Cells) (es new : Tenants) (answer : Answer) (out out' : List ℕ)
    → Steps digest s (store p es) answer out out' (store q new) → (tenant : List ℕ)
    → IsIsolated digest tenant (held_of tenant (holdings p es)) ((s, response_in answer out out') ∷ []) (held_of tenant (holdings q new))
unfolding concerns
own-step digest (step.Open given) p q es new answer out out' h tenant = own-named digest tenant (step.Open given) given.now (is_tenant_name given.now) p q es new answer out out' refl h
own-step digest (step.Feed given bytes) p q es new answer out out' h tenant = own-named digest tenant (step.Feed given bytes) given.now (is_tenant_name given.now) p q es new answer out out' refl h
own-step digest (step.End given) p q es new answer out out' h tenant = own-named digest tenant (step.End given) given.now (is_tenant_name given.now) p q es new answer out out' refl h
own-step digest (step.Ask given query) p q es new answer out out' h tenant = own-named digest tenant (step.Ask given query) given.now (is_tenant_name given.now) p q es new answer out out' refl h
own-step digest step.Restart p q es new answer out out' h tenant =
    own-call digest tenant step.Restart answer out out' _ _ refl
    (record {
      answered = sym h.answered;
      printed = h.printed ∙ sym (append-nil out);
      leaves = sym (ap (held_of tenant) h.closed ∙ held-restarted tenant (holdings p es));
    })

-- ---- replies in turn

zip-push : {A B : Type 0} (xs : List A) (ys : List B) (d : A) (y : B) → length ys < length xs
    → zip xs (ys ++ y ∷ []) ≡ zip xs ys ++ (get_or xs (length ys) d, y) ∷ []
zip-push [] ys d y within = absurd (omega (arith, within))
zip-push (x ∷ []) [] d y within = refl
zip-push (x ∷ z ∷ xs) [] d y within = refl
zip-push (x ∷ xs) (z ∷ ys) d y within = ap (λ rest. (x, z) ∷ rest) (zip-push xs ys d y (omega (arith, within)))

length-told : (replies : List Reply) → length (map told_by_reply replies) ≡ length replies
length-told [] = refl
length-told (r ∷ replies) = ap (λ (n : ℕ). suc n) (length-told replies)

-- one reply more
pub run-more : (steps : List Step) (old all : List Reply) (r : Reply) (i : ℕ) (d : Step)
    → length all ≡ length old + i → i < length steps
    → run_of steps (told_since old (all ++ r ∷ [])) ≡ run_of steps (told_since old all) ++ (get_or steps i d, told_by_reply r) ∷ []
run-more steps old all r i d count within =
    let parts : told_since old (all ++ r ∷ []) ≡ told_since old all ++ told_by_reply r ∷ [] =
    ap (map told_by_reply) (drop-append-le (length old) all (r ∷ []) (omega arith)) ∙ map-append told_by_reply (drop (length old) all) (r ∷ []) in
    let l = length-drop (length old) all in
    let many : length (told_since old all) ≡ i = length-told (drop (length old) all) ∙ omega (arith, l) in
    ap (zip steps) parts
    ∙ zip-push steps (told_since old all) d (told_by_reply r) (omega (arith, many))
    ∙ ap (λ (n : ℕ). zip steps (told_since old all) ++ (get_or steps n d, told_by_reply r) ∷ []) many

pub run-none : (steps : List Step) (old : List Reply) → run_of steps (told_since old old) ≡ []
run-none steps old = ap (λ (rs : List Reply). zip steps (map told_by_reply rs)) (drop-length old) ∙ nothing steps
  where
    nothing : (zs : List Step) → ◌≡◌ {A = Run} (zip zs []) []
    nothing [] = refl
    nothing (z ∷ zs) = refl

pub appended-more : (old all : List Reply) (r : Reply) → all ≡ old ++ drop (length old) all → length old ≤ length all
    → all ++ r ∷ [] ≡ old ++ drop (length old) (all ++ r ∷ [])
appended-more old all r is within =
    ap (λ (rs : List Reply). rs ++ r ∷ []) is ∙ append_assoc old (drop (length old) all) (r ∷ [])
    ∙ ap (λ (rs : List Reply). old ++ rs) (sym (drop-append-le (length old) all (r ∷ []) within))

pub appended-none : (old : List Reply) → old ≡ old ++ drop (length old) old
appended-none old = sym (ap (λ (rs : List Reply). old ++ rs) (drop-length old) ∙ append-nil old)

-- a run goes on by one step, which is every tenant's own
pub run-goes_on : (digest : List ℕ → List ℕ) (tenant : List ℕ) (before between after : TenantState) (steps : List Step) (old all new : List Reply) (r : Reply) (told : Response)
    (i : ℕ) (d : Step)
    → length all ≡ length old + i → i < length steps → new ≡ all ++ r ∷ [] → told ≡ told_by_reply r
    → IsIsolated digest tenant before (run_of steps (told_since old all)) between
    → IsIsolated digest tenant between ((get_or steps i d, told) ∷ []) after
    → IsIsolated digest tenant before (run_of steps (told_since old new)) after
run-goes_on digest tenant before between after steps old all new r told i d count within is says h k =
    rw (ap (λ (rs : List Reply). run_of steps (told_since old rs)) is ∙ run-more steps old all r i d count within
    ∙ ap (λ (t : Response). run_of steps (told_since old all) ++ (get_or steps i d, t) ∷ []) (sym says))
    (own-more digest tenant before between after (run_of steps (told_since old all)) ((get_or steps i d, told) ∷ []) h k)

pub bad-goes_on : (steps : List Step) (old all new : List Reply) (r : Reply) (told : Response) (i : ℕ) (d : Step)
    → length all ≡ length old + i → i < length steps → new ≡ all ++ r ∷ [] → told ≡ told_by_reply r
    → AllByRecursion IsRefused (run_of steps (told_since old all)) → IsRefused (get_or steps i d, told)
    → AllByRecursion IsRefused (run_of steps (told_since old new))
bad-goes_on steps old all new r told i d count within is says h k =
    rw (ap (λ (rs : List Reply). run_of steps (told_since old rs)) is ∙ run-more steps old all r i d count within
    ∙ ap (λ (t : Response). run_of steps (told_since old all) ++ (get_or steps i d, t) ∷ []) (sym says))
    (all_whole IsRefused (run_of steps (told_since old all)) ((get_or steps i d, told) ∷ []) h (k, tt))

pub bad-none : (steps : List Step) (old : List Reply) → AllByRecursion IsRefused (run_of steps (told_since old old))
bad-none steps old = rw (run-none steps old) tt

-- ---- what is always true of a service

called : (digest : List ℕ → List ℕ) (b : Bool) (name : List ℕ) (call : Call) (p : Cells) (es : Tenants) (answer : Answer) (out out' : List ℕ) (q : Cells) (new : Tenants)
    → Calls digest b name call (store p es) answer out out' (store q new) → Accounts digest q new
called digest true name call p es answer out out' q new c = c.accounts
called digest false name call p es answer out out' q new c = c.accounts

pub stepped : (digest : List ℕ → List ℕ) (s : Step) (p : Cells) (es : Tenants) (answer : Answer) (out out' : List ℕ) (q : Cells) (new : Tenants)
    → Steps digest s (store p es) answer out out' (store q new) → Accounts digest q new
stepped digest (step.Open given) p es answer out out' q new c = called digest _ _ _ p es answer out out' q new c
stepped digest (step.Feed given bytes) p es answer out out' q new c = called digest _ _ _ p es answer out out' q new c
stepped digest (step.End given) p es answer out out' q new c = called digest _ _ _ p es answer out out' q new c
stepped digest (step.Ask given query) p es answer out out' q new c = called digest _ _ _ p es answer out out' q new c
stepped digest step.Restart p es answer out out' q new c = c.accounts

pub led-nil : (digest : List ℕ → List ℕ) → AreLed digest []
led-nil digest tenant = (Closed empty_repository, refl)

pub led-on : (digest : List ℕ → List ℕ) (before after : TenantStates) (run : Run)
    → ((tenant : List ℕ) → IsIsolated digest tenant (held_of tenant before) run (held_of tenant after))
    → AreLed digest before → AreLed digest after
led-on digest before after run own led tenant =
    let l = led tenant in (left_alone digest l.0 (steps_of tenant run), (own tenant).left l.0 l.1)
