-- One tenant: what is held of it after each call.
use Rattle.std.proofs.Common.{◌≡◌, ℕ, Bool, true, false, cond, List, [], ◌++◌, length, take, Option, None, Some, Result, Ok, Err, ◌≢◌, refl, sym, ap, subst, ◌∙◌, arith, append-nil}
use Rattle.std.proofs.lemmas.List.{take_all}
use Rattle.git_model.specs.RefStore.{RefStore, no_refs}
use Rattle.git_model.specs.Repository.{Repository, Object}
use Rattle.content_pool.specs.Pool.{Cells}
use Rattle.tenant_tables.specs.View.{View}
use Rattle.tenant_tables.specs.Objects.{objects}
use Rattle.tenant_tables.proofs.TableLemmas.{length-objects, objects-take}
use Rattle.stream_lex.specs.Items.{Tail, Rest}
use Rattle.stream_lex.specs.Running.{more_of}
use Rattle.stream_grammar.specs.Commands.{top}
use Rattle.stream_commands.specs.State.{empty_state, workspace_in}
use Rattle.import_session.specs.Session.{repository_in}
use Rattle.import_session.specs.Stream.{Running, StreamStatus, Runs, Refused, Outcome, End, finished, running_end, last_checkpoint, ended_well as import_ended}
use Rattle.answers.specs.declared.fault.Fault.{Fault as Refusal}
use Rattle.answers.specs.declared.fault.Fault.TheVariants as refusal
use Rattle.answers.specs.Faults.{Prints, code_of}
use Rattle.answers.specs.Answers.{answer_to}
use Rattle.service_steps.specs.declared.answer.Answer.TheVariants as answer
use Rattle.tenant_stream.specs.declared.stream_error.StreamError.TheVariants as stop
use Rattle.tenant_service.specs.declared.opened.Opened.{Opened}
use Rattle.tenant_service.specs.declared.tenant.OpenStream.{OpenStream}
use Rattle.tenant_service.specs.declared.tenant.OpenStream.TheVariants as phase
use Rattle.tenant_service.specs.Alone.{Open, Ask, End as EndCall, StepResult, out_of_memory, answered, asked, unless_out_of_memory, ended, ended_well, end_answer}
use Rattle.tenant_stream.specs.Carrying.{outcome_after, Held, held_with, StreamView, new_stream, stream_end, Feeds, HasEnded, RanOutAtEnd}
use Rattle.tenant_service.specs.Headline.{stop_told}
use Rattle.tenant_service.specs.TenantState.{TenantState, Idle, Busy, empty_repository}
use Rattle.tenant_service.specs.HeldObjects.{last_held}
use Rattle.tenant_service.specs.HeldSteps.{step_held, fed_held, standing_answer}
use Rattle.tenant_service.specs.Opening.{opened_in}
use Rattle.tenant_service.specs.Tenants.{held_in, standing_in, kept_tail, IsSettled}
use Rattle.tenant_service.specs.OneStep.{Takes, refusal_told}
use Rattle.tenant_stream.proofs.StreamLemmas.{carried-done, outcome-all, outcome-refused}
use Rattle.tenant_service.proofs.StreamLemmas.{stop-ran_out, stopped-running}

-- the committed objects are all, where no stream runs
pub all_committed : (pool : Cells) (table : View) → table.committed ≡ length table.entries
    → take table.committed (objects pool table.entries) ≡ objects pool table.entries
all_committed pool table settled =
    take_all table.committed (objects pool table.entries) (let n = length-objects pool table.entries in omega arith)

-- what is left where the table was rolled back
pub given_up : (ph : OpenStream) (before after : Cells) (old new : View) (refs : RefStore) → IsSettled ph old
    → objects after new.entries ≡ take old.committed (objects before old.entries)
    → repository_in after new refs ≡ last_held (held_in ph before old refs)
given_up phase.Closed before after old new refs settled left =
    ap (λ (os : List Object). record { objects = os; refs = refs }) (left ∙ all_committed before old settled)
given_up (phase.Running opened stream) before after old new refs settled left =
    ap (λ (os : List Object). record { objects = os; refs = refs }) left
given_up (phase.Dead opened code) before after old new refs settled left =
    ap (λ (os : List Object). record { objects = os; refs = refs }) (left ∙ all_committed before old settled)

-- a tenant with nothing
pub held_nothing : (pool : Cells) (table : View) (refs : RefStore) → table.entries ≡ [] → refs ≡ no_refs
    → Idle (repository_in pool table refs) ≡ Idle empty_repository
unfolding objects
held_nothing pool table refs empty unset = rw (empty, unset) refl

-- what a stream is opened on
opened-is : (pool : Cells) (table : View) (refs : RefStore) (opened : Opened)
    → table.committed ≡ length table.entries → opened.objects ≡ table.committed → opened.refs ≡ refs
    → repository_in pool table refs ≡ opened_in opened pool table
opened-is pool table refs opened settled count same =
    let all : objects pool table.entries ≡ take opened.objects (objects pool table.entries) =
    sym (ap (λ (n : ℕ). take n (objects pool table.entries)) count ∙ all_committed pool table settled) in
    λ i. record { objects = all i; refs = sym same i }

-- a stream that was opened
pub took-opened : (digest : List ℕ → List ℕ) (ph : OpenStream) (pool : Cells) (table : View) (refs : RefStore) (opened : Opened) (stream : StreamView)
    → ph ≡ phase.Closed → IsSettled ph table → opened.objects ≡ table.committed → opened.refs ≡ refs → stream ≡ new_stream
    → Takes (step_held digest Open None (held_in ph pool table refs)) answer.Ok [] []
    (Busy (opened_in opened pool table) (standing_in stream pool table refs))
unfolding kept_tail
took-opened digest phase.Closed pool table refs opened stream closed settled count same new = record {
  answered = refl;
  printed = refl;
  leaves =
      rw new
      (ap (λ (n : ℕ). Busy (repository_in pool table refs) (Runs (record {
        workspace = record (workspace_in empty_state pool table refs) { committed = n };
        parsing = Ok top;
        is_done = false;
      }) (Rest false []))) (length-objects pool table.entries ∙ sym settled)
      ∙ ap (λ (x : Repository). Busy x (standing_in new_stream pool table refs))
      (opened-is pool table refs opened settled count same));
}
took-opened digest (phase.Running o s) pool table refs opened stream closed settled count same new = cc closed
took-opened digest (phase.Dead o code) pool table refs opened stream closed settled count same new = cc closed

-- ---- a piece

-- the bytes that a stream keeps
abbrev kept : Held → Tail
kept held = cond held.running.is_done (Rest false []) held.tail

kept-running : (held : Held) → held.running.is_done ≡ false → kept held ≡ held.tail
kept-running held running = rw running refl

module _ (digest : List ℕ → List ℕ) (opened : Repository) (before : Held) (piece : List ℕ) where
  -- what is held after a piece, by its stop
  abbrev fed : Option ℕ → Tail → StepResult TenantState
  fed stop tail = fed_held digest piece stop opened before.running tail

  gone-on : (tail : Tail) (replies out : List ℕ) (status : StreamStatus)
      → outcome_after digest before.running tail piece
      ≡ record { replies = replies; status = status }
      → out ≡ before.out ++ replies
      → Takes (fed None tail) (standing_answer status) before.out out (Busy opened status)
  gone-on tail replies out status is printed = record {
    answered = ap (λ (o : Outcome). standing_answer o.status) is;
    printed = printed ∙ ap (λ (o : Outcome). before.out ++ o.replies) (sym is);
    leaves = ap (λ (o : Outcome). Busy opened o.status) is;
  }

  -- it was taken
  pub took-fed : (after : Held) → Feeds digest before piece (Ok tt) after
      → Takes (fed None (kept before)) answer.Ok before.out after.out
      (Busy opened (Runs after.running (kept after)))
  took-fed after h = by before.running.is_done refl
    where
      by : (b : Bool) → before.running.is_done ≡ b
          → Takes (fed None (kept before)) answer.Ok before.out after.out
          (Busy opened (Runs after.running (kept after)))
      by true done =
          rw ((h.ignored done).1)
          (gone-on (kept before) [] before.out (Runs before.running (kept before))
          (carried-done digest before.running (more_of (kept before) piece).items
          (more_of (kept before) piece).tail done
          ∙ ap (λ (b : Bool). let o : Outcome = record {
            replies = [];
            status = Runs before.running (cond b (Rest false []) before.tail);
          } in o) (sym done))
          (sym (append-nil before.out)))
      by false running =
          let all = h.taken running in
          rw (kept-running before running)
          (gone-on before.tail all.carried_out.replies after.out (Runs after.running (kept after))
          (outcome-all digest before piece after all) all.carried_out.printed)

  -- it was refused
  pub took-refused : (code : ℕ) (after : Held)
      → Feeds digest before piece (Err (stop.Fault code)) after
      → Takes (fed None (kept before)) (answer.Fault code) before.out after.out
      (Busy opened (Refused code (last_checkpoint after.running.workspace)))
  took-refused code after h =
      let running = stopped-running digest before piece (stop.Fault code) after h in
      let refused = h.taken running in
      let so_far = refused.stopped.carried_out in
      rw (kept-running before running)
      (gone-on before.tail so_far.replies after.out
      (Refused code (last_checkpoint after.running.workspace))
      (outcome-refused digest before piece code after refused)
      (refused.stopped.printed ∙ so_far.printed))

  -- and memory ran out after some items of it
  pub took-stopped : (count : ℕ) (after : Held)
      → Feeds digest before piece (Err (stop.Memory count)) after
      → Takes (fed (Some count) (kept before)) (answer.Memory count) before.out after.out
      (Busy opened (Refused out_of_memory (last_checkpoint after.running.workspace)))
  took-stopped count after h =
      let running = stopped-running digest before piece (stop.Memory count) after h in
      let ran_out = h.taken running in
      let so_far = ran_out.stopped.carried_out in
      rw (kept-running before running, stop-ran_out digest before piece count after ran_out)
      (record {
        answered = refl;
        printed = ran_out.stopped.printed ∙ so_far.printed;
        leaves = refl;
      })

-- ---- a stream that ended

ended-none : (digest : List ℕ → List ℕ) (now : Running) (tail : Tail)
    → ended digest None (Runs now tail) ≡ ended_well digest (Runs now tail)
ended-none digest now tail = by now.is_done
  where
    by : (b : Bool) → cond b (ended_well digest (Runs now tail)) (ended_well digest (Runs now tail))
        ≡ ended_well digest (Runs now tail)
    by true = refl
    by false = refl

finished-kept : (digest : List ℕ → List ℕ) (held : Held)
    → finished digest (Runs held.running (kept held)) ≡ stream_end digest held
finished-kept digest held = by held.running.is_done
  where
    by : (b : Bool)
        → cond b (import_ended [] held.running.workspace)
        (running_end digest held.running (cond b (Rest false []) held.tail))
        ≡ cond b (import_ended [] held.running.workspace) (running_end digest held.running held.tail)
    by true = refl
    by false = refl

module _ (digest : List ℕ → List ℕ) (ph new : OpenStream) (o : Opened) (s : StreamView)
    (p q : Cells) (t u : View) (r v : RefStore) (out out' : List ℕ)
    (is : ph ≡ phase.Running o s) (closed : new ≡ phase.Closed) where
  -- by the answer of its end
  pub took-ended : (fault : Option ℕ)
      → HasEnded digest (held_with s p t r out) fault (repository_in q u v) out'
      → Takes (step_held digest EndCall None (held_in ph p t r)) (end_answer fault) out out'
      (held_in new q u v)
  unfolding kept_tail
  took-ended fault h =
      let held : Held = held_with s p t r out in
      let e = finished-kept digest held in
      rw (is, closed, ended-none digest held.running (kept held))
      (record {
        answered = ap (λ (x : End). end_answer x.fault) e ∙ ap end_answer h.answered;
        printed = h.printed ∙ ap (λ (x : End). out ++ x.reply) (sym e);
        leaves = ap (λ (x : End). Idle x.repository) e ∙ ap Idle h.stands;
      })

  -- or memory ran out at it
  pub took-ran_out : (count : ℕ)
      → RanOutAtEnd (held_with s p t r out) count (repository_in q u v) out'
      → Takes (step_held digest EndCall (Some count) (held_in ph p t r)) (answer.Memory count) out
      out' (held_in new q u v)
  took-ran_out count h =
      rw (is, closed, h.counted, h.running)
      (record {
        answered = refl;
        printed = h.printed ∙ sym (append-nil out);
        leaves = ap Idle h.stands;
      })

-- the repository that a query is asked of
pub saved_is : (ph : OpenStream) (pool : Cells) (table : View) (refs : RefStore) → IsSettled ph table
    → ◌≡◌ {A = Repository} (record { objects = objects pool (take table.committed table.entries); refs = refs })
    (last_held (held_in ph pool table refs))
saved_is ph pool table refs settled =
    given_up ph pool pool table (record table { entries = take table.committed table.entries }) refs settled
    (objects-take pool table.committed table.entries)

-- a query that was answered
told : (defined : Result (List ℕ) Refusal) (held : TenantState) (out out' : List ℕ) → Prints defined out out' (Ok tt)
    → Takes (answered defined held) answer.Ok out out' held
told (Ok text) held out out' printed = record { answered = refl; printed = printed; leaves = refl }
told (Err e) held out out' printed = elim printed [ ]

pub took-told : (digest : List ℕ → List ℕ) (query : List ℕ) (r : Repository) (held : TenantState) (out out' : List ℕ) → r ≡ last_held held
    → Prints (answer_to r query) out out' (Ok tt)
    → Takes (step_held digest (Ask query) None held) answer.Ok out out' held
took-told digest query r held out out' is printed =
    subst (λ (x : Repository). Takes (asked query None x held) answer.Ok out out' held) is
    (told (answer_to r query) held out out' printed)

-- and one that was refused
refused : (defined : Result (List ℕ) Refusal) (held : TenantState) (out out' : List ℕ) (e : Refusal) → e ≢ refusal.Memory
    → Prints defined out out' (Err e) → out' ≡ out
    → Takes (answered defined held) (answer.Fault (code_of e)) out out' held
refused (Ok text) held out out' e other printed same = absurd (other printed)
refused (Err e') held out out' e other printed same = record {
  answered = ap (λ (x : Refusal). answer.Fault (code_of x)) (sym (printed other));
  printed = same ∙ sym (append-nil out);
  leaves = refl;
}

refused_by : (defined : Result (List ℕ) Refusal) (held : TenantState) (out out' : List ℕ) (e : Refusal)
    → Prints defined out out' (Err e) → out' ≡ out
    → Takes (unless_out_of_memory (stop_told (refusal_told e)) held (answered defined held)) (refusal_told e) out out' held
refused_by defined held out out' refusal.Memory printed same =
    record { answered = refl; printed = same ∙ sym (append-nil out); leaves = refl }
refused_by defined held out out' e printed same =
    refused defined held out out' e (λ memory. cc) printed same

pub took-refused_query : (digest : List ℕ → List ℕ) (query : List ℕ) (r : Repository) (held : TenantState) (out out' : List ℕ) (e : Refusal) → r ≡ last_held held
    → Prints (answer_to r query) out out' (Err e) → out' ≡ out
    → Takes (step_held digest (Ask query) (stop_told (refusal_told e)) held) (refusal_told e) out out' held
took-refused_query digest query r held out out' e is printed same =
    subst (λ (x : Repository). Takes (asked query (stop_told (refusal_told e)) x held) (refusal_told e) out out' held) is
    (refused_by (answer_to r query) held out out' e printed same)
