-- What is held of a tenant goes on as its repository and its stream do.
use Rattle.std.proofs.Common.{◌≡◌, ℕ, zero, suc, ◌+◌, Bool, true, false, cond, leb, List, [], ◌∷◌, ◌++◌, length, take, drop, Option, None, Some, Result, Ok, Err, refl, sym, ap, ◌∙◌, arith, append_assoc}
use Rattle.std.proofs.lemmas.Bool.{le-leb, leb-true, leb-false, lt-leb}
use Rattle.std.proofs.lemmas.List.{length-append}
use Rattle.std.proofs.Math.Seq.{take-append-add, drop-append_seam}
use Rattle.std.specs.Option.{option_map}
use Rattle.git_model.specs.Repository.{Repository}
use Rattle.stream_lex.specs.Items.{Item, Tail, Rest, Failed, Reading}
use Rattle.stream_lex.specs.Reading.{reading, walk}
use Rattle.stream_lex.specs.Running.{more_of}
use Rattle.stream_lex.proofs.Walks.{reading-append}
use Rattle.stream_parts.specs.declared.fault.Fault.{Fault}
use Rattle.stream_commands.specs.Workspace.{opened}
use Rattle.import_session.specs.Stream.{Running, Step, StreamStatus, Runs, Refused, Outcome, begun, after_reply, carried, going_on, step, at_tail, last_checkpoint}
use Rattle.tenant_stream.specs.Carrying.{outcome_after}
use Rattle.answers.specs.declared.fault.Fault.{Fault as Refusal}
use Rattle.answers.specs.Answers.{answer_to}
use Rattle.service_steps.specs.declared.answer.Answer.TheVariants as answer
use Rattle.tenant_service.specs.Alone.{Call, Open, Feed, End, Ask, Restart, State, Closed, Streaming, Dead, StepResult, step_result, Stopped, stop_at, stop_after, stream_of, last_of, feed_stop, open_alone, added, fed_by, fed, fed_well, fed_until, ended, closed, last_alone, answered, asked, run_alone}
use Rattle.tenant_service.specs.Headline.{response_of}
use Rattle.tenant_service.specs.TenantState.{TenantState, Idle, Busy, Represents}
use Rattle.tenant_service.specs.HeldObjects.{last_held}
use Rattle.tenant_service.specs.HeldSteps.{standing_answer, gone_on, held_until, open_held, fed_held, step_held}
use Rattle.tenant_stream.proofs.StreamLemmas.{carried-done, carried-tail}

-- ---- items after items

-- what is left of a stream after its last item
at_end : (digest : List ℕ → List ℕ) (s now : Running) (tail kept : Tail) (replies : List ℕ)
    → carried digest s [] tail ≡ record { replies = replies; status = Runs now kept }
    → (s ≡ now) × (replies ≡ []) × (now.is_done ≡ false → kept ≡ tail)
at_end digest s now tail kept replies h = by s.is_done refl tail h
  where
    by : (b : Bool) → s.is_done ≡ b → (t : Tail) → carried digest s [] t ≡ record { replies = replies; status = Runs now kept }
        → (s ≡ now) × (replies ≡ []) × (now.is_done ≡ false → kept ≡ t)
    by true done t e =
        let e' : ◌≡◌ {A = Outcome} (record { replies = []; status = Runs s (Rest false []) }) (record { replies = replies; status = Runs now kept }) =
        sym (carried-done digest s [] t done) ∙ e in
        let st : Runs s (Rest false []) ≡ Runs now kept = ap (λ (o : Outcome). o.status) e' in
        let same : s ≡ now = cc st in
        let none : replies ≡ [] = sym (ap (λ (o : Outcome). o.replies) e') in
        (same, none, λ running. let d : true ≡ false = sym done ∙ ap (λ (r : Running). r.is_done) same ∙ running in cc d)
    by false running (Rest skips bytes) e =
        let e' : ◌≡◌ {A = Outcome} (record { replies = []; status = Runs s (Rest skips bytes) }) (record { replies = replies; status = Runs now kept }) =
        sym (carried-tail digest s (Rest skips bytes) running) ∙ e in
        let st : Runs s (Rest skips bytes) ≡ Runs now kept = ap (λ (o : Outcome). o.status) e' in
        let same : s ≡ now = cc st in
        let tails : kept ≡ Rest skips bytes = cc st in
        let none : replies ≡ [] = sym (ap (λ (o : Outcome). o.replies) e') in
        (same, none, λ _. tails)
    by false running (Failed fault) e =
        let e' = sym (carried-tail digest s (Failed fault) running) ∙ e in
        let st : _ ≡ Runs now kept = ap (λ (o : Outcome). o.status) e' in
        cc st

-- items after those that a stream has carried out are carried out after them
pub carried-more : (digest : List ℕ → List ℕ) (s now : Running) (items later : List Item) (tail end kept : Tail) (replies : List ℕ)
    → carried digest s items tail ≡ record { replies = replies; status = Runs now kept }
    → carried digest s (items ++ later) end ≡ after_reply replies (carried digest now later end)
unfolding carried
carried-more digest s now [] later tail end kept replies h =
    let p = at_end digest s now tail kept replies h in
    ap (λ (r : Running). carried digest r later end) p.0
    ∙ ap (λ (rs : List ℕ). after_reply rs (carried digest now later end)) (sym p.1)
carried-more digest s now (item ∷ items) later tail end kept replies h =
    by (λ r rs e. carried-more digest r now items later tail end kept rs e) (step digest s item) h
  where
    by : ((r : Running) (rs : List ℕ) → carried digest r items tail ≡ record { replies = rs; status = Runs now kept }
        → carried digest r (items ++ later) end ≡ after_reply rs (carried digest now later end))
        → (r : Result Step Fault) → going_on s r (λ next. carried digest next items tail) ≡ record { replies = replies; status = Runs now kept }
        → going_on s r (λ next. carried digest next (items ++ later) end) ≡ after_reply replies (carried digest now later end)
    by onwards (Ok st) e =
        let first = carried digest st.running items tail in
        let status : first.status ≡ Runs now kept = ap (λ (o : Outcome). o.status) e in
        let rest : carried digest st.running items tail ≡ record { replies = first.replies; status = Runs now kept } =
        ap (λ (x : StreamStatus). record { replies = first.replies; status = x }) status in
        let all : st.reply ++ first.replies ≡ replies = ap (λ (o : Outcome). o.replies) e in
        ap (after_reply st.reply) (onwards st.running first.replies rest)
        ∙ ap (λ (rs : List ℕ). record { replies = rs; status = (carried digest now later end).status })
        (sym (append_assoc st.reply first.replies (carried digest now later end).replies) ∙ ap (λ (rs : List ℕ). rs ++ (carried digest now later end).replies) all)
    by onwards (Err fault) e =
        let st : _ ≡ Runs now kept = ap (λ (o : Outcome). o.status) e in
        cc st

-- a stream that runs on keeps the tail of its bytes
pub carried-kept : (digest : List ℕ → List ℕ) (s now : Running) (items : List Item) (tail kept : Tail) (replies : List ℕ)
    → carried digest s items tail ≡ record { replies = replies; status = Runs now kept } → now.is_done ≡ false → kept ≡ tail
unfolding carried
carried-kept digest s now [] tail kept replies h running = (at_end digest s now tail kept replies h).2 running
carried-kept digest s now (item ∷ items) tail kept replies h running =
    by (λ r rs e. carried-kept digest r now items tail kept rs e running) (step digest s item) h
  where
    by : ((r : Running) (rs : List ℕ) → carried digest r items tail ≡ record { replies = rs; status = Runs now kept } → kept ≡ tail)
        → (r : Result Step Fault) → going_on s r (λ next. carried digest next items tail) ≡ record { replies = replies; status = Runs now kept }
        → kept ≡ tail
    by onwards (Ok st) e =
        let first = carried digest st.running items tail in
        let status : first.status ≡ Runs now kept = ap (λ (o : Outcome). o.status) e in
        onwards st.running first.replies (ap (λ (x : StreamStatus). record { replies = first.replies; status = x }) status)
    by onwards (Err fault) e =
        let st : _ ≡ Runs now kept = ap (λ (o : Outcome). o.status) e in
        cc st

-- ---- bytes after bytes

-- the bytes since Open, by where they led
abbrev so_far : (List ℕ → List ℕ) → Repository → List ℕ → Running → Tail → Type 0
so_far digest repository bytes now kept = (stream_of digest repository bytes).status ≡ Runs now kept

status-so_far : (digest : List ℕ → List ℕ) (repository : Repository) (bytes : List ℕ) (now : Running) (kept : Tail)
    → so_far digest repository bytes now kept
    → carried digest (begun (opened repository)) (reading false bytes).items (reading false bytes).tail
    ≡ record { replies = (stream_of digest repository bytes).replies; status = Runs now kept }
unfolding stream_of
status-so_far digest repository bytes now kept h =
    ap (λ (x : StreamStatus). record { replies = (carried digest (begun (opened repository)) (reading false bytes).items (reading false bytes).tail).replies; status = x }) h

-- a stream goes on from where it stands
pub stream-more : (digest : List ℕ → List ℕ) (repository : Repository) (bytes piece : List ℕ) (now : Running) (kept : Tail)
    → so_far digest repository bytes now kept
    → stream_of digest repository (bytes ++ piece) ≡ after_reply (stream_of digest repository bytes).replies (outcome_after digest now kept piece)
unfolding stream_of
stream-more digest repository bytes piece now kept h =
    let old = reading false bytes in
    let more = more_of old.tail piece in
    let stands = status-so_far digest repository bytes now kept h in
    ap (λ (r : Reading). carried digest (begun (opened repository)) r.items r.tail) (reading-append bytes piece false)
    ∙ carried-more digest (begun (opened repository)) now old.items more.items old.tail more.tail kept _ stands
    ∙ ap (after_reply (carried digest (begun (opened repository)) old.items old.tail).replies) (by now.is_done refl)
  where
    by : (b : Bool) → now.is_done ≡ b
        → carried digest now (more_of (reading false bytes).tail piece).items (more_of (reading false bytes).tail piece).tail ≡ outcome_after digest now kept piece
    by true done =
        carried-done digest now (more_of (reading false bytes).tail piece).items (more_of (reading false bytes).tail piece).tail done
        ∙ sym (carried-done digest now (more_of kept piece).items (more_of kept piece).tail done)
    by false running =
        ap (λ (t : Tail). carried digest now (more_of t piece).items (more_of t piece).tail)
        (sym (carried-kept digest (begun (opened repository)) now (reading false bytes).items (reading false bytes).tail kept _ (status-so_far digest repository bytes now kept h) running))

-- ---- stops

-- a stop whose replies stand after others
abbrev after_replies : List ℕ → Stopped → Stopped
after_replies replies stopped = record { replies = replies ++ stopped.replies; repository = stopped.repository }

stop_at-after : (replies rs : List ℕ) (status : StreamStatus) → stop_at (replies ++ rs) status ≡ option_map (after_replies replies) (stop_at rs status)
stop_at-after replies rs (Runs now tail) = by now.is_done
  where
    by : (b : Bool) → cond b None (Some (record { replies = replies ++ rs; repository = last_checkpoint now.workspace }))
        ≡ option_map (after_replies replies) (cond b None (Some (record { replies = rs; repository = last_checkpoint now.workspace })))
    by true = refl
    by false = refl
stop_at-after replies rs (Refused code repository) = refl

-- a stop after items that a stream has carried out is one of the stream from there
stop-more : (digest : List ℕ → List ℕ) (s now : Running) (items later : List Item) (tail kept : Tail) (replies : List ℕ) (count : ℕ)
    → carried digest s items tail ≡ record { replies = replies; status = Runs now kept }
    → stop_after digest s (items ++ later) (length items + count) ≡ option_map (after_replies replies) (stop_after digest now later count)
unfolding stop_after
stop-more digest s now items later tail kept replies count h = by (leb count (length later)) refl
  where
    all : List Item
    all = take (length items + count) (items ++ later)

    first : carried digest s all (Rest false []) ≡ after_reply replies (carried digest now (take count later) (Rest false []))
    first =
        ap (λ (is : List Item). carried digest s is (Rest false [])) (take-append-add items later count)
        ∙ carried-more digest s now items (take count later) tail (Rest false []) kept replies h

    by : (b : Bool) → leb count (length later) ≡ b
        → cond (leb (length items + count) (length (items ++ later))) (stop_at (carried digest s all (Rest false [])).replies (carried digest s all (Rest false [])).status) None
        ≡ option_map (after_replies replies)
        (cond b (stop_at (carried digest now (take count later) (Rest false [])).replies (carried digest now (take count later) (Rest false [])).status) None)
    by true within =
        let le = leb-true count (length later) within in
        let n = length-append items later in
        let within' : leb (length items + count) (length (items ++ later)) ≡ true = le-leb _ _ (omega arith) in
        ap (λ (x : Bool). cond x (stop_at (carried digest s all (Rest false [])).replies (carried digest s all (Rest false [])).status) None) within'
        ∙ ap (λ (o : Outcome). stop_at o.replies o.status) first
        ∙ stop_at-after replies (carried digest now (take count later) (Rest false [])).replies (carried digest now (take count later) (Rest false [])).status
    by false beyond =
        let lt = leb-false count (length later) beyond in
        let n = length-append items later in
        let beyond' : leb (length items + count) (length (items ++ later)) ≡ false = lt-leb _ _ (omega arith) in
        ap (λ (x : Bool). cond x (stop_at (carried digest s all (Rest false [])).replies (carried digest s all (Rest false [])).status) None) beyond'

-- after `done` there is no stop
stop-done : (digest : List ℕ → List ℕ) (now : Running) (items : List Item) (count : ℕ) → now.is_done ≡ true → stop_after digest now items count ≡ None
unfolding stop_after
stop-done digest now items count done = by (leb count (length items))
  where
    none : stop_at (carried digest now (take count items) (Rest false [])).replies (carried digest now (take count items) (Rest false [])).status ≡ None
    none =
        ap (λ (o : Outcome). stop_at o.replies o.status) (carried-done digest now (take count items) (Rest false []) done)
        ∙ ap (λ (b : Bool). cond b None (Some (record { replies = []; repository = last_checkpoint now.workspace }))) done

    by : (b : Bool) → cond b (stop_at (carried digest now (take count items) (Rest false [])).replies (carried digest now (take count items) (Rest false [])).status) None ≡ None
    by true = none
    by false = refl

-- a stop of a Feed is one of the stream from where it stands
pub feed_stop-more : (digest : List ℕ → List ℕ) (repository : Repository) (bytes piece : List ℕ) (count : ℕ) (now : Running) (kept : Tail)
    → so_far digest repository bytes now kept
    → feed_stop digest repository bytes piece count
    ≡ option_map (after_replies (stream_of digest repository bytes).replies) (stop_after digest now (more_of kept piece).items count)
feed_stop-more digest repository bytes piece count now kept h =
    ap (λ (r : Reading). stop_after digest (begun (opened repository)) r.items (length (reading false bytes).items + count)) (reading-append bytes piece false)
    ∙ stop-more digest (begun (opened repository)) now (reading false bytes).items (more_of (reading false bytes).tail piece).items (reading false bytes).tail kept _ count stands
    ∙ ap (option_map (after_replies (stream_of digest repository bytes).replies)) (by now.is_done refl)
  where
    stands : carried digest (begun (opened repository)) (reading false bytes).items (reading false bytes).tail
        ≡ record { replies = (stream_of digest repository bytes).replies; status = Runs now kept }
    stands = status-so_far digest repository bytes now kept h

    by : (b : Bool) → now.is_done ≡ b
        → stop_after digest now (more_of (reading false bytes).tail piece).items count ≡ stop_after digest now (more_of kept piece).items count
    by true done = stop-done digest now (more_of (reading false bytes).tail piece).items count done ∙ sym (stop-done digest now (more_of kept piece).items count done)
    by false running =
        ap (λ (t : Tail). stop_after digest now (more_of t piece).items count)
        (sym (carried-kept digest (begun (opened repository)) now (reading false bytes).items (reading false bytes).tail kept _ stands running))

-- ---- one call

-- a call on a repository of its own and the same call on what is held tell the same, and lead to the same
pub record Meets (digest : List ℕ → List ℕ) (alone : StepResult State) (held : StepResult TenantState) : Type 0 where
  pub told : response_of alone ≡ response_of held
  pub leads : Represents digest alone.state held.state

fed-goes : (digest : List ℕ → List ℕ) (repository : Repository) (all before : List ℕ) (later : Outcome)
    → stream_of digest repository all ≡ after_reply before later
    → Meets digest (fed_by repository all (added before (stream_of digest repository all).replies) (stream_of digest repository all).status) (gone_on repository later)
fed-goes digest repository all before later is =
    rw is (by later.status refl)
  where
    adds : drop (length before) (before ++ later.replies) ≡ later.replies
    adds = drop-append_seam before later.replies

    by : (x : StreamStatus) → later.status ≡ x
        → Meets digest (fed_by repository all (drop (length before) (before ++ later.replies)) x)
        (step_result (standing_answer x) later.replies (Busy repository x))
    by (Runs now tail) stands = record {
      told = ap (λ (rs : List ℕ). record { answer = answer.Ok; reply = rs }) adds;
      leads = (refl, ap (λ (o : Outcome). o.status) is ∙ stands);
    }
    by (Refused code left) stands = record {
      told = ap (λ (rs : List ℕ). record { answer = answer.Fault code; reply = rs }) adds;
      leads = refl;
    }

fed-meets-well : (digest : List ℕ → List ℕ) (repository : Repository) (bytes piece : List ℕ) (now : Running) (kept : Tail)
    → so_far digest repository bytes now kept
    → Meets digest (fed_well digest repository bytes piece) (gone_on repository (outcome_after digest now kept piece))
fed-meets-well digest repository bytes piece now kept h =
    fed-goes digest repository (bytes ++ piece) (stream_of digest repository bytes).replies (outcome_after digest now kept piece)
    (stream-more digest repository bytes piece now kept h)

fed-meets : (digest : List ℕ → List ℕ) (repository : Repository) (bytes piece : List ℕ) (stop : Option ℕ) (now : Running) (kept : Tail)
    → so_far digest repository bytes now kept
    → Meets digest (fed digest stop repository bytes piece) (fed_held digest piece stop repository now kept)
fed-meets digest repository bytes piece None now kept h = fed-meets-well digest repository bytes piece now kept h
fed-meets digest repository bytes piece (Some count) now kept h =
    by (feed_stop digest repository bytes piece count) (stop_after digest now (more_of kept piece).items count)
    (feed_stop-more digest repository bytes piece count now kept h)
  where
    before : List ℕ
    before = (stream_of digest repository bytes).replies

    by : (alone held : Option Stopped) → alone ≡ option_map (after_replies before) held
        → Meets digest (fed_until before count alone (fed_well digest repository bytes piece)) (held_until repository count held (gone_on repository (outcome_after digest now kept piece)))
    by alone None is =
        rw is
        (fed-meets-well digest repository bytes piece now kept h)
    by alone (Some stopped) is =
        rw is
        (record {
          told = ap (λ (rs : List ℕ). record { answer = answer.Memory count; reply = rs }) (drop-append_seam before stopped.replies);
          leads = refl;
        })

ended-leads : (digest : List ℕ → List ℕ) (t : StepResult Repository) → Meets digest (closed Closed t) (closed Idle t)
ended-leads digest t = record { told = refl; leads = refl }

opened-leads : (digest : List ℕ → List ℕ) (stop : Option ℕ) (repository : Repository)
    → Meets digest (open_alone stop (Closed repository)) (open_held stop (Idle repository))
unfolding stream_of carried walk at_tail
opened-leads digest None repository = record { told = refl; leads = (refl, refl) }
opened-leads digest (Some zero) repository = record { told = refl; leads = refl }
opened-leads digest (Some (suc count)) repository = record { told = refl; leads = (refl, refl) }

-- what leads to what is held leads to its last checkpoint
pub last-leads : (digest : List ℕ → List ℕ) (state : State) (held : TenantState) → Represents digest state held → last_alone digest state ≡ last_held held
last-leads digest (Closed r) (Idle r') h = h
last-leads digest (Streaming r bytes) (Busy opened (Runs now tail)) h = ap last_of h.1
last-leads digest (Dead code r) (Busy opened status) h = sym (ap last_of h)
last-leads digest (Closed r) (Busy opened status) h = elim h [ ]
last-leads digest (Streaming r bytes) (Idle r') h = elim h [ ]
last-leads digest (Streaming r bytes) (Busy opened (Refused _ _)) h = elim h [ ]
last-leads digest (Dead code r) (Idle r') h = elim h [ ]

-- a query, by its answer
answered-meets : (digest : List ℕ → List ℕ) (result : Result (List ℕ) Refusal) (state : State) (held : TenantState) → Represents digest state held
    → Meets digest (answered result state) (answered result held)
answered-meets digest (Ok text) state held h = record { told = refl; leads = h }
answered-meets digest (Err refusal) state held h = record { told = refl; leads = h }

asked-leads : (digest : List ℕ → List ℕ) (query : List ℕ) (stop : Option ℕ) (r : Repository) (state : State) (held : TenantState) → Represents digest state held
    → Meets digest (asked query stop r state) (asked query stop r held)
asked-leads digest query None r state held h = answered-meets digest (answer_to r query) state held h
asked-leads digest query (Some zero) r state held h = record { told = refl; leads = h }
asked-leads digest query (Some (suc count)) r state held h = answered-meets digest (answer_to r query) state held h

asked-meets : (digest : List ℕ → List ℕ) (query : List ℕ) (stop : Option ℕ) (state : State) (held : TenantState) → Represents digest state held
    → Meets digest (asked query stop (last_alone digest state) state) (asked query stop (last_held held) held)
asked-meets digest query stop state held h =
    rw (← (last-leads digest state held h))
    (asked-leads digest query stop (last_alone digest state) state held h)

pub meets : (digest : List ℕ → List ℕ) (call : Call) (stop : Option ℕ) (state : State) (held : TenantState) → Represents digest state held
    → Meets digest (run_alone digest call stop state) (step_held digest call stop held)
meets digest Open stop (Closed r) (Idle r') h = rw (← h) (opened-leads digest stop r)
meets digest Open stop (Streaming r bytes) (Busy opened (Runs now tail)) h = record { told = refl; leads = h }
meets digest Open stop (Dead code r) (Busy opened status) h = record { told = refl; leads = h }
meets digest (Feed piece) stop (Closed r) (Idle r') h = record { told = refl; leads = h }
meets digest (Feed piece) stop (Streaming r bytes) (Busy opened (Runs now tail)) h =
    rw (← h.0)
    (fed-meets digest r bytes piece stop now tail h.1)
meets digest (Feed piece) stop (Dead code r) (Busy opened status) h =
    rw h (record { told = refl; leads = refl })
meets digest End stop (Closed r) (Idle r') h = record { told = refl; leads = h }
meets digest End stop (Streaming r bytes) (Busy opened (Runs now tail)) h =
    rw h.1 (ended-leads digest (ended digest stop (Runs now tail)))
meets digest End stop (Dead code r) (Busy opened status) h =
    rw h (ended-leads digest (ended digest stop (Refused code r)))
meets digest (Ask query) stop state held h = asked-meets digest query stop state held h
meets digest Restart stop state held h = record { told = refl; leads = last-leads digest state held h }
meets digest Open stop (Closed r) (Busy opened status) h = elim h [ ]
meets digest Open stop (Streaming r bytes) (Idle r') h = elim h [ ]
meets digest Open stop (Streaming r bytes) (Busy opened (Refused _ _)) h = elim h [ ]
meets digest Open stop (Dead code r) (Idle r') h = elim h [ ]
meets digest (Feed piece) stop (Closed r) (Busy opened status) h = elim h [ ]
meets digest (Feed piece) stop (Streaming r bytes) (Idle r') h = elim h [ ]
meets digest (Feed piece) stop (Streaming r bytes) (Busy opened (Refused _ _)) h = elim h [ ]
meets digest (Feed piece) stop (Dead code r) (Idle r') h = elim h [ ]
meets digest End stop (Closed r) (Busy opened status) h = elim h [ ]
meets digest End stop (Streaming r bytes) (Idle r') h = elim h [ ]
meets digest End stop (Streaming r bytes) (Busy opened (Refused _ _)) h = elim h [ ]
meets digest End stop (Dead code r) (Idle r') h = elim h [ ]
