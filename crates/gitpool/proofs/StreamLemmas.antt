-- A stream over a repository as more bytes come: fronts of what it prints, and when no byte counts.
use Rattle.std.proofs.Common.{◌≡◌, ℕ, Bool, true, false, cond, leb, List, [], ◌∷◌, ◌++◌, length, take, drop, Option, None, Some, Result, Ok, Err, refl, sym, ap, subst, ◌∙◌, append_assoc, append-nil}
use Rattle.std.proofs.lemmas.List.{take-append-drop}
use Rattle.std.proofs.Math.Seq.{drop-append_seam}
use Rattle.std.specs.Option.{option_map}
use Rattle.std.specs.Io.KnownBytes.{Appends}
use Rattle.git_model.specs.Repository.{Repository}
use Rattle.git_objects.specs.Device.{AppendsFront}
use Rattle.stream_lex.specs.Items.{Item, Tail, Rest, Failed, Reading}
use Rattle.stream_lex.specs.Reading.{reading, walk}
use Rattle.stream_lex.specs.Running.{more_of}
use Rattle.stream_lex.proofs.Walks.{reading-append}
use Rattle.stream_parts.specs.declared.fault.Fault.{Fault}
use Rattle.stream_commands.specs.Workspace.{opened}
use Rattle.import_session.specs.Stream.{Running, Step, StreamStatus, Runs, Refused, Outcome, begun, after_reply, carried, going_on, step, at_tail, tail_outcome, last_checkpoint}
use Rattle.tenant_stream.specs.Carrying.{outcome_after}
use Rattle.tenant_stream.proofs.StreamLemmas.{carried-done}
use Rattle.tenant_service.specs.Alone.{Stopped, Streaming, stop_at, stop_after, stream_of, feed_stop, added}
use Rattle.tenant_service.specs.TenantState.{TenantState, Idle, Busy, Represents}
use Rattle.tenant_service.specs.HeldObjects.{has_read_done}
use Rattle.tenant_service.proofs.OwnLemmas.{stream-more, feed_stop-more}
use Rattle.gitpool.specs.Import.{IsSettled, AsksForMore}
use Rattle.gitpool.specs.Importing.{replies_to}

-- ---- fronts

-- what was printed is a prefix of all replies
pub record IsFront (whole out : List ℕ) : Type 0 where
  pub rest : List ℕ
  pub parts : whole ≡ out ++ rest

nothing-first : (whole : List ℕ) → IsFront whole []
nothing-first whole = record { rest = whole; parts = refl }

pub front-whole : (whole out : List ℕ) → out ≡ whole → IsFront whole out
front-whole whole out is = record { rest = []; parts = sym (append-nil out ∙ is) }

pub front_of_front : (a b : Option (List ℕ)) (out whole : List ℕ) → AppendsFront a b out → IsFront whole out → AppendsFront a b whole
front_of_front a b out whole f w = record {
  front = f.front;
  rest = f.rest ++ w.rest;
  parts = w.parts ∙ ap (λ l. l ++ w.rest) f.parts ∙ append_assoc f.front f.rest w.rest;
  appends = f.appends;
}

pub whole_front : (a b : Option (List ℕ)) (out whole : List ℕ) → Appends a b out → IsFront whole out → AppendsFront a b whole
whole_front a b out whole appends w = record { front = out; rest = w.rest; parts = w.parts; appends = appends }

-- a front of a stream prints a front of what all of it prints
at-tail-first : (now : Running) (tail : Tail) (whole : List ℕ) → IsFront whole (at_tail now tail).replies
unfolding at_tail
at-tail-first now tail whole = by now.is_done tail
  where
    by : (b : Bool) (t : Tail) → IsFront whole (cond b (record { replies = []; status = Runs now (Rest false []) }) (tail_outcome now t)).replies
    by true t = nothing-first whole
    by false (Rest skips bytes) = nothing-first whole
    by false (Failed f) = nothing-first whole

pub carried-first : (digest : List ℕ → List ℕ) (now : Running) (items more : List Item) (tail tail' : Tail)
    → IsFront (carried digest now (items ++ more) tail').replies (carried digest now items tail).replies
unfolding carried
carried-first digest now [] more tail tail' = at-tail-first now tail _
carried-first digest now (item ∷ items) more tail tail' =
    by (λ next. carried-first digest next items more tail tail') (step digest now item)
  where
    by : ((next : Running) → IsFront (carried digest next (items ++ more) tail').replies (carried digest next items tail).replies)
        → (taken : Result Step Fault)
        → IsFront (going_on now taken (λ next. carried digest next (items ++ more) tail')).replies
        (going_on now taken (λ next. carried digest next items tail)).replies
    by rest (Ok s) =
        let later = rest s.running in
        record {
          rest = later.rest;
          parts = ap (λ (l : List ℕ). s.reply ++ l) later.parts ∙ sym (append_assoc s.reply _ later.rest);
        }
    by rest (Err f) = nothing-first _

pub stream-first : (digest : List ℕ → List ℕ) (repository : Repository) (bytes more : List ℕ)
    → IsFront (stream_of digest repository (bytes ++ more)).replies (stream_of digest repository bytes).replies
unfolding stream_of
stream-first digest repository bytes more =
    let first = reading false bytes in
    let later = more_of first.tail more in
    subst (λ (r : Reading). IsFront (carried digest (begun (opened repository)) r.items r.tail).replies (stream_of digest repository bytes).replies)
    (sym (reading-append bytes more false))
    (carried-first digest (begun (opened repository)) first.items later.items first.tail later.tail)

-- ---- a stream that runs

-- what is held of a stream of these bytes that runs
pub record Stands (digest : List ℕ → List ℕ) (repository : Repository) (bytes : List ℕ) (held : TenantState) : Type 0 where
  pub now : Running
  pub kept : Tail
  pub is : held ≡ Busy repository (Runs now kept)
  pub stands : (stream_of digest repository bytes).status ≡ Runs now kept

pub stands-so : (digest : List ℕ → List ℕ) (repository : Repository) (bytes : List ℕ) (held : TenantState)
    → Represents digest (Streaming repository bytes) held → Stands digest repository bytes held
stands-so digest repository bytes (Idle r) leads = absurd leads
stands-so digest repository bytes (Busy opened (Runs now tail)) leads =
    record { now = now; kept = tail; is = ap (λ (r : Repository). Busy r (Runs now tail)) (sym leads.0); stands = leads.1 }
stands-so digest repository bytes (Busy opened (Refused code r)) leads = absurd leads

-- before its first byte
new-status : (digest : List ℕ → List ℕ) (repository : Repository)
    → (stream_of digest repository []).status ≡ Runs (begun (opened repository)) (Rest false [])
unfolding stream_of carried walk at_tail
new-status digest repository = refl

pub new-replies : (digest : List ℕ → List ℕ) (repository : Repository) → (stream_of digest repository []).replies ≡ []
unfolding stream_of carried walk at_tail
new-replies digest repository = refl

pub new-running : (digest : List ℕ → List ℕ) (repository : Repository) (held : TenantState)
    → Represents digest (Streaming repository []) held → has_read_done held ≡ false
new-running digest repository held leads =
    let s = stands-so digest repository [] held leads in
    let both : Runs s.now s.kept ≡ Runs (begun (opened repository)) (Rest false []) = sym s.stands ∙ new-status digest repository in
    let now : s.now ≡ begun (opened repository) = cc both in
    ap has_read_done s.is ∙ ap (λ (r : Running). r.is_done) now

pub asks-for-more : (digest : List ℕ → List ℕ) (repository : Repository) (bytes : List ℕ) (held : TenantState)
    → Represents digest (Streaming repository bytes) held → has_read_done held ≡ false
    → AsksForMore (stream_of digest repository bytes).status
asks-for-more digest repository bytes held leads running =
    let s = stands-so digest repository bytes held leads in
    subst AsksForMore (sym s.stands) (sym (ap has_read_done s.is) ∙ running)

-- ---- one piece more

module _ (digest : List ℕ → List ℕ) (repository : Repository) (bytes piece : List ℕ) (held : TenantState)
    (s : Stands digest repository bytes held) where
  abbrev before : List ℕ
  before = (stream_of digest repository bytes).replies

  abbrev later : Outcome
  later = outcome_after digest s.now s.kept piece

  goes-on : stream_of digest repository (bytes ++ piece) ≡ after_reply before later
  goes-on = stream-more digest repository bytes piece s.now s.kept s.stands

  pub replies-later : replies_to digest repository bytes piece ≡ later.replies
  replies-later = ap (λ (o : Outcome). added before o.replies) goes-on ∙ drop-append_seam before later.replies

  -- all replies are those before, and those to the piece
  pub replies-whole : (stream_of digest repository (bytes ++ piece)).replies ≡ before ++ replies_to digest repository bytes piece
  replies-whole = ap (λ (o : Outcome). o.replies) goes-on ∙ ap (λ (l : List ℕ). before ++ l) (sym replies-later)

-- the replies up to a stop are a front
stopped-first : (digest : List ℕ → List ℕ) (now : Running) (items : List Item) (tail : Tail) (count : ℕ) (stopped : Stopped)
    → stop_after digest now items count ≡ Some stopped → IsFront (carried digest now items tail).replies stopped.replies
unfolding stop_after
stopped-first digest now items tail count stopped is = by (leb count (length items)) is
  where
    first : Outcome
    first = carried digest now (take count items) (Rest false [])

    front : IsFront (carried digest now items tail).replies first.replies
    front =
        subst (λ (all : List Item). IsFront (carried digest now all tail).replies first.replies) (take-append-drop count items)
        (carried-first digest now (take count items) (drop count items) (Rest false []) tail)

    at : (replies : List ℕ) (status : StreamStatus) → stop_at replies status ≡ Some stopped → replies ≡ stopped.replies
    at replies (Runs next kept) e = of next.is_done e
      where
        of : (b : Bool) → cond b None (Some (record { replies = replies; repository = last_checkpoint next.workspace })) ≡ Some stopped
            → replies ≡ stopped.replies
        of true e = cc e
        of false e = cc e
    at replies (Refused code r) e = cc e

    by : (b : Bool) → cond b (stop_at first.replies first.status) None ≡ Some stopped
        → IsFront (carried digest now items tail).replies stopped.replies
    by true e = subst (IsFront (carried digest now items tail).replies) (at first.replies first.status e) front
    by false e = cc e

-- what a stop tells is a front of the replies to the piece
pub stop-front : (digest : List ℕ → List ℕ) (repository : Repository) (bytes piece : List ℕ) (held : TenantState) (count : ℕ) (stopped : Stopped)
    → Stands digest repository bytes held → feed_stop digest repository bytes piece count ≡ Some stopped
    → IsFront (replies_to digest repository bytes piece) (added (stream_of digest repository bytes).replies stopped.replies)
stop-front digest repository bytes piece held count stopped s is =
    by (stop_after digest s.now (more_of s.kept piece).items count) refl
    (sym (feed_stop-more digest repository bytes piece count s.now s.kept s.stands) ∙ is)
  where
    before : List ℕ
    before = (stream_of digest repository bytes).replies

    by : (o : Option Stopped) → stop_after digest s.now (more_of s.kept piece).items count ≡ o
        → option_map (λ (x : Stopped). record { replies = before ++ x.replies; repository = x.repository }) o ≡ Some stopped
        → IsFront (replies_to digest repository bytes piece) (added before stopped.replies)
    by None stops e = cc e
    by (Some x) stops e =
        let all : before ++ x.replies ≡ stopped.replies = cc e in
        let adds : x.replies ≡ added before stopped.replies =
        sym (drop-append_seam before x.replies) ∙ ap (added before) all in
        subst (IsFront (replies_to digest repository bytes piece)) adds
        (subst (λ (l : List ℕ). IsFront l x.replies) (sym (replies-later digest repository bytes piece held s))
        (stopped-first digest s.now (more_of s.kept piece).items (more_of s.kept piece).tail count x stops))

-- ---- no later byte counts

-- after `done`
pub settled-done : (digest : List ℕ → List ℕ) (repository : Repository) (bytes : List ℕ) (held : TenantState)
    → Represents digest (Streaming repository bytes) held → has_read_done held ≡ true → IsSettled digest repository bytes
settled-done digest repository bytes held leads done more =
    goes more ∙ sym (goes []) ∙ ap (stream_of digest repository) (append-nil bytes)
  where
    s : Stands digest repository bytes held
    s = stands-so digest repository bytes held leads

    goes : (more : List ℕ) → stream_of digest repository (bytes ++ more)
        ≡ after_reply (stream_of digest repository bytes).replies (record { replies = []; status = Runs s.now (Rest false []) })
    goes more =
        stream-more digest repository bytes more s.now s.kept s.stands
        ∙ ap (after_reply (stream_of digest repository bytes).replies)
        (carried-done digest s.now (more_of s.kept more).items (more_of s.kept more).tail (sym (ap has_read_done s.is) ∙ done))

-- after a refusal
carried-refused : (digest : List ℕ → List ℕ) (now : Running) (items : List Item) (tail : Tail) (more : List ℕ) (code : ℕ) (left : Repository)
    → (carried digest now items tail).status ≡ Refused code left
    → carried digest now (items ++ (more_of tail more).items) (more_of tail more).tail ≡ carried digest now items tail
unfolding carried at_tail
carried-refused digest now [] (Failed f) more code left refused = refl
carried-refused digest now [] (Rest skips bytes) more code left refused = by now.is_done refused
  where
    by : (b : Bool)
        → (cond b (record { replies = []; status = Runs now (Rest false []) }) (tail_outcome now (Rest skips bytes))).status ≡ Refused code left
        → carried digest now ([] ++ (more_of (Rest skips bytes) more).items) (more_of (Rest skips bytes) more).tail ≡ carried digest now [] (Rest skips bytes)
    by true e = cc e
    by false e = cc e
carried-refused digest now (item ∷ items) tail more code left refused =
    by (λ next. carried-refused digest next items tail more code left) (step digest now item) refused
  where
    by : ((next : Running) → (carried digest next items tail).status ≡ Refused code left
        → carried digest next (items ++ (more_of tail more).items) (more_of tail more).tail ≡ carried digest next items tail)
        → (taken : Result Step Fault) → (going_on now taken (λ next. carried digest next items tail)).status ≡ Refused code left
        → going_on now taken (λ next. carried digest next (items ++ (more_of tail more).items) (more_of tail more).tail)
        ≡ going_on now taken (λ next. carried digest next items tail)
    by rest (Ok s) e = ap (after_reply s.reply) (rest s.running e)
    by rest (Err f) e = refl

pub settled-refused : (digest : List ℕ → List ℕ) (repository : Repository) (bytes : List ℕ) (code : ℕ) (left : Repository)
    → (stream_of digest repository bytes).status ≡ Refused code left → IsSettled digest repository bytes
unfolding stream_of
settled-refused digest repository bytes code left refused more =
    ap (λ (r : Reading). carried digest (begun (opened repository)) r.items r.tail) (reading-append bytes more false)
    ∙ carried-refused digest (begun (opened repository)) (reading false bytes).items (reading false bytes).tail more code left refused
