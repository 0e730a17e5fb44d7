-- Steps of one tenant: which calls a run is of, what each is told, and what it leaves.
use Rattle.std.proofs.Common.{◌≡◌, ℕ, zero, suc, Bool, true, false, ◌&&◌, not, cond, List, [], ◌∷◌, ◌++◌, map, Option, None, Some, refl, sym, ap, subst, ◌∙◌, append-nil}
use Rattle.std.proofs.lemmas.List.{map-append}
use Rattle.std.proofs.lemmas.Grind.{flat_map-append}
use Rattle.std.proofs.lemmas.Slice.Eq.{bytes_eq-Decides}
use Rattle.std.specs.List.{flat_map}
use Rattle.std.specs.Str.{bytes_eq}
use Rattle.git_model.specs.Repository.{Repository}
use Rattle.stream_lex.specs.Items.{Tail}
use Rattle.import_session.specs.Stream.{Running, StreamStatus, Runs, Refused, End as StreamEnd, finished, last_checkpoint}
use Rattle.service_steps.specs.declared.answer.Answer.{Answer}
use Rattle.service_steps.specs.declared.answer.Answer.TheVariants as answer
use Rattle.service_steps.specs.declared.step.Step.{Step}
use Rattle.service_steps.specs.declared.step.Step.TheVariants as step
use Rattle.tenant_refs.specs.TenantName.{is_tenant_name}
use Rattle.tenant_service.specs.Alone.{Call, Open, Feed, End, State, Closed, Streaming, Dead, StepResult, Stopped, run_alone, open_alone, fed_by, fed_until, fed_well, feed_stop, stream_of, added, ended, ended_well, end_answer, unless_out_of_memory}
use Rattle.tenant_service.specs.Headline.{Response, response_in, IsIsolated, IsRefused, has_bad_name, concerns, call_of, stop_told, part_of, steps_of, response_of, told_alone, left_alone}
use Rattle.tenant_service.specs.StepName.{name_of}
use Rattle.tenant_service.specs.TenantState.{TenantState, Idle, Busy, TenantStates, Represents, held_of}
use Rattle.tenant_service.proofs.AccountLemmas.{all_whole}
use Rattle.tenant_service.proofs.RunLemmas.{own-more, own-none}
use Rattle.gitpool.specs.Import.{end_in}
use Rattle.gitpool.specs.Importing.{CanOpen, IsStreaming, HasTakenCalls, HasFed, HasImported, stream_calls, replies_to, open_refusal, stream_refusal}
use Rattle.gitpool.proofs.StreamLemmas.{IsFront, Stands, stands-so, front-whole, stop-front}

-- ---- which calls

pub calls-one : (digest : List ℕ → List ℕ) (tenant : List ℕ) (before after : TenantStates) (s : Step) (told : Response) (call : Call)
    → name_of s ≡ tenant → call_of s ≡ call
    → ((name : List ℕ) → IsIsolated digest name (held_of name before) ((s, told) ∷ []) (held_of name after))
    → HasTakenCalls digest tenant before after (call ∷ [])
calls-one digest tenant before after s told call named is own = record {
  run = (s, told) ∷ [];
  is = record { named = (named, tt); are = ap (λ (c : Call). c ∷ []) is };
  own = own;
}

pub calls-more : (digest : List ℕ → List ℕ) (tenant : List ℕ) (before between after : TenantStates) (first later : List Call)
    → HasTakenCalls digest tenant before between first → HasTakenCalls digest tenant between after later
    → HasTakenCalls digest tenant before after (first ++ later)
calls-more digest tenant before between after first later f l = record {
  run = f.run ++ l.run;
  is = record {
    named = all_whole (λ (taken : Step × Response). name_of taken.0 ≡ tenant) f.run l.run f.is.named l.is.named;
    are = map-append (λ (taken : Step × Response). call_of taken.0) f.run l.run
        ∙ ap (λ (cs : List Call). cs ++ map (λ (taken : Step × Response). call_of taken.0) l.run) f.is.are
        ∙ ap (λ (cs : List Call). first ++ cs) l.is.are;
  };
  own = λ name. own-more digest name (held_of name before) (held_of name between) (held_of name after) f.run l.run (f.own name) (l.own name);
}

pub fed-none : (digest : List ℕ → List ℕ) (tenant : List ℕ) (held : TenantStates) → HasFed digest tenant held held false []
fed-none digest tenant held = record {
  pieces = [];
  parts = refl;
  taken = record {
    run = [];
    is = record { named = tt; are = refl };
    own = λ name. own-none digest name (held_of name held);
  };
}

pub fed-more : (digest : List ℕ → List ℕ) (tenant : List ℕ) (before between after : TenantStates) (bytes piece : List ℕ)
    → HasFed digest tenant before between false bytes → HasTakenCalls digest tenant between after (Feed piece ∷ [])
    → HasFed digest tenant before after false (bytes ++ piece)
fed-more digest tenant before between after bytes piece f more = record {
  pieces = f.pieces ++ piece ∷ [];
  parts = flat_map-append (λ (p : List ℕ). p) f.pieces (piece ∷ [])
      ∙ ap (λ (l : List ℕ). flat_map (λ (p : List ℕ). p) f.pieces ++ l) (append-nil piece)
      ∙ ap (λ (l : List ℕ). l ++ piece) f.parts;
  taken = subst (HasTakenCalls digest tenant before after)
      (ap (λ (cs : List Call). cs ++ Feed piece ∷ []) (append-nil (map Feed f.pieces))
      ∙ sym (map-append Feed f.pieces (piece ∷ []))
      ∙ sym (append-nil (map Feed (f.pieces ++ piece ∷ []))))
      (calls-more digest tenant before between after (stream_calls f.pieces false) (Feed piece ∷ []) f.taken more);
}

pub fed-ended : (digest : List ℕ → List ℕ) (tenant : List ℕ) (before between after : TenantStates) (bytes : List ℕ)
    → HasFed digest tenant before between false bytes → HasTakenCalls digest tenant between after (End ∷ [])
    → HasFed digest tenant before after true bytes
fed-ended digest tenant before between after bytes f more = record {
  pieces = f.pieces;
  parts = f.parts;
  taken = subst (HasTakenCalls digest tenant before after)
      (ap (λ (cs : List Call). cs ++ End ∷ []) (append-nil (map Feed f.pieces)))
      (calls-more digest tenant before between after (stream_calls f.pieces false) (End ∷ []) f.taken more);
}

pub imported-so : (digest : List ℕ → List ℕ) (tenant : List ℕ) (before between after : TenantStates) (ended : Bool) (bytes : List ℕ)
    → HasTakenCalls digest tenant before between (Open ∷ []) → HasFed digest tenant between after ended bytes
    → HasImported digest tenant before after ended bytes
imported-so digest tenant before between after ended bytes opened f = record {
  pieces = f.pieces;
  parts = f.parts;
  taken = calls-more digest tenant before between after (Open ∷ []) (stream_calls f.pieces ended) opened f.taken;
}

-- the Open was refused
pub imported-none : (digest : List ℕ → List ℕ) (tenant : List ℕ) (before after : TenantStates)
    → HasTakenCalls digest tenant before after (Open ∷ []) → HasImported digest tenant before after false []
imported-none digest tenant before after opened = record { pieces = []; parts = refl; taken = opened }

-- ---- what one step is told

named-here : (given tenant : List ℕ) → given ≡ tenant → is_tenant_name tenant ≡ true
    → (is_tenant_name given && bytes_eq given tenant) ≡ true
named-here given tenant named good =
    rw (named, good, (bytes_eq-Decides tenant tenant).1 refl) refl

concerned : (tenant : List ℕ) (s : Step) → name_of s ≡ tenant → is_tenant_name tenant ≡ true → concerns tenant s ≡ true
unfolding concerns
concerned tenant (step.Open given) named good = named-here given.now tenant named good
concerned tenant (step.Feed given bytes) named good = named-here given.now tenant named good
concerned tenant (step.End given) named good = named-here given.now tenant named good
concerned tenant (step.Ask given query) named good = named-here given.now tenant named good
concerned tenant step.Restart named good = refl

-- a step was told what it is told in a repository of its own
pub record IsToldAlone (digest : List ℕ → List ℕ) (call : Call) (state : State) (told : Response) (after : TenantState) : Type 0 where
  pub says : told ≡ response_of (run_alone digest call (stop_told told.answer) state)
  pub left : Represents digest (run_alone digest call (stop_told told.answer) state).state after

pub told-alone : (digest : List ℕ → List ℕ) (tenant : List ℕ) (s : Step) (told : Response) (state : State) (before after : TenantState)
    → is_tenant_name tenant ≡ true → name_of s ≡ tenant → IsIsolated digest tenant before ((s, told) ∷ []) after
    → Represents digest state before → IsToldAlone digest (call_of s) state told after
unfolding told_alone left_alone
told-alone digest tenant s told state before after good named own leads = record {
  says = cc both;
  left = subst (λ (st : State). Represents digest st after) (ap (left_alone digest state) steps) (own.left state leads);
}
  where
    stop : Option ℕ
    stop = stop_told told.answer

    part : part_of tenant ((s, told) ∷ []) ≡ (s, told) ∷ []
    part = ap (λ (b : Bool). cond b ((s, told) ∷ []) []) (concerned tenant s named good)

    steps : steps_of tenant ((s, told) ∷ []) ≡ (call_of s, stop) ∷ []
    steps = ap (map (λ (x : Step × Response). (call_of x.0, stop_told x.1.answer))) part

    both : told ∷ [] ≡ response_of (run_alone digest (call_of s) stop state) ∷ []
    both = sym (ap (map (λ (x : Step × Response). x.1)) part) ∙ own.told state leads ∙ ap (told_alone digest state) steps

-- a call that began with no bytes
pub called-alone : (digest : List ℕ → List ℕ) (tenant : List ℕ) (s : Step) (call : Call) (a : Answer) (out out' : List ℕ) (before after : TenantStates)
    (state : State) → name_of s ≡ tenant → call_of s ≡ call → out ≡ []
    → ((name : List ℕ) → IsIsolated digest name (held_of name before) ((s, response_in a out out') ∷ []) (held_of name after))
    → is_tenant_name tenant ≡ true → Represents digest state (held_of tenant before)
    → IsToldAlone digest call state (record { answer = a; reply = out' }) (held_of tenant after)
called-alone digest tenant s call a out out' before after state named is none own good leads =
    subst (λ (c : Call). IsToldAlone digest c state (record { answer = a; reply = out' }) (held_of tenant after)) is
    (subst (λ (t : Response). IsToldAlone digest (call_of s) state t (held_of tenant after)) (ap (λ (l : List ℕ). response_in a l out') none)
    (told-alone digest tenant s (response_in a out out') state (held_of tenant before) (held_of tenant after) good named (own tenant) leads))

-- ---- Open

-- it was opened
pub opened-so : (digest : List ℕ → List ℕ) (repository : Repository) (told : Response) (after : TenantState)
    → told.answer ≡ answer.Ok → IsToldAlone digest Open (Closed repository) told after
    → Represents digest (Streaming repository []) after
opened-so digest repository told after ok t =
    subst (λ (a : Answer). Represents digest (open_alone (stop_told a) (Closed repository)).state after) ok t.left

open-reply : (stop : Option ℕ) (state : State) → (open_alone stop state).reply ≡ []
open-reply None (Closed r) = refl
open-reply (Some zero) (Closed r) = refl
open-reply (Some (suc n)) (Closed r) = refl
open-reply stop (Streaming r bytes) = refl
open-reply stop (Dead code r) = refl

-- no number refuses it where there is no stream
pub open-unrefused : (digest : List ℕ → List ℕ) (repository : Repository) (told : Response) (after : TenantState) (code : ℕ)
    → told.answer ≡ answer.Fault code → IsToldAlone digest Open (Closed repository) told after → ⊥
open-unrefused digest repository told after code is t =
    let says : answer.Fault code ≡ answer.Ok = sym is ∙ ap (λ (x : Response). x.answer) t.says
    ∙ ap (λ (a : Answer). (open_alone (stop_told a) (Closed repository)).answer) is in
    cc says

-- a bad name, or a stream that is there
busy-refused : (digest : List ℕ → List ℕ) (state : State) (opened : Repository) (status : StreamStatus) (stop : Option ℕ)
    → Represents digest state (Busy opened status) → (open_alone stop state).answer ≡ answer.Fault 31
busy-refused digest (Closed r) opened status stop leads = absurd leads
busy-refused digest (Streaming r bytes) opened status stop leads = refl
busy-refused digest (Dead code r) opened status stop leads = refl

pub open-refused : (digest : List ℕ → List ℕ) (tenant : List ℕ) (before : TenantStates) (after : TenantState) (s : Step) (told : Response) (state : State)
    (code : ℕ)
    → name_of s ≡ tenant → call_of s ≡ Open → has_bad_name s ≡ not (is_tenant_name tenant)
    → IsIsolated digest tenant (held_of tenant before) ((s, told) ∷ []) after → IsRefused (s, told)
    → Represents digest state (held_of tenant before) → open_refusal tenant before ≡ Some code → told.answer ≡ answer.Fault code
open-refused digest tenant before after s told state code named is bad own refused leads refusal =
    by (is_tenant_name tenant) refl
  where
    of : (h : TenantState) → held_of tenant before ≡ h → is_tenant_name tenant ≡ true → stream_refusal h ≡ Some code → told.answer ≡ answer.Fault code
    of (Idle r) held good e = cc e
    of (Busy opened status) held good e =
        let t = told-alone digest tenant s told state (held_of tenant before) after good named own leads in
        let number : 31 ≡ code = cc e in
        ap (λ (x : Response). x.answer) t.says
        ∙ ap (λ (c : Call). (run_alone digest c (stop_told told.answer) state).answer) is
        ∙ busy-refused digest state opened status (stop_told told.answer) (subst (Represents digest state) held leads)
        ∙ ap answer.Fault number

    by : (b : Bool) → is_tenant_name tenant ≡ b → told.answer ≡ answer.Fault code
    by true good =
        of (held_of tenant before) refl good
        (sym (ap (λ (b : Bool). cond b (stream_refusal (held_of tenant before)) (Some 32)) good) ∙ refusal)
    by false bad' =
        let number : ◌≡◌ {A = Option ℕ} (Some 32) (Some code) = sym (ap (λ (b : Bool). cond b (stream_refusal (held_of tenant before)) (Some 32)) bad') ∙ refusal in
        let same : 32 ≡ code = cc number in
        ap (λ (x : Response). x.answer) (refused (bad ∙ ap not bad'))
        ∙ ap answer.Fault same

-- ---- Feed

-- what came of a piece: the replies to it were told, or a front of them where memory ran out
abbrev pub FedAs : (List ℕ → List ℕ) → Repository → List ℕ → List ℕ → Answer → List ℕ → TenantState → Type 0
FedAs digest repository bytes piece answer.Ok out after =
    Represents digest (Streaming repository (bytes ++ piece)) after × (out ≡ replies_to digest repository bytes piece)
FedAs digest repository bytes piece (answer.Fault code) out after =
    (left : Repository) × ((stream_of digest repository (bytes ++ piece)).status ≡ Refused code left)
    × (out ≡ replies_to digest repository bytes piece)
FedAs digest repository bytes piece (answer.Memory count) out after = IsFront (replies_to digest repository bytes piece) out

module _ (digest : List ℕ → List ℕ) (repository : Repository) (bytes piece out : List ℕ) (after : TenantState) where
  abbrev says : Answer → List ℕ → Response
  says a r = record { answer = a; reply = r }

  abbrev ends : StreamStatus → StepResult State
  ends x = fed_by repository (bytes ++ piece) (replies_to digest repository bytes piece) x

  by-ok : (x : StreamStatus) → says answer.Ok out ≡ response_of (ends x) → Represents digest (ends x).state after
      → Represents digest (Streaming repository (bytes ++ piece)) after × (out ≡ replies_to digest repository bytes piece)
  by-ok (Runs now tail) told left = (left, ap (λ (t : Response). t.reply) told)
  by-ok (Refused code r) told left =
      let none : answer.Ok ≡ answer.Fault code = ap (λ (t : Response). t.answer) told in cc none

  by-fault : (code : ℕ) (x : StreamStatus) → (stream_of digest repository (bytes ++ piece)).status ≡ x → says (answer.Fault code) out ≡ response_of (ends x)
      → (left : Repository) × ((stream_of digest repository (bytes ++ piece)).status ≡ Refused code left)
      × (out ≡ replies_to digest repository bytes piece)
  by-fault code (Runs now tail) is told =
      let none : answer.Fault code ≡ answer.Ok = ap (λ (t : Response). t.answer) told in cc none
  by-fault code (Refused number r) is told =
      let both : answer.Fault code ≡ answer.Fault number = ap (λ (t : Response). t.answer) told in
      let same : code ≡ number = cc both in
      (r, is ∙ ap (λ (c : ℕ). Refused c r) (sym same), ap (λ (t : Response). t.reply) told)

  not-memory : (count : ℕ) (x : StreamStatus) → says (answer.Memory count) out ≡ response_of (ends x) → ⊥
  not-memory count (Runs now tail) told =
      let none : answer.Memory count ≡ answer.Ok = ap (λ (t : Response). t.answer) told in cc none
  not-memory count (Refused code r) told =
      let none : answer.Memory count ≡ answer.Fault code = ap (λ (t : Response). t.answer) told in cc none

  by-memory : (held : TenantState) (count : ℕ) (stop : Option Stopped) → Stands digest repository bytes held
      → feed_stop digest repository bytes piece count ≡ stop
      → says (answer.Memory count) out ≡ response_of (fed_until (stream_of digest repository bytes).replies count stop (fed_well digest repository bytes piece))
      → IsFront (replies_to digest repository bytes piece) out
  by-memory held count None s is told = absurd (not-memory count (stream_of digest repository (bytes ++ piece)).status told)
  by-memory held count (Some stopped) s is told =
      subst (IsFront (replies_to digest repository bytes piece)) (sym (ap (λ (t : Response). t.reply) told))
      (stop-front digest repository bytes piece held count stopped s is)

  pub fed-as : (held : TenantState) (a : Answer) → Stands digest repository bytes held
      → IsToldAlone digest (Feed piece) (Streaming repository bytes) (says a out) after
      → FedAs digest repository bytes piece a out after
  fed-as held answer.Ok s t = by-ok (stream_of digest repository (bytes ++ piece)).status t.says t.left
  fed-as held (answer.Fault code) s t = by-fault code (stream_of digest repository (bytes ++ piece)).status refl t.says
  fed-as held (answer.Memory count) s t = by-memory held count (feed_stop digest repository bytes piece count) s refl t.says

-- what was told is a front of the replies
pub fed-front : (digest : List ℕ → List ℕ) (repository : Repository) (bytes piece : List ℕ) (a : Answer) (out : List ℕ) (after : TenantState)
    → FedAs digest repository bytes piece a out after → IsFront (replies_to digest repository bytes piece) out
fed-front digest repository bytes piece answer.Ok out after f = front-whole _ out f.1
fed-front digest repository bytes piece (answer.Fault code) out after f = front-whole _ out f.2
fed-front digest repository bytes piece (answer.Memory count) out after f = f

-- ---- End

abbrev pub EndedAs : (List ℕ → List ℕ) → Repository → List ℕ → Answer → List ℕ → Type 0
EndedAs digest repository bytes answer.Ok out =
    ((end_in digest repository bytes).fault ≡ None) × (out ≡ (end_in digest repository bytes).reply)
EndedAs digest repository bytes (answer.Fault code) out =
    ((end_in digest repository bytes).fault ≡ Some code) × (out ≡ (end_in digest repository bytes).reply)
EndedAs digest repository bytes (answer.Memory count) out = out ≡ []

module _ (digest : List ℕ → List ℕ) (out : List ℕ) (now : Running) (tail : Tail) where
  abbrev its : StreamEnd
  its = finished digest (Runs now tail)

  abbrev told-as : Answer → Response
  told-as a = record { answer = a; reply = out }

  well-ok : (f : Option ℕ) → answer.Ok ≡ end_answer f → f ≡ None
  well-ok None e = refl
  well-ok (Some code) e = cc e

  well-fault : (code : ℕ) (f : Option ℕ) → answer.Fault code ≡ end_answer f → f ≡ Some code
  well-fault code None e = cc e
  well-fault code (Some number) e = let same : code ≡ number = cc e in ap Some (sym same)

  well-memory : (count : ℕ) (f : Option ℕ) → answer.Memory count ≡ end_answer f → ⊥
  well-memory count None e = cc e
  well-memory count (Some number) e = cc e

  abbrev alone : Bool → Option ℕ → StepResult Repository
  alone b stop = cond b (ended_well digest (Runs now tail)) (unless_out_of_memory stop (last_checkpoint now.workspace) (ended_well digest (Runs now tail)))

  -- without a stop it ended well
  unstopped : (b : Bool) → response_of (alone b None) ≡ response_of (ended_well digest (Runs now tail))
  unstopped true = refl
  unstopped false = refl

  stopped-end : (count : ℕ) (b : Bool) → told-as (answer.Memory count) ≡ response_of (alone b (Some count)) → out ≡ []
  stopped-end count true e = absurd (well-memory count its.fault (ap (λ (t : Response). t.answer) e))
  stopped-end zero false e = ap (λ (t : Response). t.reply) e
  stopped-end (suc count) false e = absurd (well-memory (suc count) its.fault (ap (λ (t : Response). t.answer) e))

-- by the answer
ended-by : (digest : List ℕ → List ℕ) (repository : Repository) (bytes out : List ℕ) (a : Answer) (now : Running) (tail : Tail)
    → (stream_of digest repository bytes).status ≡ Runs now tail
    → record { answer = a; reply = out } ≡ response_of (ended digest (stop_told a) (Runs now tail))
    → EndedAs digest repository bytes a out
ended-by digest repository bytes out answer.Ok now tail stands told =
    let e = told ∙ unstopped digest out now tail now.is_done in
    let same = ap (λ (x : StreamStatus). finished digest x) stands in (
      ap (λ (x : StreamEnd). x.fault) same ∙ well-ok digest out now tail _ (ap (λ (t : Response). t.answer) e),
      ap (λ (t : Response). t.reply) e ∙ sym (ap (λ (x : StreamEnd). x.reply) same),
    )
ended-by digest repository bytes out (answer.Fault code) now tail stands told =
    let e = told ∙ unstopped digest out now tail now.is_done in
    let same = ap (λ (x : StreamStatus). finished digest x) stands in (
      ap (λ (x : StreamEnd). x.fault) same ∙ well-fault digest out now tail code _ (ap (λ (t : Response). t.answer) e),
      ap (λ (t : Response). t.reply) e ∙ sym (ap (λ (x : StreamEnd). x.reply) same),
    )
ended-by digest repository bytes out (answer.Memory count) now tail stands told =
    stopped-end digest out now tail count now.is_done told

pub ended-as : (digest : List ℕ → List ℕ) (repository : Repository) (bytes out : List ℕ) (held after : TenantState) (a : Answer)
    → Stands digest repository bytes held
    → IsToldAlone digest End (Streaming repository bytes) (record { answer = a; reply = out }) after
    → EndedAs digest repository bytes a out
ended-as digest repository bytes out held after a s t =
    ended-by digest repository bytes out a s.now s.kept s.stands
    (subst (λ (x : StreamStatus). record { answer = a; reply = out } ≡ response_of (ended digest (stop_told a) x)) s.stands t.says)

pub ended-front : (digest : List ℕ → List ℕ) (repository : Repository) (bytes : List ℕ) (a : Answer) (out : List ℕ)
    → EndedAs digest repository bytes a out → IsFront (end_in digest repository bytes).reply out
ended-front digest repository bytes answer.Ok out e = front-whole _ out e.1
ended-front digest repository bytes (answer.Fault code) out e = front-whole _ out e.1
ended-front digest repository bytes (answer.Memory count) out e =
    record { rest = (end_in digest repository bytes).reply; parts = ap (λ (l : List ℕ). l ++ (end_in digest repository bytes).reply) (sym e) }

-- ---- the steps of an import

module _ (digest : List ℕ → List ℕ) (tenant : List ℕ) (s : Step) (a : Answer) (out out' : List ℕ) (before after : TenantStates)
    (named : name_of s ≡ tenant) (none : out ≡ [])
    (own : (name : List ℕ) → IsIsolated digest name (held_of name before) ((s, response_in a out out') ∷ []) (held_of name after)) where
  pub feed-step : (repository : Repository) (bytes piece : List ℕ) → call_of s ≡ Feed piece → IsStreaming digest tenant repository bytes before
      → FedAs digest repository bytes piece a out' (held_of tenant after)
  feed-step repository bytes piece is streaming =
      fed-as digest repository bytes piece out' (held_of tenant after) (held_of tenant before) a
      (stands-so digest repository bytes (held_of tenant before) streaming.1)
      (called-alone digest tenant s (Feed piece) a out out' before after (Streaming repository bytes) named is none own streaming.0 streaming.1)

  pub end-step : (repository : Repository) (bytes : List ℕ) → call_of s ≡ End → IsStreaming digest tenant repository bytes before
      → EndedAs digest repository bytes a out'
  end-step repository bytes is streaming =
      ended-as digest repository bytes out' (held_of tenant before) (held_of tenant after) a
      (stands-so digest repository bytes (held_of tenant before) streaming.1)
      (called-alone digest tenant s End a out out' before after (Streaming repository bytes) named is none own streaming.0 streaming.1)

  open-told : (repository : Repository) → call_of s ≡ Open → CanOpen tenant before repository
      → IsToldAlone digest Open (Closed repository) (record { answer = a; reply = out' }) (held_of tenant after)
  open-told repository is can =
      called-alone digest tenant s Open a out out' before after (Closed repository) named is none own can.0
      (subst (Represents digest (Closed repository)) (sym can.1) refl)

  pub open-step : (repository : Repository) → call_of s ≡ Open → CanOpen tenant before repository → a ≡ answer.Ok
      → IsStreaming digest tenant repository [] after
  open-step repository is can ok =
      (can.0, opened-so digest repository (record { answer = a; reply = out' }) (held_of tenant after) ok (open-told repository is can))

  -- whatever came of it, it prints nothing
  pub open-silent : (state : State) → call_of s ≡ Open → has_bad_name s ≡ not (is_tenant_name tenant) → IsRefused (s, response_in a out out')
      → Represents digest state (held_of tenant before) → out' ≡ []
  open-silent state is bad refused leads = by (is_tenant_name tenant) refl
    where
      by : (b : Bool) → is_tenant_name tenant ≡ b → out' ≡ []
      by true good =
          ap (λ (t : Response). t.reply) (called-alone digest tenant s Open a out out' before after state named is none own good leads).says
          ∙ open-reply (stop_told a) state
      by false bad' =
          ap (λ (l : List ℕ). added l out') (sym none)
          ∙ ap (λ (t : Response). t.reply) (refused (bad ∙ ap not bad'))

  pub open-not-refused : (repository : Repository) (code : ℕ) → call_of s ≡ Open → CanOpen tenant before repository → a ≡ answer.Fault code → ⊥
  open-not-refused repository code is can refused =
      open-unrefused digest repository (record { answer = a; reply = out' }) (held_of tenant after) code refused (open-told repository is can)
