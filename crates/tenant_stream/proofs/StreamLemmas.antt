-- Streams that go on and end.
use Rattle.std.proofs.Common.{◌≡◌, ℕ, Bool, true, false, cond, List, [], ◌∷◌, ◌++◌, Result, Ok, refl, sym, ap, ◌∙◌, append-nil}
use Rattle.git_model.specs.Repository.{Repository}
use Rattle.stream_lex.specs.Items.{Item, Tail, Rest, Failed, Reading}
use Rattle.stream_lex.specs.Reading.{reading}
use Rattle.stream_lex.specs.Running.{more_of, extended}
use Rattle.stream_parts.specs.declared.fault.Fault.{Fault}
use Rattle.import_session.specs.Stream.{Running, Step, StreamStatus, Runs, Refused, after_reply, carried, going_on, last_checkpoint, step, taken, at_tail, tail_outcome}
use Rattle.tenant_stream.specs.Carrying.{Held, HasCarriedOut, HasCarriedOutAll, IsDrained, WasRefused, outcome_after, with_piece}

-- after `done` nothing is carried out
at_tail-done : (now : Running) (tail : Tail) → now.is_done ≡ true
    → at_tail now tail ≡ record { replies = []; status = Runs now (Rest false []) }
unfolding at_tail
at_tail-done now tail done =
    ap (λ (b : Bool). cond b (record { replies = []; status = Runs now (Rest false []) })
    (tail_outcome now tail)) done

at_tail-running : (now : Running) (tail : Tail) → now.is_done ≡ false
    → at_tail now tail ≡ tail_outcome now tail
unfolding at_tail
at_tail-running now tail running =
    ap (λ (b : Bool). cond b (record { replies = []; status = Runs now (Rest false []) })
    (tail_outcome now tail)) running

step-done : (digest : List ℕ → List ℕ) (now : Running) (item : Item) → now.is_done ≡ true
    → step digest now item ≡ Ok (record { running = now; reply = [] })
unfolding step
step-done digest now item done =
    ap (λ (b : Bool). cond b (Ok (record { running = now; reply = [] })) (taken digest now item))
    done

pub carried-done : (digest : List ℕ → List ℕ) (now : Running) (items : List Item) (tail : Tail)
    → now.is_done ≡ true
    → carried digest now items tail ≡ record { replies = []; status = Runs now (Rest false []) }
unfolding carried
carried-done digest now [] tail done = at_tail-done now tail done
carried-done digest now (item ∷ items) tail done =
    ap (λ (r : Result Step Fault). going_on now r (λ next. carried digest next items tail))
    (step-done digest now item done)
    ∙ carried-done digest now items tail done

-- where no item is left and `done` was not read, the bytes that are left are a rest
pub carried-tail : (digest : List ℕ → List ℕ) (now : Running) (tail : Tail) → now.is_done ≡ false
    → carried digest now [] tail ≡ tail_outcome now tail
unfolding carried
carried-tail digest now tail running = at_tail-running now tail running

-- a tail with a piece after it reads as the tail does with that piece
pub more-extended : (tail : Tail) (piece : List ℕ) → more_of
    (extended tail piece) [] ≡ more_of tail piece
more-extended (Rest skips bytes) piece = ap (λ all. reading skips all) (append-nil (bytes ++ piece))
more-extended (Failed fault) piece = refl

-- what bytes do, by the items that were carried out first
pub outcome-carried : (digest : List ℕ → List ℕ) (before : Held) (piece : List ℕ) (items : List Item)
    (after : Held) (h : HasCarriedOut digest (with_piece before piece) items after)
    → outcome_after digest before.running before.tail piece
    ≡ after_reply h.replies (outcome_after digest after.running after.tail [])
outcome-carried digest before piece items after h =
    ap (λ (r : Reading). carried digest before.running r.items r.tail)
    (sym (more-extended before.tail piece) ∙ h.reads [])
    ∙ h.goes_on (more_of after.tail []).items (more_of after.tail []).tail

-- a stream of which all that was whole was carried out stands with what is left
status-drained : (digest : List ℕ → List ℕ) (held : Held)
    → IsDrained held.running.is_done held.tail
    → outcome_after digest held.running held.tail [] ≡ record {
      replies = [];
      status = Runs held.running (cond held.running.is_done (Rest false []) held.tail);
    }
status-drained digest held drained = by held.running.is_done refl held.tail drained
  where
    by : (b : Bool) → held.running.is_done ≡ b → (tail : Tail) → IsDrained b tail
        → outcome_after digest held.running tail [] ≡ record
        { replies = []; status = Runs held.running (cond b (Rest false []) tail) }
    by true done tail drained' =
        carried-done digest held.running (more_of tail []).items (more_of tail []).tail done
    by false running (Rest skips bytes) none =
        ap (λ (r : Reading). carried digest held.running r.items r.tail)
        (ap (λ all. reading skips all) (append-nil bytes) ∙ none)
        ∙ carried-tail digest held.running (Rest skips bytes) running
    by false running (Failed fault) none = absurd none

-- the replies of two parts
pub replies-after : (replies : List ℕ) (status : StreamStatus)
    → after_reply replies (record { replies = []; status = status }) ≡ record
    { replies = replies; status = status }
replies-after replies status = ap (λ (all : List ℕ). record
    { replies = all; status = status }) (append-nil replies)

-- all that was whole was carried out
pub outcome-all : (digest : List ℕ → List ℕ) (before : Held) (piece : List ℕ) (after : Held)
    (h : HasCarriedOutAll digest (with_piece before piece) after)
    → outcome_after digest before.running before.tail piece ≡ record {
      replies = h.carried_out.replies;
      status = Runs after.running (cond after.running.is_done (Rest false []) after.tail);
    }
outcome-all digest before piece after h =
    outcome-carried digest before piece h.items after h.carried_out
    ∙ ap (after_reply h.carried_out.replies) (status-drained digest after h.drained)
    ∙ replies-after h.carried_out.replies _

-- what stands after the items refuses the stream
pub outcome-refused : (digest : List ℕ → List ℕ) (before : Held) (piece : List ℕ) (code : ℕ)
    (after : Held) (h : WasRefused digest (with_piece before piece) code after)
    → outcome_after digest before.running before.tail piece ≡ record {
      replies = h.stopped.carried_out.replies;
      status = Refused code (last_checkpoint after.running.workspace);
    }
outcome-refused digest before piece code after h =
    outcome-carried digest before piece h.items h.middle h.stopped.carried_out
    ∙ ap (after_reply h.stopped.carried_out.replies) (h.refused [])
    ∙ replies-after h.stopped.carried_out.replies _
    ∙ ap (λ (r : Repository). record
    { replies = h.stopped.carried_out.replies; status = Refused code r })
    (sym h.stopped.checkpoint)
