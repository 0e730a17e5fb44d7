-- Where a stream stopped in a piece.
use Rattle.std.proofs.Common.{◌≡◌, ℕ, Bool, false, true, cond, leb, List, [], ◌++◌, length, take, None, Some, Result, Ok, Err, refl, sym, ap, ◌∙◌, arith, append-nil}
use Rattle.std.proofs.lemmas.Bool.{le-leb}
use Rattle.std.proofs.lemmas.List.{length-append}
use Rattle.std.proofs.Math.Seq.{take-append_seam}
use Rattle.git_model.specs.Repository.{Repository}
use Rattle.stream_lex.specs.Items.{Item, Rest, Reading}
use Rattle.stream_lex.specs.Running.{more_of}
use Rattle.import_session.specs.Stream.{Running, Runs, Outcome, after_reply, carried, last_checkpoint}
use Rattle.tenant_stream.specs.declared.stream_error.StreamError.{StreamError}
use Rattle.tenant_stream.specs.Carrying.{Feeds, Held, RanOutAfter, with_piece}
use Rattle.tenant_stream.proofs.StreamLemmas.{carried-tail, more-extended, replies-after}
use Rattle.tenant_service.specs.Alone.{stop_at, stop_after}

-- the first items and the replies of those
pub stop-first : (digest : List ℕ → List ℕ) (now last : Running) (items later : List Item) (replies : List ℕ)
    → carried digest now (items ++ []) (Rest false []) ≡ after_reply replies (carried digest last [] (Rest false []))
    → last.is_done ≡ false
    → stop_after digest now (items ++ later) (length items) ≡ Some (record { replies = replies; repository = last_checkpoint last.workspace })
unfolding stop_after
stop-first digest now last items later replies carries running =
    let within : leb (length items) (length (items ++ later)) ≡ true = le-leb _ _ (let n = length-append items later in omega arith) in
    let first : carried digest now (take (length items) (items ++ later)) (Rest false []) ≡ record { replies = replies; status = Runs last (Rest false []) } =
    ap (λ (is : List Item). carried digest now is (Rest false [])) (take-append_seam items later ∙ sym (append-nil items))
    ∙ carries ∙ ap (after_reply replies) (carried-tail digest last (Rest false []) running) ∙ replies-after replies _ in
    let test : stop_at replies (Runs last (Rest false [])) ≡ Some (record { replies = replies; repository = last_checkpoint last.workspace }) =
    ap (λ (b : Bool). cond b None (Some (record { replies = replies; repository = last_checkpoint last.workspace }))) running in
    ap (λ (b : Bool). cond b (stop_at (carried digest now (take (length items) (items ++ later)) (Rest false [])).replies (carried digest now (take (length items) (items ++ later)) (Rest false [])).status) None) within
    ∙ ap (λ (o : Outcome). stop_at o.replies o.status) first ∙ test

-- memory ran out after some items
pub stop-ran_out : (digest : List ℕ → List ℕ) (before : Held) (piece : List ℕ) (count : ℕ) (after : Held)
    (h : RanOutAfter digest (with_piece before piece) count after)
    → stop_after digest before.running (more_of before.tail piece).items count
    ≡ Some (record { replies = h.stopped.carried_out.replies; repository = last_checkpoint after.running.workspace })
stop-ran_out digest before piece count after h =
    let so_far = h.stopped.carried_out in
    ap (λ (r : Reading). stop_after digest before.running r.items count) (sym (more-extended before.tail piece) ∙ so_far.reads [])
    ∙ ap (λ (n : ℕ). stop_after digest before.running (h.items ++ (more_of h.middle.tail []).items) n) (sym h.counted)
    ∙ stop-first digest before.running h.middle.running h.items (more_of h.middle.tail []).items so_far.replies
    (so_far.goes_on [] (Rest false [])) h.stopped.running
    ∙ ap (λ (r : Repository). Some (record { replies = so_far.replies; repository = r })) (sym h.stopped.checkpoint)

-- a stream that stopped had not read `done`
pub stopped-running : (digest : List ℕ → List ℕ) (before : Held) (piece : List ℕ) (e : StreamError) (after : Held)
    → Feeds digest before piece (Err e) after → before.running.is_done ≡ false
stopped-running digest before piece e after h = by before.running.is_done refl
  where
    by : (b : Bool) → before.running.is_done ≡ b → before.running.is_done ≡ false
    by false running = running
    by true done = let no : ◌≡◌ {A = Result Unit StreamError} (Err e) (Ok tt) = (h.ignored done).0 in cc no
