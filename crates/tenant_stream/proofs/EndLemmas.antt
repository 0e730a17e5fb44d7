-- How streams end.
use Rattle.std.proofs.Common.{◌≡◌, ◌≢◌, ℕ, true, false, List, [], ◌∷◌, ◌++◌, None, Some, Result, Ok, Err, refl, sym, ap, ◌∙◌, append-nil}
use Rattle.stream_lex.specs.declared.fault.Fault.{Fault as LexFault}
use Rattle.stream_lex.specs.declared.fault.Fault.TheVariants as lex_fault
use Rattle.stream_lex.specs.Faults.{code_of as item_code}
use Rattle.stream_lex.specs.Items.{Tail, Rest, Failed}
use Rattle.stream_lex.specs.Lexer.{ended as lex_ended}
use Rattle.stream_parts.specs.declared.fault.Fault.{Fault}
use Rattle.stream_parts.specs.declared.fault.Fault.TheVariants as fault
use Rattle.stream_parts.specs.Faults.{code_of}
use Rattle.stream_commands.specs.Workspace.{Workspace, Effect}
use Rattle.stream_commands.specs.State.{CarriesOut}
use Rattle.import_session.specs.Stream.{Running, End, ended_well, ended_by, end_left, running_end, session_end, last_checkpoint}
use Rattle.tenant_stream.specs.declared.stream_error.StreamError.TheVariants as stop
use Rattle.tenant_stream.specs.Stopping.{stop_of}
use Rattle.tenant_stream.specs.Carrying.{Held, HasEnded, EndsAs, stream_end}

-- bytes are left over
left_over : (digest : List ℕ → List ℕ) (now : Running) (tail : Tail) (f : LexFault)
    → lex_ended tail ≡ Err f
    → running_end digest now tail ≡ ended_by (item_code f) (last_checkpoint now.workspace)
left_over digest now (Rest skips []) f ended = cc
left_over digest now (Rest skips (b ∷ bs)) f ended =
    let e : lex_fault.CutOff ≡ f = cc in
    ap (λ (x : LexFault). ended_by (item_code x) (last_checkpoint now.workspace)) e
left_over digest now (Failed g) f ended =
    let e : g ≡ f = cc in
    ap (λ (x : LexFault). ended_by (item_code x) (last_checkpoint now.workspace)) e

-- no byte is left over
none_over : (digest : List ℕ → List ℕ) (now : Running) (tail : Tail) → Ok tt ≡ lex_ended tail
    → running_end digest now tail ≡ end_left now.workspace (session_end digest now)
none_over digest now (Rest skips []) ended = refl
none_over digest now (Rest skips (b ∷ bs)) ended = cc
none_over digest now (Failed f) ended = cc

-- the session was refused
refused_left : (w : Workspace) (r : Result Effect Fault) (left : Workspace) (out out' : List ℕ)
    (e : Fault) → e ≢ fault.Memory
    → CarriesOut r left out out' (Err e) → end_left w r ≡ ended_by (code_of e) (last_checkpoint w)
refused_left w (Ok effect) left out out' e other carried = absurd (other carried)
refused_left w (Err refusal) left out out' e other carried =
    ap (λ (f : Fault). ended_by (code_of f) (last_checkpoint w)) (sym (carried other))

module _ (digest : List ℕ → List ℕ) (held : Held) where
  -- an end that prints nothing
  silent : (was : End) → stream_end digest held ≡ was → was.reply ≡ []
      → HasEnded digest held was.fault was.repository held.out
  silent was is none = record {
    answered = ap (λ (e : End). e.fault) is;
    printed = sym (ap (λ (r : List ℕ). held.out ++ r) (ap (λ (e : End). e.reply) is ∙ none)
        ∙ append-nil held.out);
    stands = ap (λ (e : End). e.repository) is;
  }

  -- after `done` there is nothing to end
  pub ends_done : held.running.is_done ≡ true
      → EndsAs digest held (Ok tt) (last_checkpoint held.running.workspace) held.out
  ends_done done = silent (ended_well [] held.running.workspace) (rw done refl) refl

  module _ (running : held.running.is_done ≡ false) where
    ends_running : stream_end digest held ≡ running_end digest held.running held.tail
    ends_running = rw running refl

    -- bytes are left over
    pub ends_cut : (f : LexFault) → lex_ended held.tail ≡ Err f
        → EndsAs digest held (Err (stop.Fault (item_code f)))
        (last_checkpoint held.running.workspace) held.out
    ends_cut f ended =
        silent (ended_by (item_code f) (last_checkpoint held.running.workspace))
        (ends_running ∙ left_over digest held.running held.tail f ended) refl

    -- no byte is left over
    module _ (whole : Ok tt ≡ lex_ended held.tail) where
      session_ends : stream_end digest held
          ≡ end_left held.running.workspace (session_end digest held.running)
      session_ends = ends_running ∙ none_over digest held.running held.tail whole

      -- the session ends well
      well : (r : Result Effect Fault) (new : Workspace) (out : List ℕ)
          → stream_end digest held ≡ end_left held.running.workspace r
          → CarriesOut r new held.out out (Ok tt)
          → HasEnded digest held None (last_checkpoint new) out
      well (Ok effect) new out is carried = record {
        answered = ap (λ (e : End). e.fault) is;
        printed = carried.1 ∙ ap (λ (e : End). held.out ++ e.reply) (sym is);
        stands = ap (λ (e : End). e.repository) is
            ∙ ap (λ (x : Workspace). last_checkpoint x) carried.0;
      }
      well (Err refusal) new out is carried = absurd carried

      pub ends_well : (new : Workspace) (out : List ℕ)
          → CarriesOut (session_end digest held.running) new held.out out (Ok tt)
          → EndsAs digest held (Ok tt) (last_checkpoint new) out
      ends_well new out = well (session_end digest held.running) new out session_ends

      -- it is refused by a fault of the stream
      faults : (left : Workspace) (at : List ℕ) (e : Fault) → e ≢ fault.Memory
          → CarriesOut (session_end digest held.running) left held.out at (Err e)
          → HasEnded digest held (Some (code_of e)) (last_checkpoint held.running.workspace) held.out
      faults left at e other carried =
          silent (ended_by (code_of e) (last_checkpoint held.running.workspace))
          (session_ends ∙ refused_left held.running.workspace (session_end digest held.running) left
          held.out at e other carried) refl

      -- or memory ran out
      pub ends_refused : (left : Workspace) (at : List ℕ) (e : Fault)
          → CarriesOut (session_end digest held.running) left held.out at (Err e)
          → EndsAs digest held (Err (stop_of e 0)) (last_checkpoint held.running.workspace) held.out
      ends_refused left at fault.Memory carried =
          record { running = running; counted = refl; printed = refl; stands = refl }
      ends_refused left at e carried = faults left at e (λ memory. cc) carried
