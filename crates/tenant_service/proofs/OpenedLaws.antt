-- A stream that runs, and what it was opened on.
use Rattle.std.proofs.Common.{◌≡◌, ℕ, List, [], ◌∷◌, None, sym, ap, subst, ◌∙◌}
use Rattle.git_model.specs.Repository.{Repository}
use Rattle.stream_lex.specs.Items.{Tail}
use Rattle.import_session.specs.Stream.{Running, StreamStatus, Runs, Refused}
use Rattle.tenant_service.specs.Alone.{Open, Feed, State, Closed, Streaming, added, fed_by, stream_of}
use Rattle.tenant_service.specs.Headline.{left_alone}
use Rattle.tenant_service.specs.TenantState.{TenantState, Idle, Busy, Represents}
use Rattle.tenant_service.specs.HeldObjects.{opened_held}

pub opened-is : (digest : List ℕ → List ℕ) (repository : Repository) (bytes : List ℕ)
    (held : TenantState) → Represents digest (Streaming repository bytes) held
    → opened_held held ≡ repository
opened-is digest repository bytes (Idle r) leads = absurd leads
opened-is digest repository bytes (Busy opened (Runs now tail)) leads = sym leads.0
opened-is digest repository bytes (Busy opened (Refused code r)) leads = absurd leads

-- a running stream and its repository lead to one thing
one-held : (digest : List ℕ → List ℕ) (opened : Repository) (bytes : List ℕ) (now : Running)
    (tail : Tail) (again : TenantState) → (stream_of digest opened bytes).status ≡ Runs now tail
    → Represents digest (Streaming opened bytes) again → again ≡ Busy opened (Runs now tail)
one-held digest opened bytes now tail (Idle r) stands leads = absurd leads
one-held digest opened bytes now tail (Busy other (Refused code r)) stands leads = absurd leads
one-held digest opened bytes now tail (Busy other (Runs then rest)) stands leads =
    let same : Runs then rest ≡ Runs now tail = sym leads.1 ∙ stands in
    λ i. Busy (sym leads.0 i) (same i)

pub again-same : (digest : List ℕ → List ℕ) (repository : Repository) (bytes : List ℕ)
    (held again : TenantState) → Represents digest (Streaming repository bytes) held
    → Represents digest (left_alone digest (Closed (opened_held held))
    ((Open, None) ∷ (Feed bytes, None) ∷ [])) again → again ≡ held
unfolding left_alone
again-same digest repository bytes (Idle r) again leads then = absurd leads
again-same digest repository bytes (Busy opened (Refused code r)) again leads then = absurd leads
again-same digest repository bytes (Busy opened (Runs now tail)) again leads then =
    one-held digest opened bytes now tail again status
    (subst (λ (s : State). Represents digest s again) goes then)
  where
    status : (stream_of digest opened bytes).status ≡ Runs now tail
    status =
        subst (λ (r : Repository). (stream_of digest r bytes).status ≡ Runs now tail) leads.0 leads.1

    goes : left_alone digest (Closed opened) ((Open, None) ∷ (Feed bytes, None) ∷ [])
        ≡ Streaming opened bytes
    goes =
        ap (λ (st : StreamStatus). (fed_by opened bytes
        (added (stream_of digest opened []).replies (stream_of digest opened bytes).replies) st).state)
        status
