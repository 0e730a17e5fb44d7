-- What a repository exports, imported into an empty one by steps.
use Rattle.std.proofs.Common.{◌≡◌, ℕ, Bool, true, false, cond, List, [], ◌∷◌, length, drop, Option, None, refl, ap, ◌∙◌}
use Rattle.std.proofs.Math.Seq.{drop-nil}
use Rattle.git_model.specs.Repository.{Repository}
use Rattle.stream_lex.specs.Items.{Tail}
use Rattle.export_text.specs.Export.{export_text}
use Rattle.import_session.specs.Stream.{End as StreamEnd, Outcome, Running, StreamStatus, Runs, Refused, finished, last_checkpoint}
use Rattle.service_steps.specs.declared.answer.Answer.TheVariants as answer
use Rattle.tenant_service.specs.Alone.{Call, Open, Feed, End, StepResult, State, Closed, Streaming, step_result, stream_of, closed, end_answer, ended, ended_well, fed_by, run_alone, unless_out_of_memory}
use Rattle.export_laws.specs.Copies.{CanBeCopied}
use Rattle.export_laws.specs.Ends.{IsImported}
use Rattle.export_laws.proofs.EndImported.{export-imported}
use Rattle.git_names.specs.Naming.{AnswersNames}
use Rattle.import_session.specs.Sound.{IsSoundRepository}
use Rattle.tenant_service.specs.Headline.{Response, left_alone, told_alone, response_of}
use Rattle.tenant_service.specs.TenantState.{empty_repository}
use Rattle.tenant_service.specs.Copies.{Takes, import_steps, told_ok}

-- A text that prints nothing and ends well, over an empty repository.
pub record EndsWell (digest : List ℕ → List ℕ) (text : List ℕ) (left : Repository) : Type 0 where
  pub last : Running
  pub tail : Tail
  pub runs : stream_of digest empty_repository text
      ≡ record { replies = []; status = Runs last tail }
  pub ends : finished digest (Runs last tail)
      ≡ record { fault = None; reply = []; repository = left }

-- what ends well was not refused
ends-well : (digest : List ℕ → List ℕ) (text : List ℕ) (left : Repository) (replies : List ℕ)
    (status : StreamStatus)
    → stream_of digest empty_repository text ≡ record { replies = replies; status = status }
    → replies ≡ []
    → finished digest status ≡ record { fault = None; reply = []; repository = left }
    → EndsWell digest text left
ends-well digest text left replies (Runs last tail) is none ends = record {
  last = last;
  tail = tail;
  runs = is ∙ ap (λ (l : List ℕ). record { replies = l; status = Runs last tail }) none;
  ends = ends;
}
ends-well digest text left replies (Refused code repository) is none ends =
    (let e = ap (λ (x : StreamEnd). x.fault) ends in cc e)

pub export-ends : (digest : List ℕ → List ℕ) (repository : Repository)
    → (i : IsImported digest repository) → EndsWell digest (export_text repository) i.left
unfolding stream_of
export-ends digest repository i =
    let o = stream_of digest empty_repository (export_text repository) in
    ends-well digest (export_text repository) i.left o.replies o.status refl i.prints i.ends

module _ (digest : List ℕ → List ℕ) (text : List ℕ) (left : Repository)
    (well : EndsWell digest text left) where
  open-result : run_alone digest Open None (Closed empty_repository)
      ≡ step_result answer.Ok [] (Streaming empty_repository [])
  open-result = refl

  pub feed-result : run_alone digest (Feed text) None (Streaming empty_repository [])
      ≡ step_result answer.Ok [] (Streaming empty_repository text)
  feed-result =
      let before = (stream_of digest empty_repository []).replies in
      ap (λ (o : Outcome). fed_by empty_repository text (drop (length before) o.replies) o.status) well.runs
      ∙ ap (λ (reply : List ℕ). step_result answer.Ok reply (Streaming empty_repository text)) (drop-nil (length before))

  pub end-result : run_alone digest End None (Streaming empty_repository text)
      ≡ step_result answer.Ok [] (Closed left)
  end-result =
      ap (λ (o : Outcome). closed Closed (ended digest None o.status)) well.runs
      ∙ ap (closed Closed) (by well.last.is_done)
    where
      of_end : step_result (end_answer (finished digest (Runs well.last well.tail)).fault)
          (finished digest (Runs well.last well.tail)).reply
          (finished digest (Runs well.last well.tail)).repository
          ≡ step_result answer.Ok [] left
      of_end = ap (λ (e : StreamEnd). step_result (end_answer e.fault) e.reply e.repository) well.ends

      by : (b : Bool) → cond b (ended_well digest (Runs well.last well.tail))
          (unless_out_of_memory None (last_checkpoint well.last.workspace)
          (ended_well digest (Runs well.last well.tail))) ≡ step_result answer.Ok [] left
      by true = of_end
      by false = of_end

  told-first : (state next : State) (call : Call) (later : List (Call × Option ℕ)) → run_alone digest call None state ≡ step_result answer.Ok [] next
      → told_alone digest state ((call, None) ∷ later) ≡ told_ok ∷ told_alone digest next later
  unfolding told_alone
  told-first state next call later is =
      ap (λ (t : StepResult State). response_of t ∷ told_alone digest t.state later) is

  left-first : (state next : State) (call : Call) (later : List (Call × Option ℕ)) → run_alone digest call None state ≡ step_result answer.Ok [] next
      → left_alone digest state ((call, None) ∷ later) ≡ left_alone digest next later
  unfolding left_alone
  left-first state next call later is = ap (λ (t : StepResult State). left_alone digest t.state later) is

  told-none : (state : State) → told_alone digest state [] ≡ []
  unfolding told_alone
  told-none state = refl

  left-none : (state : State) → left_alone digest state [] ≡ state
  unfolding left_alone
  left-none state = refl

  pub all-told : told_alone digest (Closed empty_repository) (import_steps text)
      ≡ told_ok ∷ told_ok ∷ told_ok ∷ []
  all-told =
      told-first (Closed empty_repository) (Streaming empty_repository []) Open _ open-result
      ∙ ap (λ (told : List Response). told_ok ∷ told)
      (told-first (Streaming empty_repository []) (Streaming empty_repository text) (Feed text) _ feed-result
      ∙ ap (λ (told : List Response). told_ok ∷ told)
      (told-first (Streaming empty_repository text) (Closed left) End [] end-result
      ∙ ap (λ (told : List Response). told_ok ∷ told) (told-none (Closed left))))

  pub all-left : left_alone digest (Closed empty_repository) (import_steps text) ≡ Closed left
  all-left =
      left-first (Closed empty_repository) (Streaming empty_repository []) Open _ open-result
      ∙ left-first (Streaming empty_repository []) (Streaming empty_repository text) (Feed text) _ feed-result
      ∙ left-first (Streaming empty_repository text) (Closed left) End [] end-result
      ∙ left-none (Closed left)

-- an empty repository of its own takes a copy
pub takes : (digest : List ℕ → List ℕ) (repository : Repository) → IsImported digest repository
    → Takes digest (export_text repository) repository
takes digest repository i =
    let well = export-ends digest repository i in
    record {
      told = all-told digest (export_text repository) i.left well;
      left = i.left;
      leaves = all-left digest (export_text repository) i.left well;
      copy = i.copy;
    }

pub exports-taken : (digest : List ℕ → List ℕ) → AnswersNames digest → (repository : Repository)
    → IsSoundRepository digest repository → CanBeCopied repository
    → Takes digest (export_text repository) repository
exports-taken digest names repository sound can =
    takes digest repository
    (export-imported digest names repository sound can.fits can.few_tags can.few_refs)
