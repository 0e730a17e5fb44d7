-- Sound streams stay sound, and what they leave is sound.
use Rattle.std.proofs.Common.{◌≡◌, ℕ, Bool, true, false, cond, List, [], ◌∷◌, ◌++◌, Result, Ok, Err, refl, sym, ap, subst, ◌∙◌}
use Rattle.git_model.specs.RefStore.{RefStore}
use Rattle.git_model.specs.Repository.{Repository}
use Rattle.git_names.specs.Naming.{AnswersNames}
use Rattle.content_pool.specs.Pool.{Cells}
use Rattle.tenant_tables.specs.View.{View}
use Rattle.stream_lex.specs.Items.{Item, Tail, Rest, Failed}
use Rattle.stream_parts.specs.declared.fault.Fault.{Fault}
use Rattle.stream_commands.specs.Workspace.{Effect, Workspace}
use Rattle.import_session.specs.Stream.{Running, Step, Outcome, StreamStatus, Runs, Refused, at_tail, carried, end_left, ended_well, finished, going_on, last_checkpoint, running_end, session_end, step, tail_outcome}
use Rattle.import_session.specs.Sound.{IsSound, IsSoundRepository}
use Rattle.session_laws.proofs.SoundLemmas.{item_keeps, end_keeps, checkpoint_is_sound}
use Rattle.tenant_stream.specs.declared.stream_error.StreamError.{StreamError}
use Rattle.tenant_stream.specs.declared.stream_error.StreamError.TheVariants as stop
use Rattle.tenant_stream.specs.Carrying.{Held, StreamView, HasCarriedOut, HasStoppedAfter, Carries, EndsAs, stream_in}
use Rattle.tenant_stream.specs.Soundness.{IsSoundStreamStatus, LeavesSound}

-- what a value of the code stands for is what its stream stands for
pub sound_as : (digest : List ℕ → List ℕ) (inside stream : StreamView) (pool : Cells) (table : View)
    (refs : RefStore) → inside ≡ stream → IsSound digest (stream_in stream pool table refs).workspace
    → IsSound digest (stream_in inside pool table refs).workspace
sound_as digest inside stream pool table refs same =
    subst (λ (b : StreamView). IsSound digest (stream_in b pool table refs).workspace) (sym same)

-- ---- what each item keeps, a stream keeps

-- The workspace of a running stream is kept so, or a refused stream left such a repository.
abbrev StandsSo : (Workspace → Type 0) → (Repository → Type 0) → StreamStatus → Type 0
StandsSo IsKept IsLeft (Runs now tail) = IsKept now.workspace
StandsSo IsKept IsLeft (Refused code repository) = IsLeft repository

rest_stands : (digest : List ℕ → List ℕ) (next : Running)
    → (carried digest next [] (Rest false [])).status ≡ Runs next (Rest false [])
unfolding carried at_tail
rest_stands digest next = by next.is_done
  where
    by : (b : Bool) → (cond b (record { replies = []; status = Runs next (Rest false []) })
        (tail_outcome next (Rest false []))).status ≡ Runs next (Rest false [])
    by true = refl
    by false = refl

module _ (digest : List ℕ → List ℕ) (IsKept : Workspace → Type 0) (IsLeft : Repository → Type 0)
    (keeps : (now : Running) (item : Item) (s : Step) → IsKept now.workspace
    → step digest now item ≡ Ok s → IsKept s.running.workspace)
    (leaves : (w : Workspace) → IsKept w → IsLeft (last_checkpoint w)) where
  tail_stands : (now : Running) (tail : Tail) → IsKept now.workspace
      → StandsSo IsKept IsLeft (tail_outcome now tail).status
  tail_stands now (Rest skips bytes) kept = kept
  tail_stands now (Failed fault) kept = leaves now.workspace kept

  at_tail_stands : (now : Running) (tail : Tail) → IsKept now.workspace
      → StandsSo IsKept IsLeft (at_tail now tail).status
  unfolding at_tail
  at_tail_stands now tail kept = by now.is_done
    where
      by : (b : Bool) → StandsSo IsKept IsLeft (cond b
          (record { replies = []; status = Runs now (Rest false []) })
          (tail_outcome now tail)).status
      by true = kept
      by false = tail_stands now tail kept

  carried_stands : (now : Running) (items : List Item) (tail : Tail) → IsKept now.workspace
      → StandsSo IsKept IsLeft (carried digest now items tail).status
  unfolding carried
  carried_stands now [] tail kept = at_tail_stands now tail kept
  carried_stands now (item ∷ items) tail kept =
      by (step digest now item) refl (λ next. carried_stands next items tail)
    where
      by : (r : Result Step Fault) → step digest now item ≡ r
          → ((next : Running) → IsKept next.workspace
          → StandsSo IsKept IsLeft (carried digest next items tail).status)
          → StandsSo IsKept IsLeft (going_on now r (λ next. carried digest next items tail)).status
      by (Ok s) was later = later s.running (keeps now item s kept was)
      by (Err fault) was later = leaves now.workspace kept

  pub items_keep : (before : Held) (items : List Item) (after : Held)
      → HasCarriedOut digest before items after
      → IsKept before.running.workspace → IsKept after.running.workspace
  items_keep before items after h kept =
      subst (StandsSo IsKept IsLeft)
      (ap (λ (o : Outcome). o.status) (h.goes_on [] (Rest false []))
      ∙ rest_stands digest after.running)
      (carried_stands before.running (items ++ []) (Rest false []) kept)

-- ---- items

status_sound : (digest : List ℕ → List ℕ) (status : StreamStatus)
    → StandsSo (IsSound digest) (IsSoundRepository digest) status
    → IsSoundStreamStatus digest status
status_sound digest (Runs now tail) sound = sound
status_sound digest (Refused code repository) sound = sound

module _ (digest : List ℕ → List ℕ) (names : AnswersNames digest) where
  -- a sound stream stands soundly after any items
  pub carried_sound : (now : Running) (items : List Item) (tail : Tail)
      → IsSound digest now.workspace
      → IsSoundStreamStatus digest (carried digest now items tail).status
  carried_sound now items tail sound =
      status_sound digest (carried digest now items tail).status
      (carried_stands digest (IsSound digest) (IsSoundRepository digest) (item_keeps digest names)
      (checkpoint_is_sound digest) now items tail sound)

  pub stays_sound : (before : Held) (items : List Item) (after : Held)
      → HasCarriedOut digest before items after
      → IsSound digest before.running.workspace → IsSound digest after.running.workspace
  stays_sound before items after h sound =
      items_keep digest (IsSound digest) (IsSoundRepository digest) (item_keeps digest names)
      (checkpoint_is_sound digest) before items after h sound

  left_sound : (before : Held) (items : List Item) (middle after : Held)
      → HasStoppedAfter digest before items middle after → IsSound digest before.running.workspace
      → IsSoundRepository digest (last_checkpoint after.running.workspace)
  left_sound before items middle after h sound =
      rw h.checkpoint
      (checkpoint_is_sound digest middle.running.workspace
      (stays_sound before items middle h.carried_out sound))

  -- what a piece leaves
  pub carries_sound : (before : Held) (result : Result Unit StreamError) (after : Held)
      → Carries digest before result after → IsSound digest before.running.workspace
      → LeavesSound digest result after.running.workspace
  carries_sound before (Ok u) after h sound = stays_sound before h.items after h.carried_out sound
  carries_sound before (Err (stop.Fault code)) after h sound =
      left_sound before h.items h.middle after h.stopped sound
  carries_sound before (Err (stop.Memory count)) after h sound =
      left_sound before h.items h.middle after h.stopped sound

  -- ---- the end

  end_sound : (now : Running) → IsSound digest now.workspace
      → IsSoundRepository digest (end_left now.workspace (session_end digest now)).repository
  end_sound now sound = by (session_end digest now) refl
    where
      by : (r : Result Effect Fault) → session_end digest now ≡ r
          → IsSoundRepository digest (end_left now.workspace r).repository
      by (Ok effect) was = checkpoint_is_sound digest effect.workspace
          (end_keeps digest names now effect sound was)
      by (Err fault) was = checkpoint_is_sound digest now.workspace sound

  running_sound : (now : Running) (tail : Tail) → IsSound digest now.workspace
      → IsSoundRepository digest (running_end digest now tail).repository
  running_sound now (Rest skips []) sound = end_sound now sound
  running_sound now (Rest skips (byte ∷ bytes)) sound =
      checkpoint_is_sound digest now.workspace sound
  running_sound now (Failed fault) sound = checkpoint_is_sound digest now.workspace sound

  pub finished_sound : (status : StreamStatus) → IsSoundStreamStatus digest status
      → IsSoundRepository digest (finished digest status).repository
  finished_sound (Refused code repository) sound = sound
  finished_sound (Runs now tail) sound = by now.is_done
    where
      by : (b : Bool) → IsSoundRepository digest (cond b (ended_well [] now.workspace)
          (running_end digest now tail)).repository
      by true = checkpoint_is_sound digest now.workspace sound
      by false = running_sound now tail sound

  pub ended_sound : (before : Held) (result : Result Unit StreamError) (left : Repository)
      (out : List ℕ) → EndsAs digest before result left out
      → IsSound digest before.running.workspace → IsSoundRepository digest left
  ended_sound before (Ok u) left out h sound =
      rw (← h.stands) (finished_sound (Runs before.running before.tail) sound)
  ended_sound before (Err (stop.Fault code)) left out h sound =
      rw (← h.stands) (finished_sound (Runs before.running before.tail) sound)
  ended_sound before (Err (stop.Memory count)) left out h sound =
      rw (← h.stands) (checkpoint_is_sound digest before.running.workspace sound)
