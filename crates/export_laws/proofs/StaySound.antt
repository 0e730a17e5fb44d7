-- Acts that are well formed keep a workspace sound.
use Rattle.std.proofs.Common.{◌≡◌, ℕ, List, Option, Result, subst}
use Rattle.std.specs.Prelude.{IfOk, IfSome}
use Rattle.git_model.specs.GoodRepository.{IsShortRefName}
use Rattle.git_names.specs.Naming.{AnswersNames}
use Rattle.stream_grammar.specs.Acts.{Act}
use Rattle.stream_grammar.specs.Commands.{Done}
use Rattle.stream_grammar.specs.WellFormed.{IsWellFormed}
use Rattle.stream_parts.specs.declared.fault.Fault.{Fault}
use Rattle.import_session.specs.Meaning.{after_act}
use Rattle.import_session.specs.Sound.{IsSound}
use Rattle.stream_commands.specs.Workspace.{Effect, Workspace, opened, quiet}
use Rattle.import_session.proofs.SoundEnds.{ended_sound, stream_keeps}
use Rattle.session_laws.proofs.SoundLemmas.{act_keeps, empty_is_sound, new_is_sound}
use Rattle.export_laws.specs.Leaving.{Leaves, nothing, first_act}
use Rattle.export_laws.specs.Told.{Told, stream_told, workspace_of}
use Rattle.export_laws.specs.Whole.{nothing_there}
use Rattle.export_laws.proofs.StayWell.{AreWell}

module _ (digest : List ℕ → List ℕ) (names : AnswersNames digest) where
  -- what one act leaves, where it is not refused
  after-sound : (act : Act) (before next : Workspace) → IsWellFormed act → IsSound digest before
      → after_act digest act before ≡ quiet next → IsSound digest next
  after-sound act before next well sound is =
      subst (λ (r : Result Effect Fault). IfOk r (λ effect. IsSound digest effect.workspace)) is
      (act_keeps digest names before sound act well)

  pub leaves-sound : {acts : List Done} {before left : Workspace} → AreWell acts
      → IsSound digest before → Leaves digest acts before left → IsSound digest left
  leaves-sound well sound (nothing workspace) = sound
  leaves-sound well sound (first_act done later before ready next left ends is more) =
      leaves-sound well.1
      (after-sound done.act ready next well.0 (ended_sound digest names done.ends_commit before ready sound ends) is)
      more

-- an empty repository is where it begins
pub opened-sound : (digest : List ℕ → List ℕ) → IsSound digest (opened nothing_there)
opened-sound digest = new_is_sound digest nothing_there (empty_is_sound digest)

-- whatever HEAD is to name
pub head-sound : (digest : List ℕ → List ℕ) (told : Told) (old new : Option (List ℕ))
    → IfSome new IsShortRefName → IsSound digest (workspace_of old told)
    → IsSound digest (workspace_of new told)
head-sound digest told old new named sound =
    stream_keeps digest (workspace_of old told) sound (stream_told new told) named sound.marks
    sound.branches sound.tags sound.command
