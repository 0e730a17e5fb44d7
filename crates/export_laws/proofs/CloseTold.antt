-- The acts of a reached commit tell it.
use Rattle.std.proofs.Common.{◌≡◌, ℕ, true, List, [], ◌∷◌, ◌++◌, Option}
use Rattle.git_model.specs.declared.kind.Kind.TheVariants as kind
use Rattle.git_model.specs.Commit.{Commit}
use Rattle.git_model.specs.CommitReading.{commit_read}
use Rattle.git_model.specs.Content.{content_from}
use Rattle.git_model.specs.GoodRepository.{AreObjects}
use Rattle.git_model.specs.Reach.{is_referred_to}
use Rattle.git_model.specs.Repository.{Object, Repository}
use Rattle.tenant_tables.specs.Sums.{TreesFit}
use Rattle.import_session.specs.Sound.{IsSound}
use Rattle.stream_commands.specs.Workspace.{Workspace}
use Rattle.export_text.specs.ExportActs.{ends}
use Rattle.export_laws.specs.Commits.{commit_told, workspace_with}
use Rattle.export_laws.specs.Leaving.{Leaves, nothing, first_act}
use Rattle.export_laws.specs.Told.{AreTold, IsToldNext, Told, workspace_of}
use Rattle.export_laws.proofs.Acts.{both}
use Rattle.export_laws.proofs.Blobs.{waits}
use Rattle.export_laws.proofs.Close.{commit-ends, commit-tells, next}
use Rattle.export_laws.proofs.OpenTold.{IsOpened, at_tip, commit-opened}

module _ (digest : List ℕ → List ℕ) (repository : Repository) (good : AreObjects digest repository.objects)
    (fit : TreesFit [] repository.objects) (first rest : List Object) (id bytes : List ℕ)
    (is : repository.objects ≡ first ++ record { id = id; content = content_from kind.Commit bytes } ∷ rest)
    (reached : is_referred_to repository id ≡ true) (told : Told) (all : AreTold repository first told)
    (named : Option (List ℕ)) (sound : IsSound digest (workspace_of named told)) where
  abbrev c : Commit
  c = commit_read bytes

  abbrev now : Told
  now = next digest repository id bytes told

  opening : IsOpened digest repository.objects id c told
  opening = commit-opened digest repository good fit first rest id bytes is reached told all named sound

  abbrev open_at : Option (List ℕ) → Workspace
  open_at head = workspace_with head (at_tip told opening.tip) (commit_told repository.objects id c)

  -- a blank line ends it
  the-end : (head : Option (List ℕ)) → Leaves digest (ends ∷ []) (open_at head) (workspace_of head now)
  the-end head =
      first_act ends [] (open_at head) (workspace_of head now) (workspace_of head now) (workspace_of head now)
      (commit-ends digest repository good first rest id bytes is reached told all head opening.tip)
      (waits digest (workspace_of head now)) (nothing (workspace_of head now))

  pub commit-told : IsToldNext digest repository first
      (record { id = id; content = content_from kind.Commit bytes }) told
  commit-told = record {
    next = now;
    leaves = λ head. both digest (opening.leaves head) (the-end head);
    tells = commit-tells digest repository good first rest id bytes is reached told all;
  }
