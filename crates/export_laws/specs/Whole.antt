-- What an export leaves in an empty repository once its objects are told and saved.
use Rattle.std.specs.Prelude.{◌≡◌, ℕ, true, if◌then◌else◌, List, [], ◌++◌, Option, None, Some}
use Rattle.std.specs.Str.{bytes_eq}
use Rattle.git_model.specs.Content.{Content}
use Rattle.git_model.specs.Reach.{is_referred_to}
use Rattle.git_model.specs.RefStore.{first_head, no_refs}
use Rattle.git_model.specs.Repository.{Object, Repository, object_named}
use Rattle.stream_grammar.specs.Commands.{Done}
use Rattle.export_text.specs.ExportActs.{object_acts, opening_acts, saving_acts}
use Rattle.import_session.specs.Sound.{IsSound}
use Rattle.stream_commands.specs.Workspace.{Workspace, opened}
use Rattle.export_laws.specs.Leaving.{Leaves}
use Rattle.export_laws.specs.Saved.{IsSaved}
use Rattle.export_laws.specs.Told.{AreTold, Told}

-- A repository with no objects and no refs.
abbrev pub nothing_there : Repository
nothing_there = record { objects = []; refs = no_refs }

-- The HEAD that an export sets. It sets none if HEAD names the ref that it names at first.
unfoldable pub head_told : List ℕ → Option (List ℕ)
head_told head = if bytes_eq head first_head then None else Some head

-- Each object that the refs of a repository reach is there, trees too, under its name and with its
-- content.
abbrev pub HasReached : Repository → List Object → Type 0
HasReached repository objects = (id : List ℕ) (content : Content)
    → object_named id repository.objects ≡ Some content → is_referred_to repository id ≡ true
    → object_named id objects ≡ Some content

-- The acts of an export up to the checkpoint after its last object.
abbrev pub acts_to_saved : Repository → List Done
acts_to_saved repository =
    opening_acts repository.refs ++ object_acts repository ++ saving_acts

-- These acts lead from an empty repository to a workspace in which all is told and saved, and which
-- has everything that the refs reach.
pub record AreSaved (digest : List ℕ → List ℕ) (repository : Repository) : Type 0 where
  pub told : Told
  pub saved : Workspace
  pub leaves : Leaves digest (acts_to_saved repository) (opened nothing_there) saved
  pub tells : AreTold repository repository.objects told
  pub saves : IsSaved repository told saved
  pub whole : HasReached repository told.objects
  pub sound : IsSound digest saved
